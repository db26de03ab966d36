-- Spaces and tabs at the end of a text, one octet at a time; and what is left of a text without those at both ends. Assumes nothing.
use Prim.Native.Nat.{ℕ, zero, suc, ◌+◌, ◌≤◌, ◌<◌}
use mathlib.Core.Path.{◌≡◌, refl}
use mathlib.Core.Bool.{true, false}
use mathlib.Core.List.{List, [], ◌∷◌}
use native.Mathlib.Omega.{arith}
use lib.ListN.{length, get_or}
use Rattle.protocol.specs.Octets.{blank}
use Rattle.lists.proofs.Places.{occurs_fits}
use Rattle.protocol.specs.Text.{lead, unless_at_end, trim_end, trim}
use Rattle.protocol.proofs.Values.{trimmed}

unless_blank : (x : ℕ) (l : List ℕ) → blank x ≡ true → 0 ≡ length l → 0 ≡ length (unless_at_end x l)
unfolding unless_at_end
unless_blank x [] e h = rw e
unless_blank x (y ∷ l) e h = absurd (omega arith)

unless_solid : (x : ℕ) (l : List ℕ) → blank x ≡ false → length (unless_at_end x l) ≡ suc (length l)
unfolding unless_at_end
unless_solid x [] e = rw e
unless_solid x (y ∷ l) e = refl

unless_more : (x : ℕ) (l : List ℕ) → 0 < length l → length (unless_at_end x l) ≡ suc (length l)
unfolding unless_at_end
unless_more x [] h = absurd (omega arith)
unless_more x (y ∷ l) h = refl

-- only spaces and tabs
pub trimmed_none : (l : List ℕ) → ((k : ℕ) → k < length l → blank (get_or l k 0) ≡ true) → 0 ≡ length (trim_end l)
unfolding trim_end
trimmed_none [] h = refl
trimmed_none (x ∷ l) h = unless_blank x (trim_end l) (h 0 (omega arith)) (trimmed_none l (λ k q. h (suc k) (omega arith)))

-- only spaces and tabs behind an octet that is neither
pub trimmed_at : (l : List ℕ) (i : ℕ) → i < length l → blank (get_or l i 0) ≡ false
    → ((k : ℕ) → i < k → k < length l → blank (get_or l k 0) ≡ true) → i + 1 ≡ length (trim_end l)
unfolding trim_end
trimmed_at [] i h here behind = absurd (omega arith)
trimmed_at (x ∷ l) zero h here behind =
    omega (arith, unless_solid x (trim_end l) here, trimmed_none l (λ k q. behind (suc k) (omega arith) (omega arith)))
trimmed_at (x ∷ l) (suc i) h here behind =
    let rest = trimmed_at l i (omega arith) here (λ k p q. behind (suc k) (omega arith) (omega arith)) in
    omega (arith, rest, unless_more x (trim_end l) (omega arith))

-- what is left without spaces and tabs at both ends lies inside the text
pub trim_fits : (l : List ℕ) → lead l + length (trim l) ≤ length l
trim_fits l = occurs_fits l (trim l) (lead l) (trimmed l)
