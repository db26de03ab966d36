-- The value that a text begins with, by its ordinary octets and what stands behind them. Assumes nothing.
use Prim.Native.Nat.{ℕ, suc, ◌+◌}
use mathlib.Core.Path.{◌≡◌, refl, sym, ap, ◌∙◌}
use mathlib.Core.Bool.{true, false}
use mathlib.Core.List.{List, [], ◌∷◌}
use native.Mathlib.Omega.{arith}
use lib.ListN.{length}
use lib.Seq.{drop-length}
use borrow.Author.Tests.{not-true}
use Rattle.lists.specs.Lists.{empty, all, up_to, from}
use Rattle.lists.proofs.Bools.{split, and_left, and_right}
use Rattle.lists.proofs.Tests.{empty_known}
use Rattle.protocol.specs.Octets.{blank}
use Rattle.protocol.specs.Text.{solid, unless_at_end, trim_end, lead}
use Rattle.protocol.specs.Readable.{well_formed, pattern_start, readable_pattern}
use Rattle.protocol.specs.Classes.{stop}
use Rattle.readable.specs.Due.{ordinary, unusual}
use Rattle.readable.proofs.Characters.{well_formed_front}
use Rattle.fields.specs.Fields.{ended}
use Rattle.fields.proofs.Ends.{solid_stays}
use Rattle.fields.proofs.Sorts.{stop_solid, past_stop, past_blank}
use Rattle.kinds.proofs.Fronts.{above, formed_readable}

-- a value is empty exactly where spaces and tabs go on to the end
pub value_empty : (l : List ℕ) → empty (trim_end (up_to stop l)) ≡ ended (from solid l)
unfolding up_to from trim_end unless_at_end
value_empty [] = refl
value_empty (x ∷ l) =
    split (stop x) (λ s. rw (s, not-true (blank x) (stop_solid x s), s))
    (λ s.
    split (blank x) (λ b. rw (s, b) (go b (trim_end (up_to stop l)) (value_empty l)))
    (λ b. rw (s, b, solid_stays x (trim_end (up_to stop l)) b, s)))
  where
    go : blank x ≡ true → (t : List ℕ) → empty t ≡ ended (from solid l) → empty (unless_at_end x t) ≡ ended (from solid l)
    go b [] e = rw b e
    go b (y ∷ t) e = e

-- what ends a value is no space or tab
pub ended_solid : (l : List ℕ) → ended l ≡ true → from solid l ≡ l
unfolding from
ended_solid [] h = refl
ended_solid (x ∷ l) h = rw (not-true (blank x) (stop_solid x h))

-- an unusual octet that begins a value, or none
unusual_first : (x : ℕ) (t : List ℕ) → ordinary x ≡ false → all ordinary (unless_at_end x t) ≡ empty (unless_at_end x t)
unfolding all unless_at_end
unusual_first x [] e = split (blank x) (λ b. rw b) (λ b. rw (b, e))
unusual_first x (y ∷ t) e = rw e

-- All octets of a value are ordinary exactly where spaces and tabs go on to the end behind the ordinary octets.
pub ordinary_told : (l : List ℕ) → all ordinary (trim_end (up_to stop l)) ≡ ended (from solid (from unusual l))
unfolding all up_to from trim_end
ordinary_told [] = refl
ordinary_told (x ∷ l) =
    split (ordinary x)
    (λ e.
    let low = above x e in
    rw (past_stop x (omega (arith, low)), e, solid_stays x (trim_end (up_to stop l)) (past_blank x (omega (arith, low))), e) (ordinary_told l))
    (λ e. rw e (other e ∙ value_empty (x ∷ l)))
  where
    other : ordinary x ≡ false → all ordinary (trim_end (up_to stop (x ∷ l))) ≡ empty (trim_end (up_to stop (x ∷ l)))
    other e = split (stop x) (λ s. rw s) (λ s. rw s (unusual_first x (trim_end (up_to stop l)) e))

-- They are the value then.
pub value_ordinary : (l : List ℕ) → ended (from solid (from unusual l)) ≡ true → up_to unusual l ≡ trim_end (up_to stop l)
unfolding up_to from trim_end
value_ordinary [] h = refl
value_ordinary (x ∷ l) h =
    split (ordinary x)
    (λ e.
    let low = above x e in
    rw (past_stop x (omega (arith, low)), e, solid_stays x (trim_end (up_to stop l)) (past_blank x (omega (arith, low))))
    (ap (λ (m : List ℕ). x ∷ m) (value_ordinary l (rw e at h))))
    (λ e. rw e (sym (empty_known (trim_end (up_to stop (x ∷ l))) (value_empty (x ∷ l) ∙ rw e at h))))

-- Otherwise the value goes on behind them: no stop is among them, and no space or tab.
pub value_behind : (l : List ℕ) → length (trim_end (up_to stop l)) ≡ length (up_to unusual l) + length (trim_end (up_to stop (from unusual l)))
unfolding up_to from trim_end
value_behind [] = omega arith
value_behind (x ∷ l) =
    split (ordinary x)
    (λ e.
    let low = above x e in
    rw (past_stop x (omega (arith, low)), e, solid_stays x (trim_end (up_to stop l)) (past_blank x (omega (arith, low)))) (omega (arith, value_behind l)))
    (λ e. rw e (omega arith))

-- So it goes on behind spaces and tabs too, where something that is no stop stands behind them.
pub value_spaces : (l : List ℕ) → ended (from solid l) ≡ false → length (trim_end (up_to stop l)) ≡ lead l + length (trim_end (up_to stop (from solid l)))
unfolding lead up_to from trim_end unless_at_end
value_spaces [] h = absurd (cc)
value_spaces (x ∷ l) h =
    split (blank x)
    (λ b.
    let inner : ended (from solid l) ≡ false = rw b at h in
    rw (b, unstopped b) (longer (trim_end (up_to stop l)) (value_empty l ∙ inner) (omega (arith, value_spaces l inner))))
    (λ b. rw b (omega arith))
  where
    unstopped : blank x ≡ true → stop x ≡ false
    unstopped b = split (stop x) (λ s. cc (stop_solid x s, b)) (λ s. s)

    longer : (t : List ℕ) → empty t ≡ false → {n : ℕ} → suc (length t) ≡ n → length (unless_at_end x t) ≡ n
    longer [] e p = absurd (cc)
    longer (y ∷ t) e p = p

-- ordinary octets are all in front of the first unusual one
all_front : (v : List ℕ) → all ordinary v ≡ true → up_to unusual v ≡ v
unfolding all up_to
all_front [] h = refl
all_front (x ∷ v) h =
    rw (and_left (ordinary x) (all ordinary v) h) (ap (λ (m : List ℕ). x ∷ m) (all_front v (and_right (ordinary x) (all ordinary v) h)))

-- A pattern of ordinary octets is readable if it begins as one may.
pub ordinary_readable : (v : List ℕ) → all ordinary v ≡ true → readable_pattern v ≡ pattern_start v
unfolding well_formed
ordinary_readable v h = formed_readable v (sym (well_formed_front v) ∙ rw (all_front v h, drop-length v))
