-- Normalising leaves literal octets as they are, and a path without an octet that is encoded. Assumes nothing.
use Prim.Native.Nat.{ℕ, ◌+◌, ◌≤◌, ◌<◌}
use Prim.Native.Char.{Char, code}
use mathlib.Core.Path.{◌≡◌, refl, sym, ap, ◌∙◌}
use mathlib.Core.Bool.{Bool, true, false, not, not-not, true≢false}
use mathlib.Core.List.{List, [], ◌∷◌, ◌++◌}
use native.Mathlib.Omega.{arith}
use lib.Dec.{leb, ltb}
use lib.ListN.{length, take, drop, length-append, take-append-drop}
use lib.Seq.{length-take-le}
use borrow.Author.Tests.{leb-true, lt-leb, ne_eqb, ltb-false}
use Rattle.std.specs.List.{position, position_or_len}
use Rattle.std.specs.Option.{unwrap_or}
use Rattle.lists.proofs.Library.{position_is}
use Rattle.lists.specs.Lists.{all, any, up_to}
use Rattle.lists.proofs.Bools.{split, and_left, and_right}
use Rattle.lists.proofs.Scans.{up_to_fits, take_up_to}
use Rattle.lists.proofs.Fronts.{up_to_clear, front_passes}
use Rattle.protocol.specs.Octets.{is}
use Rattle.protocol.specs.Normal.{special, is_encoded, normal, normal_path}
use Rattle.escapes.specs.Escapes.{kept}
use Rattle.normal.specs.Literal.{literal, not_literal}
use Rattle.normal.proofs.Steps.{normal_kept}

module _ (x : ℕ) (h : literal x ≡ true) where
  literal_above : 0x2B ≤ x
  literal_above = leb-true 0x2B x (and_left (leb 0x2B x) (leb x 0x7E) h)

  -- none of the octets below 0x2B
  pub literal_not : (c : Char) → code c < 0x2B → is c x ≡ false
  literal_not c l = ne_eqb x (code c) (λ e. omega (arith, literal_above))

  pub literal_kept : (stars : Bool) → is_encoded stars x ≡ false
  unfolding special
  literal_kept stars =
      rw (literal_not "%" (omega arith), literal_not "$" (omega arith), literal_not "*" (omega arith), lt-leb 0x7F x (omega (arith, leb-true x 0x7E (and_right (leb 0x2B x) (leb x 0x7E) h))))

pub literal_normal : (stars : Bool) (l : List ℕ) → all literal l ≡ true → normal stars 0 l ≡ l
unfolding all normal
literal_normal stars [] h = refl
literal_normal stars (x ∷ l) h =
    normal_kept stars x l (literal_kept x (and_left (literal x) (all literal l) h) stars)
    ∙ ap (λ (m : List ℕ). x ∷ m) (literal_normal stars l (and_right (literal x) (all literal l) h))

-- the octets in front of the first that isn't literal, n of them
pub front_known : (s : List ℕ) (n : ℕ) → n ≡ length (up_to not_literal s) → (n ≤ length s) × (all literal (take n s) ≡ true)
front_known s n h =
    (omega (arith, h, up_to_fits not_literal s), rw (h, take_up_to not_literal s) (front_passes literal s))

-- literal octets stand in front of the first that is encoded
literal_first : (stars : Bool) (n : ℕ) (s : List ℕ) → all literal (take n s) ≡ true → up_to (is_encoded stars) s ≡ take n s ++ up_to (is_encoded stars) (drop n s)
literal_first stars n s h =
    ap (up_to (is_encoded stars)) (sym (take-append-drop n s))
    ∙ up_to_clear literal (is_encoded stars) (λ x e. literal_kept x e stars) (take n s) (drop n s) h

-- the octets in front of the first that is encoded: n literal ones, and those behind them
pub kept_behind : (stars : Bool) (s : List ℕ) (n : ℕ) → n ≡ length (up_to not_literal s)
    → n + length (up_to (is_encoded stars) (drop n s)) ≡ length (up_to (is_encoded stars) s)
kept_behind stars s n e =
    let f : (n ≤ length s) × (all literal (take n s) ≡ true) = front_known s n e in
    omega (
      arith,
      ap length (literal_first stars n s f.1),
      length-append (take n s) (up_to (is_encoded stars) (drop n s)),
      length-take-le n s f.0,
    )

-- an octet is encoded if it isn't kept
pub as_encoded : (stars : Bool) (x : ℕ) (b : Bool) → b ≡ not (kept stars x) → b ≡ is_encoded stars x
as_encoded stars x b h = h ∙ not-not (is_encoded stars x)

-- the place of the first octet that passes, or the length where none does
pub front_position : (f : ℕ → Bool) (l : List ℕ) → unwrap_or (position f l) (length l) ≡ length (up_to f l)
front_position f l =
    split (ltb (position_or_len f l) (length l)) (λ e. rw e (position_is f l))
    (λ e. rw e (omega (arith, ltb-false _ _ e, position_is f l, up_to_fits f l)))

-- an octet that is encoded isn't literal
pub encoded_other : (x : ℕ) → is_encoded false x ≡ true → not_literal x ≡ true
encoded_other x e = split (literal x) (λ k. absurd (true≢false (sym e ∙ literal_kept x k false))) (λ k. ap not k)

-- a path without such an octet is its own normalised path
pub kept_path : (path : List ℕ) → any (is_encoded false) path ≡ false → normal_path path ≡ path
unfolding normal_path normal any
kept_path [] h = refl
kept_path (x ∷ l) h =
    split (is_encoded false x) (λ e. absurd (true≢false (rw e at h)))
    (λ e. normal_kept false x l e ∙ ap (λ (m : List ℕ). x ∷ m) (kept_path l (rw e at h)))
