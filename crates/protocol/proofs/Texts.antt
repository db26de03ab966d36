-- Two texts that are equal, ASCII case ignored. Assumes nothing.
use Prim.Native.Nat.{ℕ, ◌+◌, ◌≤◌}
use Prim.Native.Char.{code}
use mathlib.Core.Path.{◌≡◌, refl, sym, ap, ◌∙◌}
use mathlib.Core.Bool.{true, false}
use mathlib.Core.List.{List, [], ◌∷◌, map}
use native.Mathlib.Omega.{arith}
use lib.Dec.{leb}
use lib.ListN.{length, length-map}
use borrow.Author.Tests.{leb-true, le-leb, lt-leb}
use Rattle.lists.specs.Lists.{all}
use Rattle.lists.proofs.Bools.{split, and_left, and_right}
use Rattle.lists.proofs.Tests.{same_equal, same_length}
use Rattle.protocol.specs.Octets.{upper, lower, token, lower_case}
use Rattle.protocol.specs.Text.{same_ignoring_case}

-- texts of two lengths are not equal
pub case_length : (v w : List ℕ) → (length v ≡ length w → ⊥) → false ≡ same_ignoring_case v w
unfolding same_ignoring_case
case_length v w h =
    sym (same_length (map lower_case v) (map lower_case w) (λ e. h (sym (length-map v lower_case) ∙ e ∙ length-map w lower_case)))

-- what is alike for a letter in both cases is so for every octet
module _ {A : Type 0} (f : ℕ → A) (alike : (x : ℕ) → code "A" ≤ x → x ≤ code "Z" → f (x + 32) ≡ f x) where
  pub either_case : (x : ℕ) → f (lower_case x) ≡ f x
  unfolding lower_case upper
  either_case x =
      split (upper x)
      (λ u.
      rw u (alike x (leb-true (code "A") x (and_left (leb (code "A") x) (leb x (code "Z")) u)) (leb-true x (code "Z") (and_right (leb (code "A") x) (leb x (code "Z")) u))))
      (λ u. rw u)

-- a letter is an octet of a name
token_case : (x : ℕ) → token (lower_case x) ≡ token x
unfolding token upper lower
token_case =
    either_case token
    (λ x l h.
    rw (le-leb (code "A") (x + 32) (omega arith), lt-leb (x + 32) (code "Z") (omega arith), le-leb (code "a") (x + 32) (omega arith), le-leb (x + 32) (code "z") (omega arith), le-leb (code "A") x l, le-leb x (code "Z") h))

tokens_case : (v : List ℕ) → all token (map lower_case v) ≡ all token v
unfolding all
tokens_case [] = refl
tokens_case (x ∷ v) = rw (token_case x, tokens_case v)

module _ (v w : List ℕ) (e : same_ignoring_case v w ≡ true) where
  lowered : map lower_case v ≡ map lower_case w
  unfolding same_ignoring_case
  lowered = (same_equal (map lower_case v) (map lower_case w)).0 e

  pub case_lengths : length v ≡ length w
  case_lengths = sym (length-map v lower_case) ∙ ap length lowered ∙ length-map w lower_case

  -- both have the octets of a name only, or neither
  pub case_tokens : all token v ≡ all token w
  case_tokens = sym (tokens_case v) ∙ ap (all token) lowered ∙ tokens_case w
