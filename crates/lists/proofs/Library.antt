-- What the library's functions on lists come to in the words of specs/. Assumes nothing.
use Rattle.std.specs.Prelude.{ℕ, Bool, true, false, List, [], ◌∷◌, ◌||◌, ◌&&◌, ◌+◌, not, cond, length, eqb, if◌then◌else◌}
use Rattle.std.specs.Cmp.Lexicographic.{pointwise}
use Rattle.std.specs.List.{list_any, list_all, position_or_len}
use mathlib.Core.Path.{◌≡◌, refl, ap}
use native.Mathlib.Omega.{arith}
use Rattle.lists.specs.Lists.{any, all, up_to, same}

module _ {A : Type 0} (p : A → Bool) where
  pub any_is : (l : List A) → list_any p l ≡ any p l
  unfolding any
  any_is [] = refl
  any_is (x ∷ l) = ap (λ b. p x || b) (any_is l)

  pub all_is : (l : List A) → list_all p l ≡ all p l
  unfolding all
  all_is [] = refl
  all_is (x ∷ l) = ap (λ b. p x && b) (all_is l)

  -- where the first element that passes stands, or the list's length
  pub position_is : (l : List A) → position_or_len p l ≡ length (up_to p l)
  unfolding up_to
  position_is [] = refl
  position_is (x ∷ l) = elim (p x) as (λ b. cond (not b) (1 + position_or_len p l) 0 ≡ length (if b then [] else x ∷ up_to p l)) [ true ↦ refl | false ↦ omega (arith, position_is l) ]

-- `==` on slices of octets
pub same_is : (l m : List ℕ) → pointwise eqb l m ≡ same l m
unfolding same
same_is [] [] = refl
same_is [] (y ∷ m) = refl
same_is (x ∷ l) [] = refl
same_is (x ∷ l) (y ∷ m) = ap (λ b. eqb x y && b) (same_is l m)
