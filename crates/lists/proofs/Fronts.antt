-- Laws on a list's front: all but its last element, stores from a place on, and the part before a test passes. Assumes nothing.
use Prim.Native.Nat.{ℕ, suc, ◌+◌, ◌-◌, ◌≤◌}
use mathlib.Core.Path.{◌≡◌, refl, ap, ◌∙◌}
use mathlib.Core.Bool.{Bool, true, false, not}
use mathlib.Core.List.{List, [], ◌∷◌, ◌++◌, drop_last}
use native.Mathlib.Omega.{arith}
use native.Mathlib.Numerals.{unary_clauses}
use lib.ListN.{length, take, drop}
use lib.Seq.{sets, sets-eq}
use Rattle.lists.specs.Lists.{all, up_to}
use Rattle.lists.proofs.Bools.{split, and_left, and_right}
use Rattle.lists.proofs.Parts.{up_to_on}

module _ {A : Type 0} where
  pub drop_last_take : (l : List A) → drop_last l ≡ take (length l - 1) l
  drop_last_take [] = refl
  drop_last_take (x ∷ []) = refl
  drop_last_take (x ∷ y ∷ l) = simp unary_clauses (ap (λ (m : List A). x ∷ m) (simp unary_clauses at (drop_last_take (y ∷ l))))

  -- stores of two lists, one behind the other
  pub sets_append : (a b l : List A) (i : ℕ) → sets l i (a ++ b) ≡ sets (sets l i a) (i + length a) b
  sets_append [] b l i = let e : i + 0 ≡ i = omega arith in rw e
  sets_append (x ∷ a) b l i =
      let e : suc i + length a ≡ i + suc (length a) = omega arith in
      rw (sets_append a b _ (suc i), e)

  -- stores from the front on
  pub sets_front : (v l : List A) → length v ≤ length l → sets l 0 v ≡ v ++ drop (length v) l
  sets_front v l h =
      let e : 0 + length v ≡ length v = omega arith in
      sets-eq v l 0 (omega arith) ∙ rw e

  -- elements that pass a test f stand before the first that passes g, where none passes both
  module _ (f g : A → Bool) (apart : (x : A) → f x ≡ true → g x ≡ false) where
    pub up_to_clear : (a b : List A) → all f a ≡ true → up_to g (a ++ b) ≡ a ++ up_to g b
    unfolding all
    up_to_clear [] b h = refl
    up_to_clear (x ∷ a) b h =
        rw (up_to_on g x (a ++ b) (apart x (and_left (f x) (all f a) h)))
        (ap (λ (m : List A). x ∷ m) (up_to_clear a b (and_right (f x) (all f a) h)))

  -- the front of the elements that pass the test f
  module _ (f : A → Bool) where
    abbrev pub front : List A → List A
    front l = up_to (λ x. not (f x)) l

    pub front_passes : (l : List A) → all f (front l) ≡ true
    unfolding all up_to
    front_passes [] = refl
    front_passes (x ∷ l) = split (f x) (λ e. rw e (rw e (front_passes l))) (λ e. rw e)

    pub front_append : (a b : List A) → all f a ≡ true → front (a ++ b) ≡ a ++ front b
    front_append a b h = up_to_clear f (λ x. not (f x)) (λ x e. ap not e) a b h
