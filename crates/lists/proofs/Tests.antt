-- Tests of lists, from one index to the next as a loop goes. Assumes nothing.
use Prim.Native.Nat.{ℕ, suc, ◌+◌, ◌≤◌, ◌<◌}
use mathlib.Core.Path.{◌≡◌, refl, ap, ap₂}
use mathlib.Core.Bool.{Bool, true, false, and-true, and-false, false≢true}
use mathlib.Core.Logic.{◌↔◌}
use mathlib.Core.List.{List, [], ◌∷◌}
use native.Mathlib.Omega.{arith}
use lib.Dec.{eqb}
use lib.ListN.{length, drop, get_or, drop_of_length-le}
use borrow.Author.Tests.{eqb-true, eq-eqb, ne_eqb}
use Rattle.lists.specs.Lists.{empty, any, same}
use Rattle.lists.proofs.Bools.{and_left, and_right}
use Rattle.lists.proofs.Scans.{drop_one}

module _ {A : Type 0} where
  pub empty_none : (l : List A) → length l ≡ 0 → empty l ≡ true
  empty_none [] h = refl
  empty_none (x ∷ l) h = absurd (omega arith)

  pub empty_some : (l : List A) → (length l ≡ 0 → ⊥) → empty l ≡ false
  empty_some [] h = absurd (h refl)
  empty_some (x ∷ l) h = refl

  pub empty_known : (l : List A) → empty l ≡ true → l ≡ []
  empty_known [] e = refl
  empty_known (x ∷ l) e = absurd (false≢true e)

module _ {A : Type 0} (f : A → Bool) (l : List A) (i : ℕ) where
  pub any_end : length l ≤ i → any f (drop i l) ≡ false
  unfolding any
  any_end h = rw (drop_of_length-le l h)

  module _ (d : A) (h : i < length l) where
    pub any_here : f (get_or l i d) ≡ true → any f (drop i l) ≡ true
    unfolding any
    any_here e = rw (drop_one l i d h, e)

    pub any_on : f (get_or l i d) ≡ false → any f (drop i l) ≡ any f (drop (i + 1) l)
    unfolding any
    any_on e = rw (drop_one l i d h, e)

-- the test of two lists is their equality
same_known : (l m : List ℕ) → same l m ≡ true → l ≡ m
unfolding same
same_known [] [] h = refl
same_known [] (y ∷ m) h = absurd (false≢true h)
same_known (x ∷ l) [] h = absurd (false≢true h)
same_known (x ∷ l) (y ∷ m) h =
    ap₂ ◌∷◌ (eqb-true x y (and_left (eqb x y) (same l m) h)) (same_known l m (and_right (eqb x y) (same l m) h))

same_self : (l : List ℕ) → same l l ≡ true
unfolding same
same_self [] = refl
same_self (x ∷ l) = rw (eq-eqb x x refl) (same_self l)

pub same_equal : (l m : List ℕ) → (same l m ≡ true) ↔ (l ≡ m)
same_equal l m = (same_known l m, λ e. rw e (same_self m))

-- lists of two lengths are not the same
pub same_length : (l m : List ℕ) → (length l ≡ length m → ⊥) → same l m ≡ false
unfolding same
same_length [] [] h = absurd (h refl)
same_length [] (y ∷ m) h = refl
same_length (x ∷ l) [] h = refl
same_length (x ∷ l) (y ∷ m) h = rw (same_length l m (λ e. h (ap suc e))) (and-false (eqb x y))

pub same_one : (l : List ℕ) (y : ℕ) → length l ≡ 1 → same l (y ∷ []) ≡ eqb (get_or l 0 0) y
unfolding same
same_one [] y h = absurd (omega arith)
same_one (x ∷ []) y h = and-true (eqb x y)
same_one (x ∷ z ∷ l) y h = absurd (omega arith)

module _ (l m : List ℕ) (i : ℕ) where
  pub same_end : length l ≤ i → length m ≤ i → same (drop i l) (drop i m) ≡ true
  unfolding same
  same_end h k = rw (drop_of_length-le l h, drop_of_length-le m k)

  module _ (h : i < length l) (k : i < length m) where
    pub same_other : (get_or l i 0 ≡ get_or m i 0 → ⊥) → same (drop i l) (drop i m) ≡ false
    unfolding same
    same_other e = rw (drop_one l i 0 h, drop_one m i 0 k, ne_eqb _ _ e)

    pub same_on : get_or l i 0 ≡ get_or m i 0 → same (drop i l) (drop i m) ≡ same (drop (i + 1) l) (drop (i + 1) m)
    unfolding same
    same_on e = rw (drop_one l i 0 h, drop_one m i 0 k, eq-eqb _ _ e)
