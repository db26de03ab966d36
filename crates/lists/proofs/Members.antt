-- Members of a list, those that pass a test, sums over them, and numbers that ascend. Assumes nothing.
use Rattle.std.specs.Prelude.{if◌then◌else◌}
use Prim.Native.Nat.{ℕ, ◌*◌, ◌≤◌, ◌<◌}
use mathlib.Core.Path.{◌≡◌, refl, sym, ap, subst, ◌∙◌}
use mathlib.Core.Bool.{Bool, true, false, ◌&&◌, or-true, false≢true}
use mathlib.Core.Logic.{◌↔◌, ⊎_elim}
use mathlib.Core.List.Memᴰ
use mathlib.Core.List.{List, [], ◌∷◌, ◌++◌, map, Memᴰ}
use native.Mathlib.Omega.{arith}
use native.Mathlib.Nat.{add-mul}
use Rattle.lists.specs.Ascending.{Ascending}
use Rattle.lists.specs.Each.{Each}
use Rattle.lists.specs.Lists.{any, kept, through, total}
use Rattle.lists.proofs.Bools.{split}

module _ {A : Type 0} where
  pub no_member : (l : List A) → ((x : A) → Memᴰ x l → ⊥) → l ≡ []
  no_member [] h = refl
  no_member (x ∷ l) h = absurd (h x (Memᴰ.head refl))

  -- what each element has, a member has
  pub each_member : (P : A → Type 0) (l : List A) (x : A) → Each P l → Memᴰ x l → P x
  each_member P [] x h m = absurd (Memᴰ.not-nil m)
  each_member P (y ∷ l) x h m =
      ⊎_elim (λ (e : x ≡ y). subst P (sym e) h.0) (λ (n : Memᴰ x l). each_member P l x h.1 n) (Memᴰ.cases_cons m)

  pub each_map : (P Q : A → Type 0) (l : List A) → ((x : A) → P x → Q x) → Each P l → Each Q l
  each_map P Q [] f h = tt
  each_map P Q (x ∷ l) f h = (f x h.0, each_map P Q l f h.1)

module _ {A : Type 0} (f : A → Bool) where
  some_member : (l : List A) → any f l ≡ true → (x : A) × Memᴰ x l × (f x ≡ true)
  unfolding any
  some_member [] h = absurd (false≢true h)
  some_member (y ∷ l) h =
      split (f y) (λ e. (y, Memᴰ.head refl, e))
      (λ e. let (x, m, p) = some_member l (rw e at h) in (x, Memᴰ.tail m, p))

  member_any : (l : List A) (x : A) → Memᴰ x l → f x ≡ true → any f l ≡ true
  unfolding any
  member_any [] x m e = absurd (Memᴰ.not-nil m)
  member_any (y ∷ l) x m e =
      ⊎_elim (λ (p : x ≡ y). rw (← p, e)) (λ (n : Memᴰ x l). rw (member_any l x n e) (or-true (f y))) (Memᴰ.cases_cons m)

  -- some element passes the test exactly where a member does
  pub any_member : (l : List A) → (any f l ≡ true) ↔ ((x : A) × Memᴰ x l × (f x ≡ true))
  any_member l = (some_member l, λ (x, m, e). member_any l x m e)

  module _ (x : A) (l : List A) where
    pub kept_in : f x ≡ true → kept f (x ∷ l) ≡ x ∷ kept f l
    unfolding kept
    kept_in e = rw e

    pub kept_out : f x ≡ false → kept f (x ∷ l) ≡ kept f l
    unfolding kept
    kept_out e = rw e

module _ {A : Type 0} (f g : A → Bool) where
  -- one test after the other
  pub kept_kept : (l : List A) → kept g (kept f l) ≡ kept (λ x. f x && g x) l
  unfolding kept
  kept_kept [] = refl
  kept_kept (x ∷ l) =
      split (f x)
      (λ e. rw e (ap (λ (m : List A). (if g x then x ∷ [] else []) ++ m) (kept_kept l)))
      (λ e. rw e (kept_kept l))

  -- up to the first that passes both tests, among those that pass the first one: that one ends it, or nothing does
  pub through_none : (l : List A) → Each (λ x. (f x && g x) ≡ false) l → through g (kept f l) ≡ kept f l
  unfolding kept through
  through_none [] h = refl
  through_none (x ∷ l) h =
      split (f x)
      (λ e. rw (e, rw e at h.0) (ap (λ (m : List A). x ∷ m) (through_none l h.1)))
      (λ e. rw e (through_none l h.1))

  pub through_first : (front back : List A) (x : A) → Each (λ y. (f y && g y) ≡ false) front → f x ≡ true → g x ≡ true
      → through g (kept f (front ++ (x ∷ back))) ≡ kept f front ++ (x ∷ [])
  unfolding kept through
  through_first [] back x h p q = rw (p, q)
  through_first (y ∷ front) back x h p q =
      split (f y)
      (λ e. rw (e, rw e at h.0) (ap (λ (m : List A). y ∷ m) (through_first front back x h.1 p q)))
      (λ e. rw e (through_first front back x h.1 p q))

module _ {A : Type 0} (f : A → Bool) where
  pub kept_middle : (front back : List A) (x : A) → f x ≡ true → kept f (front ++ (x ∷ back)) ≡ kept f front ++ (x ∷ kept f back)
  unfolding kept
  kept_middle [] back x p = rw p
  kept_middle (y ∷ front) back x p =
      split (f y) (λ e. rw e (ap (λ (m : List A). y ∷ m) (kept_middle front back x p))) (λ e. rw e (kept_middle front back x p))

module _ {A : Type 0} (f g : A → ℕ) (k : ℕ) (h : (x : A) → f x ≤ g x * k) where
  -- a bound on each element bounds the sum
  pub total_bound : (l : List A) → total f l ≤ total g l * k
  unfolding total
  total_bound [] = omega arith
  total_bound (x ∷ l) = omega (arith, h x, total_bound l, add-mul (g x) (total g l) k)

-- numbers that ascend from k on do so from a smaller one
pub ascending_from : (j k : ℕ) (l : List ℕ) → j ≤ k → Ascending k l → Ascending j l
ascending_from j k [] h a = tt
ascending_from j k (n ∷ l) h a = (omega arith, a.1)

module _ {A : Type 0} (f : A → ℕ) where
  -- each is greater than the bound, and each behind an element greater than that one's
  pub ascending_member : (k : ℕ) (l : List A) (x : A) → Ascending k (map f l) → Memᴰ x l → k < f x
  ascending_member k [] x a m = absurd (Memᴰ.not-nil m)
  ascending_member k (y ∷ l) x a m =
      ⊎_elim (λ (e : x ≡ y). rw e a.0) (λ (n : Memᴰ x l). omega (arith, ascending_member (f y) l x a.1 n)) (Memᴰ.cases_cons m)

  pub ascending_behind : (k : ℕ) (front back : List A) (x y : A) → Ascending k (map f (front ++ (x ∷ back))) → Memᴰ y back → f x < f y
  ascending_behind k [] back x y a m = ascending_member (f x) back y a.1 m
  ascending_behind k (z ∷ front) back x y a m = ascending_behind (f z) front back x y a.1 m

  -- members of the same number are the same
  pub ascending_same : (k : ℕ) (l : List A) (x y : A) → Ascending k (map f l) → Memᴰ x l → Memᴰ y l → f x ≡ f y → x ≡ y
  ascending_same k [] x y a m n e = absurd (Memᴰ.not-nil m)
  ascending_same k (z ∷ l) x y a m n e =
      ⊎_elim
      (λ (p : x ≡ z).
      ⊎_elim (λ (q : y ≡ z). p ∙ sym q)
      (λ (u : Memᴰ y l). absurd (omega (arith, ascending_member (f z) l y a.1 u, ap f p)))
      (Memᴰ.cases_cons n))
      (λ (t : Memᴰ x l).
      ⊎_elim (λ (q : y ≡ z). absurd (omega (arith, ascending_member (f z) l x a.1 t, ap f q)))
      (λ (u : Memᴰ y l). ascending_same (f z) l x y a.1 t u e)
      (Memᴰ.cases_cons n))
      (Memᴰ.cases_cons m)
