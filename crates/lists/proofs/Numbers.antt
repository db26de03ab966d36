-- Two functions on a range of numbers. Assumes nothing.
use Prim.Native.Nat.{ℕ, zero, suc, ◌+◌, ◌≤◌, ◌<◌}
use mathlib.Core.Path.{◌≡◌, refl, ap, ◌∙◌}
use mathlib.Core.List.{map}
use native.Mathlib.Omega.{arith}
use lib.Dec.{eqb}
use lib.ListN.{get_or}
use borrow.Author.Tests.{eqb-true, eqb-false}
use Rattle.lists.specs.Lists.{numbers_from}
use Rattle.lists.proofs.Bools.{split}

-- they give the same at each number of the range, if they do so when they are computed at all of them
pub agree_on : {A : Type 0} (f g : ℕ → A) (k n : ℕ) → map f (numbers_from k n) ≡ map g (numbers_from k n) → (x : ℕ) → k ≤ x → x < k + n → f x ≡ g x
unfolding numbers_from
agree_on f g k zero h x l m = absurd (omega arith)
agree_on f g k (suc n) h x l m =
    split (eqb k x) (λ e. let here : f k ≡ g k = cc in rw (eqb-true k x e) at here)
    (λ e.
    let other : k ≡ x → ⊥ = eqb-false k x e in
    let more : map f (numbers_from (k + 1) n) ≡ map g (numbers_from (k + 1) n) = cc in
    agree_on f g (k + 1) n more x (omega (arith, other)) (omega arith))

-- the value of a function at a place of the range
pub value_at_lem : {A : Type 0} (f : ℕ → A) (d : A) (k n i : ℕ) → i < n → get_or (map f (numbers_from k n)) i d ≡ f (k + i)
unfolding numbers_from
value_at_lem f d k zero i h = absurd (omega arith)
value_at_lem f d k (suc n) zero h = let e : k + 0 ≡ k = omega arith in rw e refl
value_at_lem f d k (suc n) (suc i) h =
    let e : k + 1 + i ≡ k + suc i = omega arith in value_at_lem f d (k + 1) n i (omega arith) ∙ ap f e
