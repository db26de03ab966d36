-- A list cut at the first element that passes a test, a property that each element has, and sums. Assumes nothing.
use mathlib.Core.Path.{◌≡◌, refl, ap}
use mathlib.Core.Bool.{Bool, true, false}
use mathlib.Core.List.{List, [], ◌∷◌, ◌++◌}
use Rattle.lists.specs.Lists.{up_to, from}
use Rattle.lists.specs.Each.{Each}
use Rattle.lists.proofs.Bools.{split}

module _ {A : Type 0} (f : A → Bool) (x : A) (l : List A) where
  pub up_to_stop : f x ≡ true → up_to f (x ∷ l) ≡ []
  unfolding up_to
  up_to_stop e = rw e

  pub up_to_on : f x ≡ false → up_to f (x ∷ l) ≡ x ∷ up_to f l
  unfolding up_to
  up_to_on e = rw e

  pub from_stop : f x ≡ true → from f (x ∷ l) ≡ x ∷ l
  unfolding from
  from_stop e = rw e

  pub from_on : f x ≡ false → from f (x ∷ l) ≡ from f l
  unfolding from
  from_on e = rw e

module _ {A : Type 0} (f : A → Bool) where
  -- the two parts are the whole
  pub up_to_from : (l : List A) → up_to f l ++ from f l ≡ l
  unfolding up_to from
  up_to_from [] = refl
  up_to_from (x ∷ l) =
      split (f x) (λ e. rw (up_to_stop f x l e, from_stop f x l e)) (λ e. rw (up_to_on f x l e, from_on f x l e) (ap (λ (m : List A). x ∷ m) (up_to_from l)))

module _ {A : Type 0} (P : A → Type 0) where
  pub each_append : (l m : List A) → Each P l → Each P m → Each P (l ++ m)
  each_append [] m h k = k
  each_append (x ∷ l) m h k = (h.0, each_append l m h.1 k)
