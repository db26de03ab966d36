-- Tests, parts and sums of two lists put together, and of what a function makes of each element. Assumes nothing.
use Rattle.std.specs.Prelude.{if◌then◌else◌}
use Prim.Native.Nat.{ℕ, ◌+◌}
use mathlib.Core.Path.{◌≡◌, refl, sym, ap}
use mathlib.Core.Bool.{Bool, true, false, ◌||◌, or_assoc, true≢false, false≢true}
use mathlib.Core.List.{List, [], ◌∷◌, ◌++◌, map, append_assoc}
use native.Mathlib.Omega.{arith}
use Rattle.lists.specs.Lists.{any, kept, up_to, from, total}
use Rattle.lists.proofs.Bools.{split}

module _ {A : Type 0} (f : A → Bool) where
  pub any_append : (a b : List A) → any f (a ++ b) ≡ (any f a || any f b)
  unfolding any
  any_append [] b = refl
  any_append (x ∷ a) b = rw (any_append a b) (sym (or_assoc (f x) (any f a) (any f b)))

  pub kept_append : (a b : List A) → kept f (a ++ b) ≡ kept f a ++ kept f b
  unfolding kept
  kept_append [] b = refl
  kept_append (x ∷ a) b = rw (kept_append a b) (sym (append_assoc (if f x then x ∷ [] else []) (kept f a) (kept f b)))

  -- a cut at the first element that passes the test: in a, where some element of a does,
  pub up_to_front : (a b : List A) → any f a ≡ true → up_to f (a ++ b) ≡ up_to f a
  unfolding up_to any
  up_to_front [] b h = absurd (false≢true h)
  up_to_front (x ∷ a) b h = split (f x) (λ e. rw e) (λ e. rw e (ap (λ (m : List A). x ∷ m) (up_to_front a b (rw e at h))))

  pub from_front : (a b : List A) → any f a ≡ true → from f (a ++ b) ≡ from f a ++ b
  unfolding from any
  from_front [] b h = absurd (false≢true h)
  from_front (x ∷ a) b h = split (f x) (λ e. rw e) (λ e. rw e (from_front a b (rw e at h)))

  -- and otherwise in b
  pub up_to_back : (a b : List A) → any f a ≡ false → up_to f (a ++ b) ≡ a ++ up_to f b
  unfolding up_to any
  up_to_back [] b h = refl
  up_to_back (x ∷ a) b h =
      split (f x) (λ e. absurd (true≢false (rw e at h))) (λ e. rw e (ap (λ (m : List A). x ∷ m) (up_to_back a b (rw e at h))))

  pub from_back : (a b : List A) → any f a ≡ false → from f (a ++ b) ≡ from f b
  unfolding from any
  from_back [] b h = refl
  from_back (x ∷ a) b h = split (f x) (λ e. absurd (true≢false (rw e at h))) (λ e. rw e (from_back a b (rw e at h)))

module _ {A : Type 0} (f : A → ℕ) where
  pub total_append : (a b : List A) → total f (a ++ b) ≡ total f a + total f b
  unfolding total
  total_append [] b = omega arith
  total_append (x ∷ a) b = omega (arith, total_append a b)

-- what is tested or summed of each element is told by its image
module _ {A B : Type 0} (g : A → B) where
  pub any_map : (f : B → Bool) (l : List A) → any f (map g l) ≡ any (λ x. f (g x)) l
  unfolding any
  any_map f [] = refl
  any_map f (x ∷ l) = rw (any_map f l)

  pub total_map : (f : B → ℕ) (l : List A) → total f (map g l) ≡ total (λ x. f (g x)) l
  unfolding total
  total_map f [] = refl
  total_map f (x ∷ l) = rw (total_map f l)

  pub kept_map : (f : B → Bool) (l : List A) → kept f (map g l) ≡ map g (kept (λ x. f (g x)) l)
  unfolding kept
  kept_map f [] = refl
  kept_map f (x ∷ l) = split (f (g x)) (λ e. rw (e, kept_map f l)) (λ e. rw (e, kept_map f l))

-- the sum over those that pass a test
pub total_kept : {A : Type 0} (f : A → Bool) (g : A → ℕ) (l : List A) → total g (kept f l) ≡ total (λ x. if f x then g x else 0) l
unfolding total kept
total_kept f g [] = refl
total_kept f g (x ∷ l) = split (f x) (λ e. rw (e, total_kept f g l)) (λ e. rw (e, total_kept f g l) (omega arith))
