-- Lists cut at the first element that passes one test, and then at the first that passes another. Assumes nothing.
use Prim.Native.Nat.{ℕ, zero, suc, ◌+◌, ◌≤◌}
use mathlib.Core.Path.{◌≡◌, refl, sym, ap, ◌∙◌}
use mathlib.Core.Bool.{Bool, true, false, ◌||◌, or-true, true≢false, false≢true}
use mathlib.Core.List.{List, [], ◌∷◌, tail}
use native.Mathlib.Omega.{arith}
use lib.ListN.{length, take, drop}
use Rattle.lists.specs.Lists.{any, up_to, from}
use Rattle.lists.proofs.Bools.{split}
use Rattle.lists.proofs.Parts.{up_to_stop, up_to_on}
use Rattle.lists.proofs.Scans.{drop_up_to}

module _ {A : Type 0} (f : A → Bool) where
  pub up_to_none : (l : List A) → any f l ≡ false → up_to f l ≡ l
  unfolding up_to any
  up_to_none [] h = refl
  up_to_none (x ∷ l) h =
      split (f x) (λ e. absurd (true≢false (rw e at h))) (λ e. rw e (ap (λ (m : List A). x ∷ m) (up_to_none l (rw e at h))))

  pub from_none : (l : List A) → any f l ≡ false → from f l ≡ []
  unfolding from any
  from_none [] h = refl
  from_none (x ∷ l) h = split (f x) (λ e. absurd (true≢false (rw e at h))) (λ e. rw e (from_none l (rw e at h)))

  -- a search ends in a part that has what is sought,
  pub up_to_within : (n : ℕ) (l : List A) → any f (take n l) ≡ true → length (up_to f (take n l)) ≡ length (up_to f l)
  unfolding any
  up_to_within zero l h = absurd (false≢true h)
  up_to_within (suc n) [] h = absurd (false≢true h)
  up_to_within (suc n) (x ∷ l) h =
      split (f x) (λ e. rw (up_to_stop f x l e, up_to_stop f x (take n l) e))
      (λ e. rw (up_to_on f x l e, up_to_on f x (take n l) e) (ap suc (up_to_within n l (rw e at h))))

  -- and passes over one that hasn't
  pub up_to_over : (n : ℕ) (l : List A) → n ≤ length l → any f (take n l) ≡ false → length (up_to f l) ≡ n + length (up_to f (drop n l))
  unfolding any
  up_to_over zero l k h = omega arith
  up_to_over (suc n) [] k h = absurd (omega arith)
  up_to_over (suc n) (x ∷ l) k h =
      split (f x) (λ e. absurd (true≢false (rw e at h)))
      (λ e. rw (up_to_on f x l e) (omega (arith, up_to_over n l (omega arith) (rw e at h))))

module _ {A : Type 0} (f g : A → Bool) where
  -- the part before either test passes
  pub up_to_either : (l : List A) → up_to f (up_to g l) ≡ up_to (λ x. f x || g x) l
  unfolding up_to
  up_to_either [] = refl
  up_to_either (x ∷ l) =
      split (g x) (λ e. rw (e, or-true (f x)))
      (λ e. split (f x) (λ d. rw (e, d)) (λ d. rw (e, d) (ap (λ (m : List A). x ∷ m) (up_to_either l))))

  -- where f passes before g does
  pub up_to_before : (l : List A) → any f (up_to g l) ≡ true → up_to f (up_to g l) ≡ up_to f l
  unfolding up_to any
  up_to_before [] h = refl
  up_to_before (x ∷ l) h =
      split (g x) (λ e. absurd (false≢true (rw e at h)))
      (λ e. split (f x) (λ d. rw (e, d)) (λ d. rw (e, d) (ap (λ (m : List A). x ∷ m) (up_to_before l (rw (e, d) at h)))))

  pub past_before : (l : List A) → any f (up_to g l) ≡ true → tail (from f (up_to g l)) ≡ up_to g (tail (from f l))
  unfolding up_to from any
  past_before [] h = refl
  past_before (x ∷ l) h =
      split (g x) (λ e. absurd (false≢true (rw e at h)))
      (λ e. split (f x) (λ d. rw (e, d)) (λ d. rw (e, d) (past_before l (rw (e, d) at h))))

  pub any_before : (l : List A) → any f (up_to g l) ≡ true → any f l ≡ true
  unfolding up_to any
  any_before [] h = h
  any_before (x ∷ l) h =
      split (g x) (λ e. absurd (false≢true (rw e at h)))
      (λ e. split (f x) (λ d. rw d) (λ d. rw d (any_before l (rw (e, d) at h))))

-- where f passes only with g
module _ {A : Type 0} (f g : A → Bool) (with-g : (x : A) → f x ≡ true → g x ≡ true) where
  neither : (x : A) → g x ≡ false → f x ≡ false
  neither x e = split (f x) (λ d. absurd (true≢false (sym (with-g x d) ∙ e))) (λ d. d)

  pub up_to_first : (l : List A) → up_to g (up_to f l) ≡ up_to g l
  unfolding up_to
  up_to_first [] = refl
  up_to_first (x ∷ l) =
      split (f x) (λ e. rw (e, with-g x e))
      (λ e. split (g x) (λ d. rw (e, d)) (λ d. rw (e, d) (ap (λ (m : List A). x ∷ m) (up_to_first l))))

  pub up_to_past : (l : List A) → up_to f (from g l) ≡ from g (up_to f l)
  unfolding up_to from
  up_to_past [] = refl
  up_to_past (x ∷ l) =
      split (g x) (λ e. split (f x) (λ d. rw (e, d)) (λ d. rw (e, d, e)))
      (λ e. rw (e, neither x e, e) (up_to_past l))

  pub from_past : (l : List A) → from f (from g l) ≡ from f l
  unfolding from
  from_past [] = refl
  from_past (x ∷ l) = split (g x) (λ e. rw e) (λ e. rw (e, neither x e) (from_past l))

  -- behind elements of which none passes g
  pub any_behind : (n : ℕ) (l : List A) → n ≤ length (up_to g l) → any f (drop n l) ≡ any f l
  unfolding any
  any_behind zero l h = refl
  any_behind (suc n) [] h = refl
  any_behind (suc n) (x ∷ l) h =
      split (g x) (λ e. absurd (omega (arith, h, ap length (up_to_stop g x l e))))
      (λ e. rw (neither x e) (any_behind n l (omega (arith, h, ap length (up_to_on g x l e)))))

  pub any_past : (l : List A) → any f (from g l) ≡ any f l
  any_past l = ap (any f) (sym (drop_up_to g l)) ∙ any_behind (length (up_to g l)) l (omega arith)
