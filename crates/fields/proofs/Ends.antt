-- Spaces and tabs at the end of a text, and the first octet that passes a test which no space or tab passes. Assumes nothing.
use Prim.Native.Nat.{ℕ, ◌≤◌}
use mathlib.Core.Path.{◌≡◌, refl, sym, ap, ◌∙◌}
use mathlib.Core.Bool.{Bool, true, false, ◌||◌, true≢false, false≢true}
use mathlib.Core.List.{List, [], ◌∷◌, tail}
use native.Mathlib.Omega.{arith}
use lib.ListN.{length, take}
use borrow.Author.Tests.{not-true}
use Rattle.lists.specs.Lists.{empty, any, up_to, from}
use Rattle.lists.proofs.Bools.{split}
use Rattle.lists.proofs.Places.{occurs_read, occurs_fits}
use Rattle.protocol.specs.Octets.{blank}
use Rattle.protocol.specs.Text.{solid, lead, unless_at_end, trim_end, trim}
use Rattle.protocol.proofs.Values.{trimmed}
use Rattle.lists.proofs.Cuts.{from_none, from_past}

-- an octet that is neither space nor tab stays
pub solid_stays : (x : ℕ) (t : List ℕ) → blank x ≡ false → unless_at_end x t ≡ x ∷ t
unfolding unless_at_end
solid_stays x [] e = rw e
solid_stays x (y ∷ t) e = refl

pub end_twice : (l : List ℕ) → trim_end (trim_end l) ≡ trim_end l
unfolding trim_end unless_at_end
end_twice [] = refl
end_twice (x ∷ l) = go (trim_end l) (end_twice l)
  where
    go : (t : List ℕ) → trim_end t ≡ t → trim_end (unless_at_end x t) ≡ unless_at_end x t
    go [] h = split (blank x) (λ e. rw e) (λ e. rw (e, e))
    go (y ∷ t) h = rw h

-- a text without the spaces and tabs at its end is a front of it
module _ (l : List ℕ) where
  pub end_read : take (length (trim_end l)) l ≡ trim_end l
  unfolding trim from lead up_to trim_end unless_at_end blank
  end_read =
      ap tail (rw (solid_stays 58 (trim_end l) refl) at (occurs_read (58 ∷ l) (trim (58 ∷ l)) (lead (58 ∷ l)) (trimmed (58 ∷ l))))

  pub end_fits : length (trim_end l) ≤ length l
  unfolding trim from lead up_to trim_end unless_at_end blank
  end_fits =
      omega (arith, rw (solid_stays 58 (trim_end l) refl) at (occurs_fits (58 ∷ l) (trim (58 ∷ l)) (lead (58 ∷ l)) (trimmed (58 ∷ l))))

-- a text that begins with neither space nor tab has something left
pub end_empty : (f : ℕ → Bool) (l : List ℕ) → empty (trim_end (up_to f (from solid l))) ≡ empty (up_to f (from solid l))
unfolding up_to from trim_end
end_empty f [] = refl
end_empty f (x ∷ l) =
    split (blank x) (λ e. rw e (end_empty f l))
    (λ e. rw e (split (f x) (λ d. rw d) (λ d. rw (d, solid_stays x (trim_end (up_to f l)) e))))

module _ (f : ℕ → Bool) (never-blank : (x : ℕ) → f x ≡ true → solid x ≡ true) where
  not_here : (x : ℕ) → blank x ≡ true → f x ≡ false
  not_here x e = split (f x) (λ d. absurd (true≢false (sym e ∙ not-true (blank x) (never-blank x d)))) (λ d. d)

  pub any_end : (l : List ℕ) → any f (trim_end l) ≡ any f l
  unfolding trim_end unless_at_end any
  any_end [] = refl
  any_end (x ∷ l) = go (trim_end l) (any_end l)
    where
      go : (t : List ℕ) → any f t ≡ any f l → any f (unless_at_end x t) ≡ (f x || any f l)
      go [] h = split (blank x) (λ e. rw (e, not_here x e) h) (λ e. rw (e, ← h))
      go (y ∷ t) h = rw (← h)

  end_on : (x : ℕ) (l : List ℕ) → any f (x ∷ l) ≡ true → trim_end (x ∷ l) ≡ x ∷ trim_end l
  unfolding trim_end unless_at_end any
  end_on x l h = go (trim_end l) (any_end l)
    where
      go : (t : List ℕ) → any f t ≡ any f l → unless_at_end x t ≡ x ∷ t
      go [] k = split (f x) (λ e. rw (not-true (blank x) (never-blank x e))) (λ e. absurd (false≢true (k ∙ rw e at h)))
      go (y ∷ t) k = refl

  pub up_to_end : (l : List ℕ) → any f l ≡ true → up_to f (trim_end l) ≡ up_to f l
  unfolding up_to any trim_end
  up_to_end [] h = refl
  up_to_end (x ∷ l) h =
      rw (end_on x l h) (split (f x) (λ e. rw e) (λ e. rw e (ap (λ (m : List ℕ). x ∷ m) (up_to_end l (rw e at h)))))

  pub from_end : (l : List ℕ) → any f l ≡ true → from f (trim_end l) ≡ trim_end (from f l)
  unfolding from any trim_end
  from_end [] h = refl
  from_end (x ∷ l) h =
      split (f x) (λ e. rw (e, end_on x l h, e)) (λ e. rw (end_on x l h, e) (from_end l (rw e at h)))

  pub past_end : (l : List ℕ) → any f l ≡ true → tail (from f (trim_end l)) ≡ trim_end (tail (from f l))
  unfolding from any trim_end
  past_end [] h = refl
  past_end (x ∷ l) h =
      rw (end_on x l h) (split (f x) (λ e. rw e) (λ e. rw e (past_end l (rw e at h))))

-- what is trimmed at one end already
pub trim_end_lem : (l : List ℕ) → trim (trim_end l) ≡ trim l
unfolding trim trim_end
trim_end_lem l =
    split (any solid l)
    (λ e. ap trim_end (from_end solid (λ x h. h) l e) ∙ end_twice (from solid l))
    (λ e. rw (from_none solid (trim_end l) (any_end solid (λ x h. h) l ∙ e), from_none solid l e))

pub trim_from : (l : List ℕ) → trim (from solid l) ≡ trim l
unfolding trim
trim_from l = ap trim_end (from_past solid solid (λ x h. h) l)
