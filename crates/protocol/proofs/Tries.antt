-- One try of a run, and a search for it: what they find and what they cost. Assumes nothing.
use Prim.Native.Nat.{ℕ, zero, suc, ◌+◌, ◌*◌, ◌≤◌, ◌<◌}
use mathlib.Core.Path.{◌≡◌, refl, sym, ap₂, ◌∙◌, subst⁻¹}
use mathlib.Core.Bool.{true, false, false≢true}
use mathlib.Core.List.{List, [], ◌∷◌, ◌++◌}
use native.Mathlib.Omega.{arith}
use native.Mathlib.Nat.{mul-suc}
use lib.ListN.{length, drop, drop_of_length-le}
use lib.Dec.{leb, eqb}
use borrow.Author.Tests.{eq-eqb, eqb-true, leb-true, leb-false, le-leb, lt-leb}
use Rattle.lists.proofs.Bools.{split}
use Rattle.protocol.specs.declared.Tried.{Tried}
use Rattle.protocol.specs.declared.Walked.{Walked}
use Rattle.protocol.specs.Walk.{tried, failed, placed, try_at, seek}

-- a number is at most its product with one that is no smaller
pub le_times : (a b : ℕ) → a ≤ b → a ≤ a * b
le_times zero b h = omega arith
le_times (suc a) zero h = absurd (omega arith)
le_times (suc a) (suc b) h = omega (arith, mul-suc (suc a) b)

-- the steps of the definitions, one for each outcome of a test
module _ (a b : ℕ) (r t : List ℕ) (n : ℕ) where
  pub tried_same : eqb a b ≡ true → tried (a ∷ r) (b ∷ t) n ≡ tried r t (n + 1)
  unfolding tried
  tried_same e = rw e

  pub tried_other : eqb a b ≡ false → tried (a ∷ r) (b ∷ t) n ≡ record { stood = false; count = n + 1 }
  unfolding tried
  tried_other e = rw e

module _ (r : List ℕ) (k n : ℕ) (t : List ℕ) where
  pub try_at_in : length r ≤ length t → try_at r k n t ≡ placed (length r) k (tried r t n)
  unfolding try_at
  try_at_in h = rw (le-leb _ _ h)

  pub try_at_out : length t < length r → try_at r k n t ≡ failed n
  unfolding try_at
  try_at_out h = rw (lt-leb _ _ h)

module _ (r : List ℕ) (k n : ℕ) where
  pub seek_out : (t : List ℕ) → length t < length r → seek r k n t ≡ failed n
  unfolding seek
  seek_out [] h = try_at_out r k n [] h
  seek_out (b ∷ t) h = rw (lt-leb _ _ h)

  pub seek_here : (t : List ℕ) → length r ≤ length t → (tried r t n).stood ≡ true
      → seek r k n t ≡ record { stood = true; past = k + length r; count = (tried r t n).count }
  unfolding seek
  seek_here [] h e = try_at_in r k n [] h ∙ rw e
  seek_here (b ∷ t) h e = rw (le-leb _ _ h, e)

  pub seek_on : (b : ℕ) (t : List ℕ) → length r ≤ length (b ∷ t) → (tried r (b ∷ t) n).stood ≡ false
      → seek r k n (b ∷ t) ≡ seek r (k + 1) (tried r (b ∷ t) n).count t
  unfolding seek
  seek_on b t h e = rw (le-leb _ _ h, e)

-- a run stands where the path goes on with it
pub tried_self : (r s : List ℕ) (n : ℕ) → (tried r (r ++ s) n).stood ≡ true
unfolding tried
tried_self [] s n = refl
tried_self (a ∷ r) s n = rw (tried_same a a r (r ++ s) n (eq-eqb a a refl)) (tried_self r s (n + 1))

-- and where a run stands, the path goes on with it
pub tried_stood : (r t : List ℕ) (n : ℕ) → (tried r t n).stood ≡ true → t ≡ r ++ drop (length r) t
unfolding tried
tried_stood [] t n h = refl
tried_stood (a ∷ r) [] n h = absurd (false≢true h)
tried_stood (a ∷ r) (b ∷ t) n h =
    split (eqb a b)
    (λ e. ap₂ ◌∷◌ (sym (eqb-true a b e)) (tried_stood r t (n + 1) (rw (tried_same a b r t n e) at h)))
    (λ e. absurd (false≢true (rw (tried_other a b r t n e) at h)))

-- a try compares at most the run's octets
pub tried_more : (r t : List ℕ) (n : ℕ) → n ≤ (tried r t n).count
unfolding tried
tried_more [] t n = omega arith
tried_more (a ∷ r) [] n = omega arith
tried_more (a ∷ r) (b ∷ t) n =
    split (eqb a b)
    (λ e. rw (tried_same a b r t n e) (omega (arith, tried_more r t (n + 1))))
    (λ e. rw (tried_other a b r t n e) (omega arith))

pub tried_most : (r t : List ℕ) (n : ℕ) → (tried r t n).count ≤ n + length r
unfolding tried
tried_most [] t n = omega arith
tried_most (a ∷ r) [] n = omega arith
tried_most (a ∷ r) (b ∷ t) n =
    split (eqb a b)
    (λ e. rw (tried_same a b r t n e) (omega (arith, tried_most r t (n + 1))))
    (λ e. rw (tried_other a b r t n e) (omega arith))

-- what a try leads to counts what the try counted
pub placed_count : (size k : ℕ) (x : Tried) → (placed size k x).count ≡ x.count
placed_count size k x = split x.stood (λ e. rw e) (λ e. rw e)

-- a search by cases: the run would pass the end; it stands here; it differs here and the search goes on
module _
    (r : List ℕ)
    (P : ℕ → ℕ → List ℕ → Walked → Type 0)
    (out : (k n : ℕ) (t : List ℕ) → length t < length r → P k n t (failed n))
    (here : (k n : ℕ) (t : List ℕ) → length r ≤ length t → (tried r t n).stood ≡ true
    → P k n t (record { stood = true; past = k + length r; count = (tried r t n).count }))
    (on : (k n b : ℕ) (t : List ℕ) (w : Walked) → length r ≤ length (b ∷ t) → (tried r (b ∷ t) n).stood ≡ false
    → P (k + 1) (tried r (b ∷ t) n).count t w → P k n (b ∷ t) w)
  where
    seek_end : (k n : ℕ) (t : List ℕ) → length t < length r → P k n t (seek r k n t)
    seek_end k n t l = rw (seek_out r k n t l) (out k n t l)

    seek_stop : (k n : ℕ) (t : List ℕ) → length r ≤ length t → (tried r t n).stood ≡ true → P k n t (seek r k n t)
    seek_stop k n t l e = rw (seek_here r k n t l e) (here k n t l e)

    pub seek_cases : (k n : ℕ) (t : List ℕ) → P k n t (seek r k n t)
    seek_cases k n [] =
        split (leb (length r) 0)
        (λ l. seek_stop k n [] (leb-true _ _ l) (subst⁻¹ (λ (x : List ℕ). (tried x [] n).stood ≡ true) (drop_of_length-le r {i = 0} (leb-true _ _ l)) (tried_self [] [] n)))
        (λ l. seek_end k n [] (leb-false _ _ l))
    seek_cases k n (b ∷ t) =
        split (leb (length r) (length (b ∷ t)))
        (λ l.
        split (tried r (b ∷ t) n).stood
        (λ e. seek_stop k n (b ∷ t) (leb-true _ _ l) e)
        (λ e. rw (seek_on r k n b t (leb-true _ _ l) e) (on k n b t _ (leb-true _ _ l) e (seek_cases (k + 1) _ t))))
        (λ l. seek_end k n (b ∷ t) (leb-false _ _ l))

-- a search counts up, and at most the run's length for each octet left
pub seek_more : (r : List ℕ) (k n : ℕ) (t : List ℕ) → n ≤ (seek r k n t).count
seek_more r =
    seek_cases r (λ k n t w. n ≤ w.count)
    (λ k n t l. omega arith)
    (λ k n t l e. tried_more r t n)
    (λ k n b t w l e ih. omega (arith, tried_more r (b ∷ t) n))

pub seek_most : (r : List ℕ) (k n : ℕ) (t : List ℕ) → (seek r k n t).count ≤ n + length r * length t
seek_most r =
    seek_cases r (λ k n t w. w.count ≤ n + length r * length t)
    (λ k n t l. omega arith)
    (λ k n t l e. omega (arith, tried_most r t n, le_times (length r) (length t) l))
    (λ k n b t w l e ih. omega (arith, tried_most r (b ∷ t) n, mul-suc (length r) (length t)))

-- a search ends inside the path
pub seek_within : (r : List ℕ) (k n : ℕ) (t : List ℕ) → (seek r k n t).past ≤ k + length t
seek_within r =
    seek_cases r (λ k n t w. w.past ≤ k + length t) (λ k n t l. omega arith) (λ k n t l e. omega arith) (λ k n b t w l e ih. omega arith)
