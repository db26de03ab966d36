-- What one turn of a comparison does, at an index. Assumes nothing.
use Rattle.std.proofs.Common.{◌≡◌, refl, sym, ap, ◌∙◌, ℕ, ◌+◌, ◌*◌, ◌≤◌, ◌<◌, zero, suc, true, false, List, [], ◌∷◌, length, take, drop, get_or, if◌then◌else◌, arith}
use Rattle.std.specs.Simd.{first_chunks}
use lib.Dec.{eqb}
use lib.ListN.{drop_of_length-le}
use lib.Seq.{drop-drop}
use borrow.Author.Tests.{eq-eqb, ne_eqb, eqb-true, eqb-false}
use Rattle.lists.proofs.Bools.{split}
use Rattle.lists.proofs.Scans.{drop_one}
use Rattle.protocol.specs.declared.Tried.{Tried}
use Rattle.protocol.specs.Walk.{tried}
use Rattle.tries.specs.Tries.{tried_first}
use Rattle.protocol.proofs.Tries.{tried_same, tried_other, tried_more}

-- a comparison at the index i of a run and of what it is compared with
module _ (r t : List ℕ) (i n : ℕ) where
  pub compare_end : length r ≤ i → tried (drop i r) t n ≡ record { stood = true; count = n }
  unfolding tried
  compare_end l = rw (drop_of_length-le r l)

  module _ (h : i < length r) (l : i < length t) where
    pub compare_same : get_or r i 0 ≡ get_or t i 0 → tried (drop i r) (drop i t) n ≡ tried (drop (i + 1) r) (drop (i + 1) t) (n + 1)
    compare_same e = rw (drop_one r i 0 h, drop_one t i 0 l) (tried_same _ _ _ _ n (eq-eqb _ _ e))

    pub compare_other : (get_or r i 0 ≡ get_or t i 0 → ⊥) → tried (drop i r) (drop i t) n ≡ record { stood = false; count = n + 1 }
    compare_other e = rw (drop_one r i 0 h, drop_one t i 0 l) (tried_other _ _ _ _ n (ne_eqb _ _ e))

    pub compare_counts : n + 1 ≤ (tried (drop i r) (drop i t) n).count
    compare_counts =
        split (eqb (get_or r i 0) (get_or t i 0))
        (λ e. rw (compare_same (eqb-true _ _ e)) (tried_more _ _ (n + 1)))
        (λ e. rw (compare_other (eqb-false _ _ e)) (omega arith))

pub ruleset compares = (compare_end, compare_same, compare_other, compare_counts)

firsts_more : (a : ℕ) (t : List ℕ) (n : ℕ) → n ≤ (tried_first a t n).count
unfolding tried_first
firsts_more a [] n = omega arith
firsts_more a (b ∷ t) n = split (eqb a b) (λ e. rw e (omega arith)) (λ e. rw e (omega (arith, firsts_more a t (n + 1))))

-- the tries at a run's first octet, at the index i of the places
module _ (a : ℕ) (t : List ℕ) (i n : ℕ) where
  pub firsts_end : length t ≤ i → tried_first a (drop i t) n ≡ record { stood = false; count = n }
  unfolding tried_first
  firsts_end l = rw (drop_of_length-le t l)

  module _ (l : i < length t) where
    pub firsts_here : eqb a (get_or t i 0) ≡ true → tried_first a (drop i t) n ≡ record { stood = true; count = n + 1 }
    unfolding tried_first
    firsts_here e = rw (drop_one t i 0 l, e)

    pub firsts_on : eqb a (get_or t i 0) ≡ false → tried_first a (drop i t) n ≡ tried_first a (drop (i + 1) t) (n + 1)
    unfolding tried_first
    firsts_on e = rw (drop_one t i 0 l, e)

    -- at the last place, whatever the comparison came to
    pub firsts_last : i + 1 ≡ length t → tried_first a (drop i t) n ≡ record { stood = eqb a (get_or t i 0); count = n + 1 }
    unfolding tried_first
    firsts_last z =
        let m : length t ≤ i + 1 = omega (arith, z) in
        split (eqb a (get_or t i 0)) (λ e. rw (drop_one t i 0 l, e)) (λ e. rw (drop_one t i 0 l, e, drop_of_length-le t m))

    pub firsts_counts : n + 1 ≤ (tried_first a (drop i t) n).count
    firsts_counts =
        split (eqb a (get_or t i 0)) (λ e. rw (firsts_here e) (omega arith)) (λ e. rw (firsts_on e) (firsts_more a (drop (i + 1) t) (n + 1)))

pub ruleset firsts = (firsts_end, firsts_here, firsts_on, firsts_counts)

-- the tries at the first s places, then those at the others
firsts_split : (a : ℕ) (t : List ℕ) (s n : ℕ)
    → let x = tried_first a (take s t) n in
    tried_first a t n ≡ (if x.stood then x else tried_first a (drop s t) x.count)
unfolding tried_first
firsts_split a t zero n = refl
firsts_split a [] (suc s) n = refl
firsts_split a (b ∷ t) (suc s) n = split (eqb a b) (λ e. rw e) (λ e. rw e (firsts_split a t s (n + 1)))

module _ (a : ℕ) (t : List ℕ) (i s n : ℕ) (x : Tried) (h : x ≡ tried_first a (take s (drop i t)) n) where
  pub firsts_within : x.stood ≡ true → x ≡ tried_first a (drop i t) n
  firsts_within e = sym (firsts_split a (drop i t) s n ∙ rw (← h, e))

  pub firsts_behind : x.stood ≡ false → tried_first a (drop i t) n ≡ tried_first a (drop (i + s) t) x.count
  firsts_behind e = firsts_split a (drop i t) s n ∙ rw (← h, e, drop-drop s i t)

  pub firsts_fewer : x.count ≤ (tried_first a (drop i t) n).count
  firsts_fewer =
      split x.stood (λ e. omega (arith, ap (λ (y : Tried). y.count) (firsts_within e)))
      (λ e. rw (firsts_behind e) (firsts_more a (drop (i + s) t) x.count))

chunk_at : (s m k : ℕ) (t : List ℕ) → k < m → get_or (first_chunks s m t) k [] ≡ take s (drop (k * s) t)
chunk_at s zero k t l = absurd (omega arith)
chunk_at s (suc m) zero t l = let e : 0 * s ≡ 0 = omega arith in rw e
chunk_at s (suc m) (suc k) t l =
    let e : suc k * s ≡ s + k * s = omega arith in
    rw e (chunk_at s m k (drop s t) (omega arith) ∙ ap (take s) (drop-drop (k * s) s t))

-- the tries at the places of the k-th of m chunks of s places
module _ (a : ℕ) (t : List ℕ) (s m k n : ℕ) (l : k < m) where
  abbrev in_chunk : Tried
  in_chunk = tried_first a (get_or (first_chunks s m t) k []) n

  taken : in_chunk ≡ tried_first a (take s (drop (k * s) t)) n
  taken = rw (chunk_at s m k t l)

  pub chunk_stood : in_chunk.stood ≡ true → in_chunk ≡ tried_first a (drop (k * s) t) n
  chunk_stood e = firsts_within a t (k * s) s n in_chunk taken e

  pub chunk_on : in_chunk.stood ≡ false → tried_first a (drop ((k + 1) * s) t) in_chunk.count ≡ tried_first a (drop (k * s) t) n
  chunk_on e = let m : (k + 1) * s ≡ k * s + s = omega arith in sym (rw m (firsts_behind a t (k * s) s n in_chunk taken e))

  pub chunk_counts : in_chunk.count ≤ (tried_first a (drop (k * s) t) n).count
  chunk_counts = firsts_fewer a t (k * s) s n in_chunk taken

pub ruleset chunks = (chunk_stood, chunk_on, chunk_counts)
