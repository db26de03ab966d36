-- Where a run is put: it stands there, and wherever else it stands, the leftmost walk puts it no further. Assumes nothing.
use Prim.Native.Nat.{ℕ, zero, suc, ◌+◌, ◌-◌, ◌≤◌}
use mathlib.Core.Path.{◌≡◌, refl, sym, ◌∙◌}
use mathlib.Core.Bool.{Bool, true, false, true≢false, false≢true}
use mathlib.Core.List.{List, [], ◌∷◌}
use native.Mathlib.Omega.{arith}
use native.Mathlib.Numerals.{unary_clauses}
use lib.ListN.{length, drop}
use lib.Dec.{leb, eqb}
use borrow.Author.Tests.{eqb-true, eqb-false, leb-true, leb-false}
use Rattle.lists.specs.Occurs.{Occurs}
use Rattle.lists.proofs.Bools.{split}
use Rattle.lists.proofs.Places.{occurs_fits, occurs_in, occurs_front_in, occurs_tail, occurs_drop, occurs_behind, occurs_begins}
use Rattle.protocol.specs.declared.Walked.{Walked}
use Rattle.protocol.specs.Walk.{tried, placed, seek, final, first, next}
use Rattle.protocol.proofs.Tries.{tried_self, tried_stood, seek_cases}
use Rattle.protocol.proofs.Steps.{final_in, final_out, first_out, first_short, first_in, next_final, next_seek}

-- a try finds no difference exactly where the path goes on with the run
tried_stands : (r t : List ℕ) (n : ℕ) → (tried r t n).stood ≡ true → Occurs t 0 r
tried_stands r t n e = record { front = []; back = drop (length r) t; whole = tried_stood r t n e; place = refl }

tried_finds : (r t : List ℕ) (n : ℕ) → Occurs t 0 r → (tried r t n).stood ≡ true
tried_finds r t n o = rw (occurs_begins t r o) (tried_self r o.back n)

-- the walk v put the run r at j, where it stands, and an end-marked last run ends the path
pub record Put (last : Bool) (j : ℕ) (r path : List ℕ) (v : Walked) : Type 0 where
  pub stands : Occurs path j r
  pub ends : v.past ≡ j + length r
  pub whole : last ≡ true → v.past ≡ length path

-- the walk v stood, and came no further than m
abbrev pub StoodBy : ℕ → Walked → Type 0
StoodBy m v = (v.stood ≡ true) × (v.past ≤ m)

-- Each way to put a run has two laws. `-found`: where the run was put, it stands. `-leftmost`: where the run stands at j, it was put no
-- further than j. A try at j
module _ (j : ℕ) (r path : List ℕ) (n : ℕ) where
  placed_found : (last : Bool) → j + length r ≤ length path → (last ≡ true → length path ≤ j + length r)
      → (placed (length r) j (tried r (drop j path) n)).stood ≡ true → Put last j r path (placed (length r) j (tried r (drop j path) n))
  placed_found last l z h =
      split (tried r (drop j path) n).stood
      (λ e.
      rw e
      (record {
        stands = occurs_front_in path (drop j path) r j (occurs_drop path j (omega arith)) (tried_stands r (drop j path) n e);
        ends = refl;
        whole = λ y. omega (arith, z y);
      }))
      (λ e. absurd (false≢true (rw e at h)))

  placed_leftmost : Occurs path j r → StoodBy (j + length r) (placed (length r) j (tried r (drop j path) n))
  placed_leftmost o =
      let q : j - j ≡ 0 = omega arith in
      let here : Occurs (drop j path) 0 r = rw q at (occurs_behind path r j j o (omega arith)) in
      rw (tried_finds r (drop j path) n here) (refl, omega arith)

-- a search
pub seek_found : (r : List ℕ) (k n : ℕ) (t : List ℕ) → (seek r k n t).stood ≡ true
    → (j : ℕ) × Occurs t j r × ((seek r k n t).past ≡ k + j + length r)
seek_found r =
    seek_cases r (λ k n t w. w.stood ≡ true → (j : ℕ) × Occurs t j r × (w.past ≡ k + j + length r))
    (λ k n t l h. absurd (false≢true h))
    (λ k n t l e h. (0, tried_stands r t n e, omega arith))
    (λ k n b t w l e ih h. let (j, o, q) = ih h in (1 + j, occurs_in (b ∷ t) t r 1 j (occurs_tail b t) o, omega arith))

-- a run that doesn't stand at the front stands further on
further : (r t : List ℕ) (k n b : ℕ) (w : Walked) → (tried r (b ∷ t) n).stood ≡ false
    → ((j : ℕ) → Occurs t j r → StoodBy (k + 1 + j + length r) w) → (j : ℕ) → Occurs (b ∷ t) j r → StoodBy (k + j + length r) w
further r t k n b w e ih zero o = absurd (false≢true (sym e ∙ tried_finds r (b ∷ t) n o))
further r t k n b w e ih (suc j) o =
    let x = ih j (simp unary_clauses at (occurs_behind (b ∷ t) r (suc j) 1 o (omega arith))) in (x.0, omega arith)

pub seek_leftmost : (r : List ℕ) (k n : ℕ) (t : List ℕ) (j : ℕ) → Occurs t j r → StoodBy (k + j + length r) (seek r k n t)
seek_leftmost r =
    seek_cases r (λ k n t w. (j : ℕ) → Occurs t j r → StoodBy (k + j + length r) w)
    (λ k n t l j o. absurd (omega (arith, occurs_fits t r j o)))
    (λ k n t l e j o. (refl, omega arith))
    (λ k n b t w l e ih. further r t k n b w e ih)

-- the end-marked last run
module _ (r : List ℕ) (k n : ℕ) (path : List ℕ) where
  final_found : (last : Bool) → (final r k n path).stood ≡ true → (j : ℕ) × (k ≤ j) × Put last j r path (final r k n path)
  final_found last h =
      let d = length path - length r in
      split (leb (k + length r) (length path))
      (λ e.
      let l : k + length r ≤ length path = leb-true _ _ e in
      rw (final_in r k n path l) (d, omega arith, placed_found d r path n last (omega arith) (λ y. omega arith) (rw (final_in r k n path l) at h)))
      (λ e. absurd (false≢true (rw (final_out r k n path (leb-false _ _ e)) at h)))

  final_leftmost : (j : ℕ) → k ≤ j → Occurs path j r → j + length r ≡ length path → StoodBy (j + length r) (final r k n path)
  final_leftmost j l o z =
      let d : length path - length r ≡ j = omega arith in rw (final_in r k n path (omega arith), d) (placed_leftmost j r path n o)

-- the first run; with an end mark, one that is also the last ends the path
first_ends : (last : Bool) (r path : List ℕ) → (first last r path).stood ≡ true → last ≡ true → length path ≤ length r
first_ends true r path h y =
    split (eqb (length r) (length path))
    (λ e. let q : length r ≡ length path = eqb-true _ _ e in omega arith)
    (λ e. absurd (false≢true (rw (first_out r path (eqb-false _ _ e)) at h)))
first_ends false r path h y = absurd (false≢true y)

module _ (last : Bool) (r path : List ℕ) where
  pub first_found : (first last r path).stood ≡ true → Put last 0 r path (first last r path)
  first_found h =
      split (leb (length r) (length path))
      (λ e.
      let l : length r ≤ length path = leb-true _ _ e in
      let z : last ≡ true → length path ≤ length r = first_ends last r path h in
      rw (first_in r path last l z) (placed_found 0 r path 0 last (omega arith) (λ y. omega (arith, z y)) (rw (first_in r path last l z) at h)))
      (λ e. absurd (false≢true (rw (first_short r path last (leb-false _ _ e)) at h)))

  pub first_leftmost : Occurs path 0 r → (last ≡ true → length r ≡ length path) → StoodBy (length r) (first last r path)
  first_leftmost o z =
      let x = placed_leftmost 0 r path 0 o in
      rw (first_in r path last (omega (arith, occurs_fits path r 0 o)) (λ y. omega (arith, z y))) (x.0, omega arith)

-- a later run, where the walk stands at w
module _ (last : Bool) (r path : List ℕ) (w : Walked) where
  pub next_found : w.stood ≡ true → w.past ≤ length path → (next last r path w).stood ≡ true
      → (j : ℕ) × (w.past ≤ j) × Put last j r path (next last r path w)
  next_found e l h =
      split last (λ z. rw (next_final r path w last e z) (final_found r w.past w.count path last (rw (next_final r path w last e z) at h)))
      (λ z.
      let t = drop w.past path in
      let (j, o, q) = seek_found r w.past w.count t (rw (next_seek r path w last e z) at h) in
      rw (next_seek r path w last e z) (
        w.past + j,
        omega arith,
        record {
          stands = occurs_in path t r w.past j (occurs_drop path w.past l) o;
          ends = q;
          whole = λ y. absurd (true≢false (sym y ∙ z));
        },
      ))

  pub next_leftmost : (j k : ℕ) → StoodBy k w → k ≤ j → Occurs path j r → (last ≡ true → j + length r ≡ length path)
      → StoodBy (j + length r) (next last r path w)
  next_leftmost j k (e, l) m o y =
      split last (λ z. rw (next_final r path w last e z) (final_leftmost r w.past w.count path j (omega arith) o (y z)))
      (λ z.
      let x = seek_leftmost r w.past w.count (drop w.past path) (j - w.past) (occurs_behind path r j w.past o (omega arith)) in
      rw (next_seek r path w last e z) (x.0, omega arith))
