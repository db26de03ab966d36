-- What one turn of a search does, at a place. Assumes nothing.
use Rattle.std.specs.Prelude.{if◌then◌else◌}
use Prim.Native.Nat.{ℕ, zero, suc, ◌+◌, ◌-◌, ◌≤◌, ◌<◌}
use mathlib.Core.Path.{◌≡◌, refl, ap, ◌∙◌}
use mathlib.Core.Bool.{true, false, true≢false, false≢true}
use mathlib.Core.List.{List, [], ◌∷◌}
use native.Mathlib.Omega.{arith}
use native.Mathlib.Nat.{add-zero}
use lib.Dec.{eqb}
use lib.ListN.{length, take, drop, get_or, length-drop}
use lib.Seq.{drop-drop}
use Rattle.lists.proofs.Bools.{split}
use Rattle.lists.proofs.Scans.{rest_of}
use Rattle.protocol.specs.declared.Tried.{Tried}
use Rattle.protocol.specs.declared.Walked.{Walked}
use Rattle.protocol.specs.Walk.{tried, failed, seek}
use Rattle.tries.specs.Tries.{tried_first}
use Rattle.protocol.proofs.Tries.{tried_same, tried_other, tried_more, seek_out, seek_here, seek_on, seek_more}

-- an empty run stands at once
pub seek_empty : (r : List ℕ) (k n : ℕ) (t : List ℕ) → length r ≡ 0 → seek r k n t ≡ record { stood = true; past = k; count = n }
unfolding tried
seek_empty [] k n t e = seek_here [] k n t (omega arith) refl ∙ simp add-zero
seek_empty (a ∷ r) k n t e = absurd (omega arith)

-- what a search comes to where the run's first octet stands in front of t, which begins at the place k
abbrev behind : ℕ → List ℕ → ℕ → ℕ → List ℕ → Walked
behind a r k n t =
    if (tried r t n).stood then record { stood = true; past = k + length r; count = (tried r t n).count } else seek (a ∷ r) k (tried r t n).count t

-- where the run's first octet is tried at the next s places: it stands nowhere, or the search goes on behind it
abbrev Firsts : ℕ → List ℕ → ℕ → ℕ → List ℕ → ℕ → Tried → Type 0
Firsts a r k n t s x =
    (n ≤ x.count)
    × (x.count ≤ n + s)
    × (x.stood ≡ false → seek (a ∷ r) k n t ≡ seek (a ∷ r) (k + s) x.count (drop s t))
    × (x.stood ≡ true → (n < x.count) × (seek (a ∷ r) k n t ≡ behind a r (k + (x.count - n)) x.count (drop (x.count - n) t)))

module _ (a : ℕ) (r : List ℕ) (k n b : ℕ) (t : List ℕ) (l : length r ≤ length t) where
  first_stands : eqb a b ≡ true → seek (a ∷ r) k n (b ∷ t) ≡ behind a r (k + 1) (n + 1) t
  first_stands e =
      let q : tried (a ∷ r) (b ∷ t) n ≡ tried r t (n + 1) = tried_same a b r t n e in
      let p : k + suc (length r) ≡ k + 1 + length r = omega arith in
      split (tried r t (n + 1)).stood
      (λ f. seek_here (a ∷ r) k n (b ∷ t) (omega arith) (ap (λ (x : Tried). x.stood) q ∙ f) ∙ rw (q, p, f))
      (λ f. seek_on (a ∷ r) k n b t (omega arith) (ap (λ (x : Tried). x.stood) q ∙ f) ∙ rw (q, f))

  first_differs : eqb a b ≡ false → seek (a ∷ r) k n (b ∷ t) ≡ seek (a ∷ r) (k + 1) (n + 1) t
  first_differs e =
      let q : tried (a ∷ r) (b ∷ t) n ≡ record { stood = false; count = n + 1 } = tried_other a b r t n e in
      seek_on (a ∷ r) k n b t (omega arith) (ap (λ (x : Tried). x.stood) q) ∙ rw q

  -- one place more
  firsts_differ : (s : ℕ) (x : Tried) → eqb a b ≡ false → Firsts a r (k + 1) (n + 1) t s x → Firsts a r k n (b ∷ t) (suc s) x
  firsts_differ s x e h =
      let p : k + suc s ≡ k + 1 + s = omega arith in (
        omega arith,
        omega arith,
        λ f. rw p (first_differs e ∙ h.2 f),
        λ f.
            let d = x.count - (n + 1) in
            let m : n + 1 < x.count = (h.3 f).0 in
            let q : x.count - n ≡ suc d = omega arith in
            let p : k + suc d ≡ k + 1 + d = omega arith in
            (omega arith, rw q (rw p (first_differs e ∙ (h.3 f).1))),
      )

seek_firsts : (a : ℕ) (r : List ℕ) (k n s : ℕ) (t : List ℕ) → s + length r ≤ length t → Firsts a r k n t s (tried_first a (take s t) n)
unfolding tried_first
seek_firsts a r k n zero t l = (omega arith, omega arith, λ _. simp add-zero, λ e. absurd (false≢true e))
seek_firsts a r k n (suc s) [] l = absurd (omega arith)
seek_firsts a r k n (suc s) (b ∷ t) l =
    split (eqb a b)
    (λ e.
    let one : n + 1 - n ≡ 1 = omega arith in
    rw e (omega arith, omega arith, λ f. absurd (true≢false f), λ _. (omega arith, rw one (first_stands a r k n b t (omega arith) e))))
    (λ e. rw e (firsts_differ a r k n b t (omega arith) s (tried_first a (take s t) (n + 1)) e (seek_firsts a r (k + 1) (n + 1) s t (omega arith))))

-- a search at the place k of a path
module _ (r path : List ℕ) (k n : ℕ) where
  pub search_end : length path - k < length r → seek r k n (drop k path) ≡ failed n
  search_end l = seek_out r k n (drop k path) (simp length-drop l)

-- where a run's first octet x is found by tries from the place k on: the search goes on behind it
abbrev pub behind_first : ℕ → ℕ → Tried → ℕ
behind_first k n x = k + (x.count - n)

pub record Found (r path : List ℕ) (k n : ℕ) (x : Tried) : Type 0 where
  pub more : n < x.count
  pub inside : behind_first k n x ≤ length path
  pub fits : length r - 1 ≤ length path - behind_first k n x
  pub less : length path - behind_first k n x < length path - k
  pub some : 1 ≤ length r
  pub end : behind_first k n x + (length r - 1) ≤ length path
  pub here : (tried (drop 1 r) (drop (behind_first k n x) path) x.count).stood ≡ true
      → seek r k n (drop k path)
      ≡ record { stood = true; past = behind_first k n x + (length r - 1); count = (tried (drop 1 r) (drop (behind_first k n x) path) x.count).count }
  pub on : (tried (drop 1 r) (drop (behind_first k n x) path) x.count).stood ≡ false
      → seek r k n (drop k path)
      ≡ seek r (behind_first k n x) (tried (drop 1 r) (drop (behind_first k n x) path) x.count).count (drop (behind_first k n x) path)

-- the first octet of a run tried at each place from k on at which the run fits
module _ (path : List ℕ) (k n : ℕ) where
  abbrev first_tries : List ℕ → Tried
  first_tries r = tried_first (get_or r 0 0) (take (length path - length r + 1 - k) (drop k path)) n

  pub firsts_spent : (r : List ℕ) (x : Tried) → (length r ≡ 0 → ⊥) → length r ≤ length path - k → x ≡ first_tries r → x.stood ≡ false
      → seek r k n (drop k path) ≡ failed x.count
  firsts_spent [] x some l h e = absurd (some refl)
  firsts_spent (a ∷ r) x some l h e =
      let s = length path - length (a ∷ r) + 1 - k in
      let f : Firsts a r k n (drop k path) s x = rw h (seek_firsts a r k n s (drop k path) (simp length-drop (omega arith))) in
      f.2 e ∙ seek_out (a ∷ r) (k + s) x.count (drop s (drop k path)) (simp length-drop (omega arith))

  pub firsts_found : (r : List ℕ) (x : Tried) → (length r ≡ 0 → ⊥) → length r ≤ length path - k → x ≡ first_tries r → x.stood ≡ true → Found r path k n x
  firsts_found [] x some l h e = absurd (some refl)
  firsts_found (a ∷ r) x some l h e =
      let s = length path - length (a ∷ r) + 1 - k in
      let f : Firsts a r k n (drop k path) s x = rw h (seek_firsts a r k n s (drop k path) (simp length-drop (omega arith))) in
      let d = x.count - n in
      let one : length (a ∷ r) - 1 ≡ length r = omega arith in
      let some-passed : n < x.count = (f.3 e).0 in
      let within : k + d ≤ length path - length (a ∷ r) + 1 = omega (arith, f.1) in
      let t = tried r (drop (k + d) path) x.count in
      let goes : seek (a ∷ r) k n (drop k path) ≡ behind a r (k + d) x.count (drop (k + d) path) = rw (← drop-drop d k path) (f.3 e).1 in
      record {
        more = some-passed;
        inside = omega arith;
        fits = omega arith;
        less = omega arith;
        some = omega arith;
        end = omega arith;
        here = λ q. goes ∙ rw (q, one);
        on = λ q. goes ∙ rw q;
      }

pub found_counts : (r path : List ℕ) (k n : ℕ) (x : Tried) → Found r path k n x
    → (tried (drop 1 r) (drop (behind_first k n x) path) x.count).count ≤ (seek r k n (drop k path)).count
found_counts r path k n x f =
    let at = behind_first k n x in
    let t = tried (drop 1 r) (drop at path) x.count in
    split t.stood
    (λ e. omega (arith, ap (λ (w : Walked). w.count) (f.here e)))
    (λ e. omega (arith, ap (λ (w : Walked). w.count) (f.on e), seek_more r at t.count (drop at path)))

-- these tries count no more than the search
pub tries_count : (path : List ℕ) (k n : ℕ) (r : List ℕ) → (length r ≡ 0 → ⊥) → length r ≤ length path - k
    → (first_tries path k n r).count ≤ (seek r k n (drop k path)).count
tries_count path k n r some l =
    let x = first_tries path k n r in
    split x.stood
    (λ e.
    let f = firsts_found path k n r x some l refl e in
    omega (arith, found_counts r path k n x f, tried_more (drop 1 r) (drop (behind_first k n x) path) x.count))
    (λ e. omega (arith, ap (λ (w : Walked). w.count) (firsts_spent path k n r x some l refl e)))

-- the same in the terms of `seek_run`, for a run that is not empty: with no x, and with the parts as they are lent
module _ (r path : List ℕ) (k n : ℕ) (some : 0 < length r) (l : length r ≤ length path - k) where
  abbrev tries : Tried
  tries = first_tries path k n r

  abbrev goes : ℕ
  goes = behind_first k n tries

  -- what is left of the run, behind the place where its first octet is
  abbrev behind_tried : Tried
  behind_tried = tried (take (length r - 1) (drop 1 r)) (take (length path - goes) (drop goes path)) tries.count

  whole : behind_tried ≡ tried (drop 1 r) (drop goes path) tries.count
  whole = rw (rest_of 1 r, rest_of goes path)

  not_empty : length r ≡ 0 → ⊥
  not_empty e = omega arith

  found : tries.stood ≡ true → Found r path k n tries
  found e = firsts_found path k n r tries not_empty l refl e

  pub seek_counts : tries.count ≤ (seek r k n (drop k path)).count
  seek_counts = tries_count path k n r not_empty l

  pub seek_spent : tries.stood ≡ false → seek r k n (drop k path) ≡ failed tries.count
  seek_spent e = firsts_spent path k n r tries not_empty l refl e

  pub tries_over : tries.stood ≡ true → n < tries.count
  tries_over e = (found e).more

  pub tries_within : tries.stood ≡ true → goes + (length r - 1) ≤ length path
  tries_within e = (found e).end

  pub behind_counts : tries.stood ≡ true → behind_tried.count ≤ (seek r k n (drop k path)).count
  behind_counts e = rw whole (found_counts r path k n tries (found e))

  pub behind_here : tries.stood ≡ true → behind_tried.stood ≡ true → seek r k n (drop k path) ≡ record { stood = true; past = goes + (length r - 1); count = behind_tried.count }
  behind_here e = rw whole (found e).here

  pub behind_on : tries.stood ≡ true → behind_tried.stood ≡ false → seek r k n (drop k path) ≡ seek r goes behind_tried.count (drop goes path)
  behind_on e = rw whole (found e).on

pub ruleset searches = (seek_empty, search_end, seek_counts, seek_spent, tries_over, tries_within, behind_counts, behind_here, behind_on)
