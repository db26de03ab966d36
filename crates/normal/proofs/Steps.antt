-- Normalising, replacement by replacement: what a turn of each loop needs. Assumes nothing.
use Prim.Native.Nat.{ℕ, zero, suc, ◌+◌, ◌-◌, ◌≤◌, ◌<◌}
use mathlib.Core.Path.{◌≡◌, refl, sym, ap, ◌∙◌}
use mathlib.Core.Bool.{Bool, true, false, not}
use mathlib.Core.List.{List, [], ◌∷◌, ◌++◌}
use native.Mathlib.Omega.{arith}
use lib.ListN.{length, take, drop, get_or, length-append, length-drop, drop_of_length-le}
use lib.Seq.{drop-nil, sets, length-sets}
use Rattle.std.proofs.lemmas.List.{nil_from_length}
use Rattle.lists.specs.Lists.{up_to}
use Rattle.lists.proofs.Bools.{split}
use Rattle.lists.proofs.Scans.{rest_of, take_up_to}
use Rattle.lists.proofs.Fronts.{sets_append, sets_front}
use Rattle.protocol.specs.Normal.{is_escape, is_encoded, replacement, normal}
use Rattle.protocol.specs.Answers.{at_front}
use Rattle.escapes.specs.Escapes.{kept, taken}
use Rattle.escapes.proofs.Forms.{kept_alone, replacement_kept}

-- what belongs to an escape that is done is passed over
skip : (stars : Bool) (n : ℕ) (l : List ℕ) → normal stars n l ≡ normal stars 0 (drop n l)
unfolding normal
skip stars n [] = rw (drop-nil n)
skip stars zero (c ∷ l) = refl
skip stars (suc n) (c ∷ l) = skip stars n l

-- the first replacement, and the escapes behind what it takes
pub normal_cons : (stars : Bool) (c : ℕ) (l : List ℕ) → normal stars 0 (c ∷ l) ≡ replacement stars c l ++ normal stars 0 (drop (taken c l) (c ∷ l))
unfolding normal
normal_cons stars c l =
    split (is_escape c l) (λ e. rw e (ap (λ (m : List ℕ). replacement stars c l ++ m) (skip stars 2 l))) (λ e. rw e)

-- an octet that isn't encoded stays
pub normal_kept : (stars : Bool) (c : ℕ) (l : List ℕ) → is_encoded stars c ≡ false → normal stars 0 (c ∷ l) ≡ c ∷ normal stars 0 l
normal_kept stars c l e = normal_cons stars c l ∙ rw (replacement_kept stars c l (ap not e), kept_alone stars c l (ap not e))

-- the octets in front of the first that is encoded, and what is left behind them
normal_front : (stars : Bool) (s : List ℕ) → normal stars 0 s ≡ up_to (is_encoded stars) s ++ normal stars 0 (drop (length (up_to (is_encoded stars) s)) s)
unfolding normal up_to
normal_front stars [] = refl
normal_front stars (c ∷ l) =
    split (is_encoded stars c) (λ e. rw e) (λ e. rw (e, normal_kept stars c l e) (ap (λ (m : List ℕ). c ∷ m) (normal_front stars l)))

-- the octets in front are among the normalised ones
pub kept_shorter : (stars : Bool) (s : List ℕ) → length (up_to (is_encoded stars) s) ≤ length (normal stars 0 s)
kept_shorter stars s =
    omega (arith, ap length (normal_front stars s), length-append (up_to (is_encoded stars) s) (normal stars 0 (drop (length (up_to (is_encoded stars) s)) s)))

-- an escape is whole
taken_whole : (c : ℕ) (l : List ℕ) → taken c l ≤ suc (length l)
unfolding is_escape
taken_whole c [] = omega arith
taken_whole c (d ∷ []) = omega arith
taken_whole c (d ∷ e ∷ l) = split (is_escape c (d ∷ e ∷ l)) (λ h. rw h (omega arith)) (λ h. rw h (omega arith))

taken_some : (c : ℕ) (l : List ℕ) → 0 < taken c l
taken_some c l = split (is_escape c l) (λ h. rw h (omega arith)) (λ h. rw h (omega arith))

pub normal_end : (stars : Bool) (s : List ℕ) (i : ℕ) → length s ≤ i → normal stars 0 (drop i s) ≡ []
unfolding normal
normal_end stars s i h = rw (drop_of_length-le s h)

-- what the first replacement takes: some of the text's octets, and no more than there are
module _ (s : List ℕ) where
  pub first_some : 0 < taken (get_or s 0 0) (drop 1 s)
  first_some = taken_some (get_or s 0 0) (drop 1 s)

  pub first_inside : 0 < length s → taken (get_or s 0 0) (drop 1 s) ≤ length s
  first_inside h = omega (arith, taken_whole (get_or s 0 0) (drop 1 s), length-drop 1 s)

-- the first replacement, and what is left behind the n octets that it takes
module _ (stars : Bool) (s : List ℕ) where
  on : 0 < length s
      → normal stars 0 s ≡ replacement stars (get_or s 0 0) (drop 1 s) ++ normal stars 0 (drop (taken (get_or s 0 0) (drop 1 s)) s)
  on h = elim s as (λ t. 0 < length t → normal stars 0 t ≡ replacement stars (get_or t 0 0) (drop 1 t) ++ normal stars 0 (drop (taken (get_or t 0 0) (drop 1 t)) t)) [
    | [] ↦ λ k. absurd (omega arith)
    | c ∷ l ↦ λ k. normal_cons stars c l
  ] h

  pub first_on : (n : ℕ) → 0 < length s → n ≡ taken (get_or s 0 0) (drop 1 s)
      → normal stars 0 s ≡ replacement stars (get_or s 0 0) (drop 1 s) ++ normal stars 0 (take (length s - n) (drop n s))
  first_on n h e = rw (e, rest_of (taken (get_or s 0 0) (drop 1 s)) s) (on h)

  pub first_length : (n : ℕ) → 0 < length s → n ≡ taken (get_or s 0 0) (drop 1 s)
      → length (normal stars 0 s) ≡ length (replacement stars (get_or s 0 0) (drop 1 s)) + length (normal stars 0 (take (length s - n) (drop n s)))
  first_length n h e = ap length (first_on n h e) ∙ length-append (replacement stars (get_or s 0 0) (drop 1 s)) (normal stars 0 (take (length s - n) (drop n s)))

  pub first_least : 0 < length s → length (replacement stars (get_or s 0 0) (drop 1 s)) ≤ length (normal stars 0 s)
  first_least h = omega (arith, first_length (taken (get_or s 0 0) (drop 1 s)) h refl)

  -- where the octet stays, it is the first replacement, and takes itself
  pub first_kept : kept stars (get_or s 0 0) ≡ true
      → (replacement stars (get_or s 0 0) (drop 1 s) ≡ get_or s 0 0 ∷ []) × (1 ≡ taken (get_or s 0 0) (drop 1 s))
  first_kept h = (replacement_kept stars (get_or s 0 0) (drop 1 s) h, rw (kept_alone stars (get_or s 0 0) (drop 1 s) h))

-- to write it, and what is left behind it, writes the whole
pub first_written : (stars : Bool) (s : List ℕ) (n : ℕ) (out : List ℕ) (at : ℕ) → 0 < length s → n ≡ taken (get_or s 0 0) (drop 1 s)
    → sets (sets out at (replacement stars (get_or s 0 0) (drop 1 s))) (at + length (replacement stars (get_or s 0 0) (drop 1 s)))
    (normal stars 0 (take (length s - n) (drop n s)))
    ≡ sets out at (normal stars 0 s)
first_written stars s n out at h e =
    sym (sets_append (replacement stars (get_or s 0 0) (drop 1 s)) (normal stars 0 (take (length s - n) (drop n s))) out at)
    ∙ ap (λ (l : List ℕ). sets out at l) (sym (first_on stars s n h e))

pub normal_none : (stars : Bool) (s : List ℕ) → length s ≡ 0 → normal stars 0 s ≡ []
unfolding normal
normal_none stars s h = rw (nil_from_length s h)

pub length_none : (stars : Bool) (s : List ℕ) → length s ≡ 0 → length (normal stars 0 s) ≡ 0
length_none stars s h = ap length (normal_none stars s h)

-- to store what is left at n leaves what to store the whole at k would have left
pub record Stores (was whole : List ℕ) (k : ℕ) (out left : List ℕ) (n : ℕ) : Type 0 where
  pub end : n + length left ≡ k + length whole
  pub size : length out ≡ length was
  pub same : sets out n left ≡ sets was k whole

module _ {was whole : List ℕ} {k : ℕ} {out left : List ℕ} {n : ℕ} (h : Stores was whole k out left n) where
  pub store_on : (a rest : List ℕ) → left ≡ a ++ rest → Stores was whole k (sets out n a) rest (n + length a)
  store_on a rest e =
      record {
        end = omega (arith, h.end, ap length e, length-append a rest);
        size = length-sets out n a ∙ h.size;
        same = sym (sets_append a rest out n) ∙ (rw e at h.same);
      }

  pub all_stored : left ≡ [] → (n ≡ k + length whole) × (out ≡ sets was k whole)
  all_stored e = (omega (arith, h.end, ap length e), rw e at h.same)

-- n octets copied to the front
pub copied : (f : ℕ → Bool) (s out copy : List ℕ) (n : ℕ) → n ≡ length (up_to f s) → n ≤ length out → copy ≡ take n s
    → copy ++ drop n out ≡ sets out 0 (up_to f s)
copied f s out copy n e h k =
    let b : length (up_to f s) ≤ length out = omega arith in
    rw (k, e, take_up_to f s) (sym (sets_front (up_to f s) out b))

-- `copy` holds the octets in front of the first that is encoded, n of them
module _ (stars : Bool) (s out : List ℕ) (n : ℕ) (copy : List ℕ) (e : (n ≡ length (up_to (is_encoded stars) s)) × (copy ≡ sets out 0 (up_to (is_encoded stars) s))) where
  pub front_stored : Stores out (normal stars 0 s) 0 copy (normal stars 0 (drop n s)) n
  front_stored =
      let front = up_to (is_encoded stars) s in
      let z : 0 + length front ≡ length front = omega arith in
      let start : Stores out (normal stars 0 s) 0 out (normal stars 0 s) 0 = record { end = refl; size = refl; same = refl } in
      rw (e.0, e.1) (rw z at (store_on start front (normal stars 0 (drop (length front) s)) (normal_front stars s)))

  -- what is left, stored behind them
  pub rest_stored : length (normal stars 0 s) ≤ length out → {r : ℕ} {o : List ℕ}
      → (r ≡ n + length (normal stars 0 (drop n s))) × (o ≡ sets copy n (normal stars 0 (drop n s)))
      → (r ≡ length (normal stars 0 s)) × (o ≡ at_front (normal stars 0 s) out)
  rest_stored fits (f, g) = (omega (arith, front_stored), g ∙ front_stored.same ∙ sets_front (normal stars 0 s) out fits)

-- what holds of nothing, and of a text if it holds behind its first replacement, holds of every text
module _ (P : List ℕ → Type 0) (none : P []) (more : (c : ℕ) (l : List ℕ) → P (drop (taken c l) (c ∷ l)) → P (c ∷ l)) where
  tails : (l : List ℕ) → P l × (P (drop 1 l) × P (drop 2 l))
  tails [] = (none, (none, none))
  tails (c ∷ l) =
      let t = tails l in
      (more c l (split (is_escape c l) (λ e. rw e t.1.1) (λ e. rw e t.0)), (t.0, t.1.0))

  pub by_replacements : (l : List ℕ) → P l
  by_replacements l = (tails l).0
