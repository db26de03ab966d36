-- Octets with the ones behind them, as a loop over two texts reads them, and tests of them, part by part. Assumes nothing.
use Prim.Native.Nat.{ℕ, zero, suc, ◌+◌, ◌-◌, ◌*◌, ◌/◌, ◌≤◌, ◌<◌, min}
use mathlib.Core.Path.{◌≡◌, refl, sym, ap, ◌∙◌}
use mathlib.Core.Bool.{Bool, ◌||◌, or_assoc, or-false}
use mathlib.Core.List.{List, [], ◌∷◌}
use Rattle.std.specs.Simd.{first_chunks}
use Rattle.std.specs.List.{zip}
use mathlib.Core.Logic.{inl, inr}
use denote.Ref.{Bor}
use Rattle.std.specs.Prelude.{Option, Some, None}
use Rattle.std.specs.List.{fold}
use Rattle.std.specs.declared.iter.Zip.{Zip}
use Rattle.std.specs.declared.slice.Iter.{Iter}
use Rattle.std.specs.Iterator.{Yields}
use Rattle.std.proofs.iter.Yields.{fronts}
use Rattle.std.proofs.lemmas.Iterator.{zips}
use Rattle.std.proofs.lemmas.Slice.Zip.{either_empty_from_Zip, zip_turn, zip_end}
use Rattle.std.specs.Iterator.Adapters.{zip_first, zip_second}
use Rattle.std.specs.Slice.Iter.{iter_rest}
use native.Mathlib.Omega.{arith}
use lib.ListN.{length, take, drop, get_or, length-take, length-drop}
use lib.Seq.{take-nil, drop-drop, get_or-drop}
use Rattle.lists.specs.Lists.{any, total}
use Rattle.lists.proofs.Scans.{drop_one, rest_of}
use Rattle.lines.specs.Skips.{pairs}

-- parts of two lists, taken together
module _ {A B : Type 0} where
  zip_none : (l : List A) → zip {X = B} l [] ≡ []
  zip_none [] = refl
  zip_none (x ∷ l) = refl

  pub zip_length : (l : List A) (m : List B) → length (zip l m) ≡ min (length l) (length m)
  zip_length [] m = omega arith
  zip_length (x ∷ l) [] = omega arith
  zip_length (x ∷ l) (y ∷ m) = omega (arith, zip_length l m)

  zip_take : (n : ℕ) (l : List A) (m : List B) → take n (zip l m) ≡ zip (take n l) (take n m)
  zip_take zero l m = refl
  zip_take (suc n) [] m = refl
  zip_take (suc n) (x ∷ l) [] = refl
  zip_take (suc n) (x ∷ l) (y ∷ m) = ap (λ (r : List (A × B)). (x, y) ∷ r) (zip_take n l m)

  -- one element more has nothing beside it
  zip_more : (n : ℕ) (l : List A) (m : List B) → zip (take (suc n) l) (take n m) ≡ take n (zip l m)
  zip_more zero l m = zip_none (take 1 l)
  zip_more (suc n) [] m = refl
  zip_more (suc n) (x ∷ l) [] = refl
  zip_more (suc n) (x ∷ l) (y ∷ m) = ap (λ (r : List (A × B)). (x, y) ∷ r) (zip_more n l m)

  pub zip_drop : (n : ℕ) (l : List A) (m : List B) → drop n (zip l m) ≡ zip (drop n l) (drop n m)
  zip_drop zero l m = refl
  zip_drop (suc n) [] m = refl
  zip_drop (suc n) (x ∷ l) [] = sym (zip_none (drop n l))
  zip_drop (suc n) (x ∷ l) (y ∷ m) = zip_drop n l m

-- where a loop over two slices has nothing left of one of them
pub zip_over : {A B : Type 0} (s t : Zip (Iter A) (Iter B)) (r : Option (Bor A × Bor B)) → zips fronts fronts s r t → r ≡ None
    → zip (iter_rest (zip_first s)) (iter_rest (zip_second s)) ≡ []
zip_over {A} {B} s t r h e =
    elim (either_empty_from_Zip s t r e h) [
      | inl x ↦ ap (λ (l : List A). zip l (iter_rest (zip_second s))) x
      | inr x ↦ ap (zip (iter_rest (zip_first s))) x ∙ zip_none (iter_rest (zip_first s))
    ]

-- where a loop over two texts has come to
pub zip_next : (l m : List ℕ) (i : ℕ) → i < length l → i < length m → drop i (zip l m) ≡ (get_or l i 0, get_or m i 0) ∷ drop (i + 1) (zip l m)
zip_next l m i h k = rw (zip_drop i l m, zip_drop (i + 1) l m, drop_one l i 0 h, drop_one m i 0 k)

-- a part that is lent has so many octets
pub part_length : (s : List ℕ) (i k n : ℕ) → n ≡ k → i + k ≤ length s → length (take n (drop i s)) ≡ k
part_length s i k n e h = rw e (simp (length-take, length-drop) (omega arith))

-- of a text's front, which has an octet more than pairs
pairs_front : (s : List ℕ) (k n : ℕ) → n ≡ k + 1 → pairs (take n s) ≡ take k (pairs s)
pairs_front s k n e = let g : n ≡ suc k = omega arith in rw (g, behind s) (zip_more k s (drop 1 s))
  where
    behind : (l : List ℕ) → drop 1 (take (suc k) l) ≡ take k (drop 1 l)
    behind [] = sym (take-nil k)
    behind (x ∷ l) = refl

-- the octets of a text and those behind them
module _ (s : List ℕ) where
  pub pairs_length : length (pairs s) ≡ length s - 1
  pairs_length = rw (zip_length s (drop 1 s), length-drop 1 s) (omega arith)

  module _ (i : ℕ) where
    behind_one : drop i (drop 1 s) ≡ drop (i + 1) s
    behind_one = let e : 1 + i ≡ i + 1 = omega arith in drop-drop i 1 s ∙ ap (λ (k : ℕ). drop k s) e

    -- of a part that is lent
    pub pairs_part : (k n m : ℕ) → n ≡ k → m ≡ k → zip (take n (drop i s)) (take m (drop (i + 1) s)) ≡ take k (drop i (pairs s))
    pairs_part k n m e g = rw (e, g, zip_drop i s (drop 1 s), zip_take k (drop i s) (drop i (drop 1 s)), behind_one)

    pub pairs_rest : pairs (drop i s) ≡ drop i (pairs s)
    pairs_rest = rw (zip_drop i s (drop 1 s), behind_one, drop-drop 1 i s)

    -- of a part that has an octet more than pairs
    pub pairs_few : (k n : ℕ) → n ≡ k + 1 → pairs (take n (drop i s)) ≡ take k (drop i (pairs s))
    pairs_few k n e = pairs_front (drop i s) k n e ∙ ap (take k) pairs_rest

    pub pairs_next : i + 1 < length s → drop i (pairs s) ≡ (get_or s i 0, get_or s (i + 1) 0) ∷ drop (i + 1) (pairs s)
    pairs_next h =
        let e : 1 + i ≡ i + 1 = omega arith in
        zip_next s (drop 1 s) i (omega arith) (simp length-drop (omega arith)) ∙ rw (get_or-drop 1 s i 0, e)

module _ {A : Type 0} (f : A → Bool) where
  -- a test of all elements, one after another
  pub any_fold : (b : Bool) (l : List A) → fold (λ (c : Bool) (x : A). c || f x) b l ≡ (b || any f l)
  unfolding any
  any_fold b [] = sym (or-false b)
  any_fold b (x ∷ l) = any_fold (b || f x) l ∙ or_assoc b (f x) (any f l)

  -- a test of two parts
  pub any_parts : (n m : ℕ) (l : List A) → any f (take (n + m) l) ≡ any f (take n l) || any f (take m (drop n l))
  unfolding any
  any_parts zero m l = let e : 0 + m ≡ m = omega arith in rw e
  any_parts (suc n) m [] = let e : suc n + m ≡ suc (n + m) = omega arith in rw (e, take-nil {A = A} m)
  any_parts (suc n) m (x ∷ l) =
      let e : suc n + m ≡ suc (n + m) = omega arith in
      rw e (ap (λ (b : Bool). f x || b) (any_parts n m l) ∙ sym (or_assoc (f x) (any f (take n l)) (any f (take m (drop n l)))))

-- a sum over two parts
pub total_parts : {A : Type 0} (f : A → ℕ) (n m : ℕ) (l : List A) → total f (take (n + m) l) ≡ total f (take n l) + total f (take m (drop n l))
unfolding total
total_parts f zero m l = let e : 0 + m ≡ m = omega arith in rw e (omega arith)
total_parts {A} f (suc n) m [] = let e : suc n + m ≡ suc (n + m) = omega arith in rw (e, take-nil {A = A} m)
total_parts f (suc n) m (x ∷ l) = let e : suc n + m ≡ suc (n + m) = omega arith in rw e (omega (arith, total_parts f n m l))

-- a block of a text that is read block by block
chunk_at : (n k : ℕ) (l : List ℕ) (i : ℕ) (d : List ℕ) → i < k → get_or (first_chunks n k l) i d ≡ take n (drop (n * i) l)
chunk_at n zero l i d h = absurd (omega arith)
chunk_at n (suc k) l zero d h = let z : n * 0 ≡ 0 = omega arith in rw z
chunk_at n (suc k) l (suc i) d h =
    let e : n + n * i ≡ n * suc i = omega arith in
    chunk_at n k (drop n l) i d (omega arith) ∙ ap (take n) (drop-drop (n * i) n l ∙ ap (λ (j : ℕ). drop j l) e)

-- and beside it the block behind it
pub blocks_beside : (l m : List ℕ) (j k i : ℕ) (b behind : List ℕ) → i < j → i < k
    → ((d : List ℕ) → b ≡ get_or (first_chunks 64 j l) i d) → ((d : List ℕ) → behind ≡ get_or (first_chunks 64 k m) i d)
    → zip b behind ≡ take 64 (drop (64 * i) (zip l m))
blocks_beside l m j k i b behind h g e f =
    rw (e [], f [], chunk_at 64 j l i [] h, chunk_at 64 k m i [] g, zip_drop (64 * i) l m, zip_take 64 (drop (64 * i) l) (drop (64 * i) m))

chunks_length : (n k : ℕ) (l : List ℕ) → length (first_chunks n k l) ≡ k
chunks_length n zero l = refl
chunks_length n (suc k) l = ap suc (chunks_length n k (drop n l))

-- a turn of a loop over the blocks of two texts
pub blocks_turn : (l m : List ℕ) (s t u : Zip (Iter (List ℕ)) (Iter (List ℕ))) (xs : List (Bor (List ℕ) × Bor (List ℕ))) (r : Option (Bor (List ℕ) × Bor (List ℕ)))
    (p : Bor (List ℕ) × Bor (List ℕ)) → iter_rest (zip_first s) ≡ first_chunks 64 (length l / 64) l → iter_rest (zip_second s) ≡ first_chunks 64 (length m / 64) m
    → Yields (zips fronts fronts) s xs t → r ≡ Some p → zips fronts fronts t r u
    → (64 * length xs + 64 ≤ length l) × (64 * length xs + 64 ≤ length m) × (zip p.0.now p.1.now ≡ take 64 (drop (64 * length xs) (zip l m)))
blocks_turn l m s t u xs r p f g y e h =
    let found = zip_turn (first_chunks 64 (length l / 64) l) (first_chunks 64 (length m / 64) m) xs s t u r f g y p e h in
    let i : length xs < length l / 64 = omega (arith, found.0, chunks_length 64 (length l / 64) l) in
    let j : length xs < length m / 64 = omega (arith, found.1, chunks_length 64 (length m / 64) m) in
    (omega arith, omega arith, blocks_beside l m (length l / 64) (length m / 64) (length xs) p.0.now p.1.now i j found.2 found.3)

-- and behind the last
pub blocks_end : (l m : List ℕ) (s t u : Zip (Iter (List ℕ)) (Iter (List ℕ))) (xs : List (Bor (List ℕ) × Bor (List ℕ))) (r : Option (Bor (List ℕ) × Bor (List ℕ)))
    → iter_rest (zip_first s) ≡ first_chunks 64 (length l / 64) l → iter_rest (zip_second s) ≡ first_chunks 64 (length m / 64) m
    → Yields (zips fronts fronts) s xs t → r ≡ None → zips fronts fronts t r u → length xs ≡ min (length l / 64) (length m / 64)
blocks_end l m s t u xs r f g y e h =
    omega (
      arith,
      zip_end (first_chunks 64 (length l / 64) l) (first_chunks 64 (length m / 64) m) xs s t u r f g y e h,
      chunks_length 64 (length l / 64) l,
      chunks_length 64 (length m / 64) m,
    )

pub pairs_at : (s : List ℕ) (i : ℕ) → zip (drop i s) (drop (i + 1) s) ≡ drop i (pairs s)
pairs_at s i = rw (zip_drop i s (drop 1 s), behind_one s i)

-- a turn of a loop over the blocks of a text, from an octet on, and those behind them: it has come to the octet i
pub text_turn : (s : List ℕ) (from i : ℕ) (a t u : Zip (Iter (List ℕ)) (Iter (List ℕ))) (xs : List (Bor (List ℕ) × Bor (List ℕ))) (r : Option (Bor (List ℕ) × Bor (List ℕ)))
    (p : Bor (List ℕ) × Bor (List ℕ))
    → let l = take (length s - from) (drop from s) in let m = take (length s - (from + 1)) (drop (from + 1) s) in
    iter_rest (zip_first a) ≡ first_chunks 64 (length l / 64) l → iter_rest (zip_second a) ≡ first_chunks 64 (length m / 64) m
    → Yields (zips fronts fronts) a xs t → r ≡ Some p → zips fronts fronts t r u → i ≡ from + 64 * length xs → from < length s
    → (i + 65 ≤ length s) × (zip p.0.now p.1.now ≡ take 64 (drop i (pairs s)))
text_turn s from i a t u xs r p f g y e h k o =
    let turn = blocks_turn (take (length s - from) (drop from s)) (take (length s - (from + 1)) (drop (from + 1) s)) a t u xs r p f g y e h in
    let block = rw (rest_of from s, rest_of (from + 1) s, pairs_at s from, drop-drop (64 * length xs) from (pairs s), ← k) at turn.2 in
    (omega (arith, turn.1, length-take (length s - (from + 1)) (drop (from + 1) s)), block)
