-- A list read from an index on, up to the first element that passes a test: what each turn of a search finds. Assumes nothing.
use Prim.Native.Nat.{ℕ, zero, suc, ◌+◌, ◌-◌, ◌≤◌, ◌<◌}
use mathlib.Core.Path.{◌≡◌, refl, sym, ap, ◌∙◌}
use mathlib.Core.Bool.{Bool, true, false, not}
use mathlib.Core.List.{List, [], ◌∷◌, map, tail}
use native.Mathlib.Omega.{arith}
use native.Mathlib.Numerals.{add-one}
use lib.Dec.{ltb, eqb}
use lib.ListN.{length, take, drop, get_or, length-append, length-drop, drop_of_length-le}
use lib.Seq.{drop-cons, drop-drop, drop_at, take_all, take-append_seam}
use borrow.Author.Tests.{lt-ltb, le-ltb, ltb-true, ltb-false, eq-eqb, ne_eqb, eqb-true, eqb-false}
use Rattle.lists.specs.Lists.{all, any, up_to, from}
use Rattle.lists.proofs.Bools.{split}
use Rattle.lists.proofs.Parts.{up_to_stop, up_to_on, up_to_from}

module _ {A : Type 0} where
  -- one element more, at the code's i + 1
  pub drop_one : (l : List A) (i : ℕ) (d : A) → i < length l → drop i l ≡ get_or l i d ∷ drop (i + 1) l
  drop_one l i d h = rw add-one (drop-cons l i d h)

  -- a function's value at an index that the list has
  pub map_at : {B : Type 0} (f : A → B) (l : List A) (i : ℕ) (d : A) (e : B) → i < length l → get_or (map f l) i e ≡ f (get_or l i d)
  map_at f [] i d e h = absurd (omega arith)
  map_at f (x ∷ l) zero d e h = refl
  map_at f (x ∷ l) (suc i) d e h = map_at f l i d e (omega arith)

  -- what is lent of a slice from an index on
  pub rest_of : (k : ℕ) (l : List A) → take (length l - k) (drop k l) ≡ drop k l
  rest_of k l = take_all (length l - k) (drop k l) (simp length-drop (omega arith))

  -- all but the first element
  drop_first : (l : List A) → drop 1 l ≡ tail l
  drop_first [] = refl
  drop_first (x ∷ l) = refl

module _ {A : Type 0} (f : A → Bool) where
  -- a search at the index i
  module _ (l : List A) (i : ℕ) (d : A) where
    pub scan_none : length l ≤ i → length (up_to f (drop i l)) ≡ 0
    unfolding up_to
    scan_none h = rw (drop_of_length-le l h)

    pub scan_stop : i < length l → f (get_or l i d) ≡ true → length (up_to f (drop i l)) ≡ 0
    scan_stop h e = rw (drop_one l i d h, up_to_stop f (get_or l i d) (drop (i + 1) l) e)

    pub scan_on : i < length l → f (get_or l i d) ≡ false → length (up_to f (drop i l)) ≡ suc (length (up_to f (drop (i + 1) l)))
    scan_on h e = rw (drop_one l i d h, up_to_on f (get_or l i d) (drop (i + 1) l) e)

  pub up_to_fits : (l : List A) → length (up_to f l) ≤ length l
  up_to_fits l = omega (arith, ap length (up_to_from f l), length-append (up_to f l) (from f l))

  -- the element behind the first part passes the test
  pub up_to_stops : (l : List A) (d : A) → length (up_to f l) < length l → f (get_or l (length (up_to f l)) d) ≡ true
  up_to_stops [] d h = absurd (omega arith)
  up_to_stops (x ∷ l) d h =
      split (f x) (λ e. rw (up_to_stop f x l e) e) (λ e. rw (up_to_on f x l e) (up_to_stops l d (shorter (rw (up_to_on f x l e) at h))))
    where
      shorter : {m n : ℕ} → suc m < suc n → m < n
      shorter k = omega arith

  -- the two parts, read by the length of the first
  pub take_up_to : (l : List A) → take (length (up_to f l)) l ≡ up_to f l
  take_up_to l = rw (up_to_from f l) at (take-append_seam (up_to f l) (from f l))

  pub drop_up_to : (l : List A) → drop (length (up_to f l)) l ≡ from f l
  drop_up_to l = rw (up_to_from f l) at (drop_at (up_to f l) (from f l) (length (up_to f l)) refl)

  -- behind the first element that passes the test
  pub drop_past : (l : List A) → drop (length (up_to f l) + 1) l ≡ tail (from f l)
  drop_past l = sym (drop-drop 1 (length (up_to f l)) l) ∙ ap (drop 1) (drop_up_to l) ∙ drop_first (from f l)

  -- some element passes the test exactly where the first part is not the whole
  pub any_found : (l : List A) → ltb (length (up_to f l)) (length l) ≡ any f l
  unfolding any up_to
  any_found [] = refl
  any_found (x ∷ l) =
      split (f x) (λ e. rw (up_to_stop f x l e, e) (lt-ltb 0 (suc (length l)) (omega arith)))
      (λ e. rw (up_to_on f x l e, e) (below (length (up_to f l)) (length l) ∙ any_found l))
    where
      below : (m n : ℕ) → ltb (suc m) (suc n) ≡ ltb m n
      below m n =
          split (ltb m n) (λ e. lt-ltb (suc m) (suc n) (omega (arith, ltb-true m n e)) ∙ sym e)
          (λ e. le-ltb (suc m) (suc n) (omega (arith, ltb-false m n e)) ∙ sym e)

  -- all do exactly where the part in front of the first that doesn't is the whole
  pub all_found : (l : List A) → eqb (length (up_to (λ x. not (f x)) l)) (length l) ≡ all f l
  unfolding all up_to
  all_found [] = refl
  all_found (x ∷ l) =
      split (f x) (λ e. rw (up_to_on (λ y. not (f y)) x l (ap not e), e) (equal (length (up_to (λ y. not (f y)) l)) (length l) ∙ all_found l))
      (λ e. rw (up_to_stop (λ y. not (f y)) x l (ap not e), e) (ne_eqb 0 (suc (length l)) (λ q. omega arith)))
    where
      equal : (m n : ℕ) → eqb (suc m) (suc n) ≡ eqb m n
      equal m n =
          split (eqb m n) (λ e. eq-eqb (suc m) (suc n) (ap suc (eqb-true m n e)) ∙ sym e)
          (λ e. ne_eqb (suc m) (suc n) (λ q. eqb-false m n e (omega arith)) ∙ sym e)
