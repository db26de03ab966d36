-- What a search looks for, and how it goes on from where another has come to. Assumes nothing.
use Rattle.std.specs.Prelude.{if◌then◌else◌}
use Prim.Native.Nat.{ℕ, zero, suc, ◌+◌, ◌/◌, ◌%◌, ◌≤◌, ◌<◌}
use mathlib.Core.Path.{◌≡◌, refl, sym, ap, ap₂, ◌∙◌}
use mathlib.Core.Bool.{Bool, true, false, not, ◌||◌, true≢false, beq}
use mathlib.Core.List.{List, [], ◌∷◌, map}
use native.Mathlib.Omega.{arith}
use lib.Bits.{bit_or}
use lib.Dec.{eqb, leb, ltb}
use lib.ListN.{length, take, drop}
use lib.Seq.{drop-drop}
use borrow.Author.Tests.{eqb-true, eqb-false, leb-true, le-leb, lt-leb, ltb-false}
use Rattle.std.specs.List.{list_any, position, position_or_len}
use Rattle.std.specs.Option.{unwrap_or}
use Rattle.lists.specs.Lists.{any, up_to}
use Rattle.lists.proofs.Bools.{split, or_left, or_right}
use Rattle.lists.proofs.Parts.{up_to_stop, up_to_on}
use Rattle.lists.proofs.Cuts.{any_behind}
use Rattle.lists.proofs.Scans.{scan_none, up_to_fits}
use Rattle.protocol.specs.Octets.{is, line_end}
use Rattle.words.specs.Words.{octets_of, among, mark}
use Rattle.words.proofs.Words.{each_as}
use Rattle.words.proofs.Markings.{either_marks, no_marks}
use Rattle.protocol.specs.declared.Place.{Place}
use Rattle.protocol.specs.Lines.{place_at}
use Rattle.text.specs.Parts.{equals, opens, first_from}

-- the code compares what a test says with what is sought
pub as_sought : (b inside : Bool) → beq b inside ≡ (if inside then b else not b)
as_sought true true = refl
as_sought true false = refl
as_sought false true = refl
as_sought false false = refl

-- the octets from x to x
pub only_one : (x y : ℕ) → among x x true y ≡ equals x y
only_one x y =
    split (eqb y x) (λ e. let q : y ≡ x = eqb-true y x e in rw (le-leb x y (omega arith), le-leb y x (omega arith)) (sym e))
    (λ e.
    split (leb x y) (λ p. rw (p, lt-leb y x (omega (arith, leb-true x y p, eqb-false y x e))) (sym e)) (λ p. rw p (sym e)))

-- CR and LF are among the octets from LF, or a lower one, up to CR
pub end_low : (low : ℕ) → low ≤ 10 → (x : ℕ) → line_end x ≡ true → among low 13 true x ≡ true
unfolding line_end
end_low low h x e =
    split (is "\r" x) (λ r. rw (eqb-true x 13 r, le-leb low 13 (omega arith)))
    (λ r. let n : is "\n" x ≡ true = rw r at e in rw (eqb-true x 10 n, le-leb low 10 h))

-- marks for CR, and marks for LF
pub end_marks : (w a b : ℕ) → octets_of 8 a ≡ map (mark (among 13 13 true)) (octets_of 8 w) → octets_of 8 b ≡ map (mark (among 10 10 true)) (octets_of 8 w)
    → octets_of 8 (bit_or a b) ≡ map (mark line_end) (octets_of 8 w)
unfolding line_end
end_marks w a b p q =
    either_marks (among 13 13 true) (among 10 10 true) 8 w a b p q
    ∙ each_as 8 w (mark (λ x. among 13 13 true x || among 10 10 true x)) (mark line_end) (λ x k. rw (only_one 13 x, only_one 10 x))

-- a word with no octet up to CR has neither
end_unmarked : (n w : ℕ) → any (among 0 13 true) (octets_of n w) ≡ false → octets_of n 0 ≡ map (mark line_end) (octets_of n w)
unfolding octets_of any
end_unmarked zero w e = refl
end_unmarked (suc n) w e =
    split (line_end (w % 256)) (λ p. absurd (true≢false (sym (end_low 0 (omega arith) (w % 256) p) ∙ or_left _ _ e)))
    (λ p. ap₂ ◌∷◌ (rw p) (end_unmarked n (w / 256) (or_right _ _ e)))

pub no_end_marks : (w m : ℕ) → m ≡ 0 → octets_of 8 m ≡ map (mark (among 0 13 true)) (octets_of 8 w) → octets_of 8 0 ≡ map (mark line_end) (octets_of 8 w)
no_end_marks w m z h = end_unmarked 8 w ((no_marks (among 0 13 true) 8 m (octets_of 8 w) (omega arith) h).0 z)

-- a search from a place on, behind the text
pub first_past : (f : ℕ → Bool) (s : List ℕ) (p : Place) → length s < p.offset → p ≡ first_from f s p
first_past f s p h = ap place_at (omega (arith, scan_none f s p.offset 0 (omega arith)))

-- and where an octet stands that passes the test
opens_none : (f : ℕ → Bool) (l : List ℕ) → opens f l ≡ true → length (up_to f l) ≡ 0
opens_none f [] e = absurd (true≢false (sym e))
opens_none f (x ∷ l) e = ap length (up_to_stop f x l e)

pub first_here : (f : ℕ → Bool) (s : List ℕ) (p : Place) → opens f (drop p.offset s) ≡ true → p ≡ first_from f s p
first_here f s p e = ap place_at (omega (arith, opens_none f (drop p.offset s) e))

any_same : (f : ℕ → Bool) (l : List ℕ) → list_any f l ≡ any f l
unfolding any
any_same f [] = refl
any_same f (x ∷ l) = ap (λ (b : Bool). f x || b) (any_same f l)

-- behind octets over CR
pub end_behind : (l : List ℕ) (n : ℕ) → n ≡ length (up_to (among 0 13 true) l) → list_any line_end (drop n l) ≡ any line_end l
end_behind l n e = any_same line_end (drop n l) ∙ any_behind line_end (among 0 13 true) (end_low 0 (omega arith)) n l (omega arith)

module _ {A : Type 0} (f : A → Bool) where
  front_length : (l : List A) → position_or_len f l ≡ length (up_to f l)
  unfolding up_to
  front_length [] = refl
  front_length (x ∷ l) = split (f x) (λ e. rw e) (λ e. rw e (omega (arith, front_length l)))

  -- the place of the first that passes, or the length where none does
  pub front_position : (l : List A) → unwrap_or (position f l) (length l) ≡ length (up_to f l)
  front_position l =
      split (ltb (position_or_len f l) (length l)) (λ e. rw e (front_length l))
      (λ e. rw e (omega (arith, ltb-false _ _ e, front_length l, up_to_fits f l)))

  -- a search goes on behind what a search of the first n elements has passed
  pub up_to_part : (n : ℕ) (l : List A)
      → length (up_to f (take n l)) + length (up_to f (drop (length (up_to f (take n l))) l)) ≡ length (up_to f l)
  unfolding up_to
  up_to_part zero l = omega arith
  up_to_part (suc n) [] = refl
  up_to_part (suc n) (x ∷ l) =
      split (f x) (λ e. rw (up_to_stop f x (take n l) e, up_to_stop f x l e) (omega arith))
      (λ e. rw (up_to_on f x (take n l) e, up_to_on f x l e) (omega (arith, up_to_part n l)))

  -- and behind the first k elements, where it passes these
  pub up_to_behind : (k : ℕ) (l : List A) → k ≤ length (up_to f l) → k + length (up_to f (drop k l)) ≡ length (up_to f l)
  up_to_behind zero l h = omega arith
  up_to_behind (suc k) [] h = absurd (omega (arith, h, up_to_fits f []))
  up_to_behind (suc k) (x ∷ l) h =
      split (f x) (λ e. absurd (omega (arith, h, ap length (up_to_stop f x l e))))
      (λ e. rw (up_to_on f x l e) (omega (arith, up_to_behind k l (omega (arith, h, ap length (up_to_on f x l e))))))

  -- from the index i it goes on at r
  pub scan_from : (l : List A) (i k r : ℕ) → k + length (up_to f (drop k (drop i l))) ≡ length (up_to f (drop i l)) → r ≡ i + k
      → r + length (up_to f (drop r l)) ≡ i + length (up_to f (drop i l))
  scan_from l i k r h e = rw e (omega (arith, rw (drop-drop k i l) at h))
