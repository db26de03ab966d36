-- A text put in front of a place of a list. Assumes nothing.
use Prim.Native.Nat.{ℕ, ◌+◌, ◌-◌, ◌≤◌}
use mathlib.Core.Path.{◌≡◌, ◌∙◌}
use mathlib.Core.List.{List, ◌++◌, append_assoc}
use native.Mathlib.Omega.{arith}
use lib.ListN.{length, take, drop, length-append, length-take, length-drop}
use lib.Seq.{sets, sets-eq, drop_at, take-append-le, take-take, length-take-le}
use Rattle.output.specs.Before.{before}

module _ (text l : List ℕ) (at : ℕ) (h : length text ≤ at) (k : at ≤ length l) where
  -- stores from the place on where the text begins
  pub sets_before : sets l (at - length text) text ≡ before text at l
  unfolding before
  sets_before =
      let e : at - length text + length text ≡ at = omega arith in
      sets-eq text l (at - length text) (omega arith) ∙ rw (append_assoc, e)

  front_length : length (take (at - length text) l) ≡ at - length text
  front_length = length-take-le (at - length text) l (omega arith)

  -- from the place on where it begins, the text is read, and then what stood behind it
  pub drop_before : drop (at - length text) (before text at l) ≡ text ++ drop at l
  unfolding before
  drop_before = drop_at (take (at - length text) l) (text ++ drop at l) (at - length text) front_length

  -- in front of the text nothing changes
  pub take_before : (n : ℕ) → n ≤ at - length text → take n (before text at l) ≡ take n l
  unfolding before
  take_before n i =
      take-append-le n (take (at - length text) l) (text ++ drop at l) (rw front_length i) ∙ take-take n (at - length text) l i

  pub length_before : length (before text at l) ≡ length l
  unfolding before
  length_before = simp (length-append, length-drop, length-take) (omega arith)

-- two texts, the second put first
module _ (a b l : List ℕ) (at : ℕ) (h : length a + length b ≤ at) (k : at ≤ length l) where
  pub before_append : before a (at - length b) (before b at l) ≡ before (a ++ b) at l
  unfolding before
  before_append =
      let e : at - length b - length a ≡ at - length (a ++ b) = simp length-append (omega arith) in
      let front = take_before b l at (omega arith) k (at - length b - length a) (omega arith) in
      rw (front, drop_before b l at (omega arith) k, e, append_assoc)
