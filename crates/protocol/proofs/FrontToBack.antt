-- The lines of a file, one after the other: the line at a place, and then the lines behind it. A line and its ending are no more than what is
-- left. Assumes nothing.
use Prim.Native.Nat.{ℕ, zero, suc, ◌+◌, ◌-◌, ◌≤◌, ◌<◌}
use mathlib.Core.Path.{◌≡◌, refl, ap, ◌∙◌}
use mathlib.Core.Bool.{true, false, ◌&&◌, false≢true}
use mathlib.Core.List.{List, [], ◌∷◌}
use native.Mathlib.Omega.{arith}
use lib.ListN.{length, drop, get_or, drop_of_length-le}
use lib.Seq.{drop-cons, drop-drop}
use Rattle.lists.specs.Lists.{up_to, from}
use Rattle.lists.proofs.Bools.{split, and_right}
use Rattle.lists.proofs.Parts.{up_to_stop, up_to_on, from_stop, from_on}
use Rattle.protocol.specs.declared.LineNumber.{LineNumber}
use Rattle.protocol.specs.declared.Place.{Place}
use Rattle.protocol.specs.Octets.{is, line_end}
use Rattle.protocol.specs.Text.{begins}
use Rattle.protocol.specs.Lines.{Line, line, line_number, place_at, number_after, place_after, line_text, ending_length, line_length, lines_from, skipped, lines_of}

-- a text begins with an octet of its first line, or with an ending
module _ (c : ℕ) (l : List ℕ) where
  pub length_on : line_end c ≡ false → line_length (c ∷ l) ≡ suc (line_length l)
  unfolding line_length
  length_on g = rw (up_to_on line_end c l g, from_on line_end c l g) (omega arith)

  pub length_ending : line_end c ≡ true → line_length (c ∷ l) ≡ ending_length (c ∷ l)
  unfolding line_length
  length_ending g = rw (up_to_stop line_end c l g, from_stop line_end c l g) (omega arith)

  ending_some : line_end c ≡ true → 1 ≤ ending_length (c ∷ l)
  unfolding ending_length
  ending_some g = split (is "\r" c && begins "\n" l) (λ e. rw e (omega arith)) (λ e. rw (e, g) (omega arith))

  ending_fits : ending_length (c ∷ l) ≤ suc (length l)
  unfolding ending_length begins
  ending_fits =
      split (is "\r" c && begins "\n" l) (λ e. rw e (two l (and_right (is "\r" c) (begins "\n" l) e)))
      (λ e. rw e (split (line_end c) (λ g. rw g (omega arith)) (λ g. rw g (omega arith))))
    where
      two : (m : List ℕ) → begins "\n" m ≡ true → 2 ≤ suc (length m)
      two [] h = absurd (false≢true h)
      two (d ∷ m) h = omega arith

-- a line that is there has some octet, of text or of its ending
pub line_some : (c : ℕ) (l : List ℕ) → 1 ≤ line_length (c ∷ l)
line_some c l =
    split (line_end c) (λ g. rw (length_ending c l g) (ending_some c l g)) (λ g. rw (length_on c l g) (omega arith))

-- a line and its ending are no more than what is left
pub line_fits : (l : List ℕ) → line_length l ≤ length l
unfolding line_length up_to from ending_length
line_fits [] = omega arith
line_fits (c ∷ l) =
    split (line_end c) (λ g. rw (length_ending c l g) (ending_fits c l)) (λ g. rw (length_on c l g) (omega (arith, line_fits l)))

-- octets that belong to the line in front
pub lines_skip : (n : LineNumber) (p : Place) (k : ℕ) (l : List ℕ) → lines_from n p k l ≡ lines_from n (place_after p k) 0 (drop k l)
unfolding lines_from
lines_skip n p zero l = let e : p.offset + 0 ≡ p.offset = omega arith in rw e
lines_skip n p (suc k) [] = refl
lines_skip n p (suc k) (c ∷ l) = let e : p.offset + 1 + k ≡ p.offset + suc k = omega arith in rw (← e) (lines_skip n (place_after p 1) k l)

-- the lines behind the first one of a text, which has the number n and the place p
abbrev pub lines_behind : LineNumber → Place → List ℕ → List Line
lines_behind n p l = lines_from (number_after n 1) p (line_length l) l

pub first_line_lem : (n : LineNumber) (p : Place) (c : ℕ) (l : List ℕ) → lines_from n p 0 (c ∷ l) ≡ line n p (line_text (c ∷ l)) ∷ lines_behind n p (c ∷ l)
unfolding lines_from
first_line_lem n p c l = ap (λ (ls : List Line). line n p (line_text (c ∷ l)) ∷ ls) (go (line_length (c ∷ l)) (line_some c l))
  where
    go : (k : ℕ) → 1 ≤ k → lines_from (number_after n 1) (place_after p 1) (k - 1) l ≡ lines_from (number_after n 1) p k (c ∷ l)
    go zero h = absurd (omega arith)
    go (suc k) h = let e : suc k - 1 ≡ k = omega arith in rw e

-- The lines from a place of the file on:
abbrev pub lines_at : List ℕ → LineNumber → Place → List Line
lines_at file n p = lines_from n p 0 (drop p.offset file)

-- all of them, behind the leading mark;
pub lines_all : (file : List ℕ) → lines_of file ≡ lines_at file (line_number 1) (place_at (skipped file))
unfolding lines_of
lines_all file = let e : 0 + skipped file ≡ skipped file = omega arith in lines_skip (line_number 1) (place_at 0) (skipped file) file ∙ rw e

module _ (file : List ℕ) (n : LineNumber) (p : Place) where
  -- none at the file's end;
  pub lines_end : length file ≤ p.offset → lines_at file n p ≡ []
  unfolding lines_from
  lines_end h = rw (drop_of_length-le file h)

  -- those behind the first one, from the place behind it and its ending on;
  pub lines_behind_lem : lines_behind n p (drop p.offset file) ≡ lines_at file (number_after n 1) (place_after p (line_length (drop p.offset file)))
  lines_behind_lem =
      let rest : List ℕ = drop p.offset file in
      lines_skip (number_after n 1) p (line_length rest) rest ∙ rw (drop-drop (line_length rest) p.offset file)

  -- before the end, the line there and those behind it.
  pub lines_next : p.offset < length file
      → lines_at file n p
      ≡ line n p (line_text (drop p.offset file)) ∷ lines_at file (number_after n 1) (place_after p (line_length (drop p.offset file)))
  lines_next h =
      rw (← lines_behind_lem)
      (rw (drop-cons file p.offset 0 h) (first_line_lem n p (get_or file p.offset 0) (drop (suc p.offset) file)))
