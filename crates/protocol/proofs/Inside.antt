-- Every line and every entry of a file lies inside the file, and holds the file's octets. Assumes nothing.
use Prim.Native.Nat.{ℕ, zero, suc, ◌+◌, ◌-◌, ◌≤◌}
use mathlib.Core.Path.{◌≡◌}
use mathlib.Core.Bool.{Bool, false}
use mathlib.Core.List.{List, [], ◌∷◌}
use mathlib.Core.Option.{Option, none, some}
use native.Mathlib.Omega.{arith}
use lib.Dec.{eqb}
use lib.ListN.{length}
use borrow.Author.Tests.{eqb-true}
use Rattle.lists.specs.Each.{Each}
use Rattle.lists.specs.Occurs.{Occurs}
use Rattle.lists.proofs.Bools.{split}
use Rattle.lists.proofs.Parts.{each_append}
use Rattle.lists.proofs.Places.{occurs_fits, occurs_in, occurs_front_in, occurs_read_in, occurs_tail, occurs_drop, occurs_up_to}
use Rattle.protocol.specs.declared.LineNumber.{LineNumber}
use Rattle.protocol.specs.declared.Place.{Place}
use Rattle.protocol.specs.Octets.{line_end}
use Rattle.protocol.specs.Text.{octets_at}
use Rattle.protocol.specs.Lines.{Line, line_number, place_at, number_after, place_after, line_text, line_length, lines_from, skipped, lines_of}
use Rattle.protocol.specs.Kinds.{kind_of, place_of, length_of}
use Rattle.protocol.specs.Entries.{Role, Entry, role_of, group_at, ruled_after, place_in_file, entry_of, entries_from, entries}
use Rattle.protocol.proofs.Values.{value_inside}

-- the line stands in the file at its place
abbrev pub InFile : List ℕ → Line → Type 0
InFile file l = Occurs file l.place.offset l.text

-- the entry's value lies inside the file
abbrev pub ValueInFile : List ℕ → Entry → Type 0
ValueInFile file e = e.place.offset + e.length ≤ length file

-- the octets l stand in the file at p
pub lines_in : (file : List ℕ) (n : LineNumber) (p : Place) (k : ℕ) (l : List ℕ) → Occurs file p.offset l → Each (InFile file) (lines_from n p k l)
unfolding lines_from
lines_in file n p k [] o = tt
lines_in file n p zero (c ∷ l) o = (
  occurs_front_in file (c ∷ l) (line_text (c ∷ l)) p.offset o (occurs_up_to line_end (c ∷ l)),
  lines_in file (number_after n 1) (place_after p 1) (line_length (c ∷ l) - 1) l (occurs_in file (c ∷ l) l p.offset 1 o (occurs_tail c l)),
)
lines_in file n p (suc k) (c ∷ l) o = lines_in file n (place_after p 1) k l (occurs_in file (c ∷ l) l p.offset 1 o (occurs_tail c l))

-- Every line lies inside the file.
pub lines_inside : (file : List ℕ) → Each (InFile file) (lines_of file)
unfolding lines_of
lines_inside file = lines_in file (line_number 1) (place_at 0) (skipped file) file (occurs_drop file 0 (omega arith))

module _ (file : List ℕ) (l : Line) (h : InFile file l) where
  -- The octets that an entry points at in the file are those of its line's value.
  pub value_in_file : octets_at file (place_in_file l.place (kind_of l.text)) (length_of (kind_of l.text))
      ≡ octets_at l.text (place_of (kind_of l.text)) (length_of (kind_of l.text))
  unfolding octets_at place_in_file
  value_in_file =
      split (eqb (length_of (kind_of l.text)) 0) (λ e. rw (eqb-true (length_of (kind_of l.text)) 0 e))
      (λ e.
      rw e
      (occurs_read_in file l.text l.place.offset (place_of (kind_of l.text)).offset (length_of (kind_of l.text)) h
      (value_inside l.text)))

  place_inside : (place_in_file l.place (kind_of l.text)).offset + length_of (kind_of l.text) ≤ length file
  unfolding place_in_file
  place_inside =
      split (eqb (length_of (kind_of l.text)) 0) (λ e. rw (eqb-true (length_of (kind_of l.text)) 0 e) (omega arith))
      (λ e. rw e (omega (arith, value_inside l.text, occurs_fits file l.text l.place.offset h)))

  entry_inside : (g : ℕ) (r : Option Role) → Each (ValueInFile file) (entry_of g l (kind_of l.text) r)
  unfolding entry_of
  entry_inside g none = tt
  entry_inside g (some r) = (place_inside, tt)

entries_in : (file : List ℕ) (g : ℕ) (ruled : Bool) (ls : List Line) → Each (InFile file) ls → Each (ValueInFile file) (entries_from g ruled ls)
unfolding entries_from
entries_in file g ruled [] h = tt
entries_in file g ruled (l ∷ ls) h =
    let kind = kind_of l.text in
    let role = role_of kind in
    let group = group_at g ruled role in
    each_append (ValueInFile file) (entry_of group l kind role) (entries_from group (ruled_after ruled role) ls)
    (entry_inside file l h.0 group role)
    (entries_in file group (ruled_after ruled role) ls h.1)

-- Every entry's place and length lie inside the file.
pub entries_inside : (file : List ℕ) → Each (ValueInFile file) (entries file)
unfolding entries
entries_inside file = entries_in file 0 false (lines_of file) (lines_inside file)
