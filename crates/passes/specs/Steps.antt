-- What a pass over the lines of a file needs and promises from line to line. Assumes nothing.
use Rattle.std.specs.Prelude.{ℕ, ◌+◌, ◌*◌, ◌≤◌, ◌<◌, ◌≡◌, Bool, List, ltb, length, drop, if◌then◌else◌}
use Rattle.lists.specs.Lists.{any}
use Rattle.protocol.specs.declared.Place.{Place}
use Rattle.protocol.specs.declared.Position.{Position}
use Rattle.protocol.specs.Lines.{Line, line_number, place_at, number_after, place_after, skipped, lines_from}
use Rattle.protocol.specs.Kinds.{kind_of}
use Rattle.protocol.specs.Entries.{entries_from}
use Rattle.lines.specs.Spans.{text_at, next_at}
use Rattle.lines.specs.Skips.{endings, between, next_agent}
use Rattle.kinds.specs.declared.entry.Entry.{Entry}
use Rattle.kinds.specs.Entries.{entry_told}
use Rattle.considering.specs.declared.Considered.{Considered}
use Rattle.passes.specs.Entries.{value_end, line_names}

-- there is room for a rule of a line at p: path and file are no longer than they may be, and the pairs compared in front of p are bounded by p.
-- An octet of a pattern adds at most 3 to its weight, and so 3 * 6,142 pairs.
pub record Room (file path scratch : List ℕ) (p : Place) (c : Considered) : Type 0 where
  pub size : length file ≤ 512_000
  pub inside : p.offset ≤ length file
  pub short : length path ≤ 6_142
  pub lent : length path ≤ length scratch
  pub compared : c.compared ≤ 18_426 * p.offset

-- the line at p, for a pass
abbrev pub line_entry : List ℕ → Place → Entry
line_entry file p = entry_told (drop p.offset file)

-- the first line of a file
abbrev pub first_line : List ℕ → Position
first_line file = record { number = line_number 1; place = place_at (skipped file) }

-- the lines from a position on
abbrev pub lines_on : List ℕ → Position → List Line
lines_on file p = lines_from p.number p.place 0 (drop p.place.offset file)

-- the lines behind the one at p
abbrev pub lines_past : List ℕ → Position → List Line
lines_past file p = let q = next_at file p.place in lines_from (number_after p.number 1) q 0 (drop q.offset file)

-- r is in the last line that is passed: the line at p, or one behind it; no agent or rule line is among those behind it
pub record PassedLine (file : List ℕ) (p r : Position) : Type 0 where
  pub inside : r.place.offset ≤ length file
  pub further : p.place.offset < (next_at file r.place).offset
  pub value : (value_end p.place (kind_of (text_at file p.place))).offset ≤ (next_at file r.place).offset
  pub counted : (number_after r.number 1).number ≤ (next_at file r.place).offset + 1
  pub entries : (above : ℕ) (ruled : Bool) → entries_from above ruled (lines_past file r) ≡ entries_from above ruled (lines_past file p)
  pub named : (who : List ℕ) → any (line_names file who) (lines_past file r) ≡ any (line_names file who) (lines_past file p)

-- the place from which on a block is looked at again, past an octet of a line at r: 64 octets on, where it is no further already
abbrev pub next_look : Place → Place → Place
next_look soonest r = if ltb r.offset soonest.offset then soonest else place_after r 64

-- r is the line at q, further on than the one at p: with its number, unless q is the file's end
pub record Jumped (file : List ℕ) (p : Position) (q : Place) (r : Position) : Type 0 where
  pub place : r.place ≡ q
  pub counted : r.number.number ≤ q.offset + 1
  pub number : q.offset < length file → r.number ≡ number_after p.number (endings (between file p.place q))

-- where the first line begins that is read: the whole file's, or the first that names those whose groups apply
abbrev pub first_read : List ℕ → Bool → Place → Place
first_read file whole first = if whole then (first_line file).place else first

-- where the next line begins that is read, behind one at p of a group that doesn't apply
abbrev pub next_read : List ℕ → Place → Bool → Place
next_read file p only = if only then place_at (length file) else next_agent file p
