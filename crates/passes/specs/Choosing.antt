-- Whose groups apply, and which lines name them, as a pass over the agent lines tells it. Assumes nothing.
use Rattle.std.specs.Prelude.{ℕ, ◌≤◌, ◌≡◌, Bool, true, false, not, List, length}
use Rattle.lists.specs.Lists.{any, from}
use Rattle.protocol.specs.declared.Place.{Place}
use Rattle.protocol.specs.declared.Position.{Position}
use Rattle.protocol.specs.declared.Audience.{Audience}
use Rattle.protocol.specs.Lines.{number_after, skipped, lines_of}
use Rattle.lines.specs.Skips.{endings, between}
use Rattle.hearing.specs.Heard.{whom}
use Rattle.passes.specs.declared.audience.Chosen.{Chosen}
use Rattle.passes.specs.Entries.{line_names}
use Rattle.passes.specs.Steps.{lines_on, lines_past, first_line}

-- the line that begins at p, with its number: one more than the line endings in front of it
abbrev pub line_at : List ℕ → Place → Position
line_at file p = record { number = number_after (first_line file).number (endings (between file (first_line file).place p)); place = p }

-- what is chosen after one line more, at p, which names "*" or doesn't; the lines in front of it have chosen the first audience
abbrev pub after_line : Audience → Audience → Place → Chosen → Chosen
after_line Audience.Crawler Audience.Everyone p c = record { audience = Audience.Everyone; first = p; only = true }
after_line Audience.Everyone Audience.Everyone p c = record { audience = Audience.Everyone; first = c.first; only = false }
after_line Audience.Nobody Audience.Everyone p c = record { audience = Audience.Everyone; first = p; only = true }
after_line before Audience.Crawler p c = c
after_line before Audience.Nobody p c = c

-- it is told that no line behind the first one names them too: a pass ends at the first line that names the crawler, and knows nothing of others
abbrev pub known_alone : Audience → Bool → Bool
known_alone Audience.Crawler others = false
known_alone Audience.Everyone others = not others
known_alone Audience.Nobody others = not others

-- a is chosen, and the first place is that of the first line that names them, or the file's end where none does. There is one such c
-- (proofs/Choices: chosen-one).
pub record ChosenOf (file crawler : List ℕ) (a : Audience) (c : Chosen) : Type 0 where
  pub audience : c.audience ≡ a
  pub further : skipped file ≤ c.first.offset
  pub inside : c.first.offset ≤ length file
  pub first : from (line_names file (whom a crawler)) (lines_of file) ≡ lines_on file (line_at file c.first)
  pub only : c.only ≡ known_alone a (any (line_names file (whom a crawler)) (lines_past file (line_at file c.first)))
