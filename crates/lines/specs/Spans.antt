-- The line at a place of a file, and where the next one begins. Assumes nothing.
use Rattle.std.specs.Prelude.{ℕ, List, drop}
use Rattle.protocol.specs.declared.Place.{Place}
use Rattle.protocol.specs.Lines.{place_after, line_text, line_length}

-- its text
abbrev pub text_at : List ℕ → Place → List ℕ
text_at file p = line_text (drop p.offset file)

-- the place behind its ending: the end of the file, if no line follows (protocol's lines-next)
abbrev pub next_at : List ℕ → Place → Place
next_at file p = place_after p (line_length (drop p.offset file))
