-- The field of a line, and where its value stands, read where the line stands in a file: l is the rest of the file from the line's start on.
-- Assumes nothing.
use Rattle.std.specs.Prelude.{ℕ, ◌+◌, Bool, true, List, [], ◌∷◌, Option, Some, None, option_map, length, drop}
use Rattle.lists.specs.Lists.{up_to}
use Rattle.protocol.specs.declared.Place.{Place}
use Rattle.protocol.specs.declared.Kind.{Kind}
use Rattle.protocol.specs.Octets.{is}
use Rattle.protocol.specs.Text.{lead, trim_end}
use Rattle.protocol.specs.Lines.{place_at, line_text}
use Rattle.protocol.specs.Kinds.{agent_at, pattern_at, kind_of}
use Rattle.protocol.specs.Classes.{stop}
use Rattle.fields.specs.declared.Field.{Field}
use Rattle.fields.specs.declared.Head.{Head}

-- the field of a kind, if the protocol knows it
abbrev pub field_of : Kind → Option Field
field_of Kind.Blank = None
field_of Kind.Noise = None
field_of Kind.Other = None
field_of (Kind.Agent a) = Some Field.Agent
field_of (Kind.Rule side p) = Some (Field.Rule side)

-- behind the first colon and the spaces and tabs behind it
unfoldable pub value_start : List ℕ → Place
value_start l = let c = length (up_to (is ":") l) + 1 in place_at (c + lead (drop c l))

-- a field, and where its value begins
abbrev pub head_at : Place → Field → Head
head_at p f = record { field = f; value = p }

-- the head of the line; none where the protocol doesn't know its field
unfoldable pub head_of : List ℕ → Option Head
head_of l = option_map (head_at (value_start l)) (field_of (kind_of (line_text l)))

-- nothing is left that is examined
abbrev pub ended : List ℕ → Bool
ended [] = true
ended (x ∷ l) = stop x

-- the value that begins at p
unfoldable pub value_at : Place → List ℕ → List ℕ
value_at p l = trim_end (up_to stop (drop p.offset l))

-- the kind of a line with that field, whose value v stands at p
abbrev pub kind_as : Field → Place → List ℕ → Kind
kind_as Field.Agent p v = Kind.Agent (agent_at p v)
kind_as (Field.Rule side) p v = Kind.Rule side (pattern_at p v)
