-- The names of the fields that the protocol knows, and the one that a text begins with. Assumes nothing.
use Rattle.std.specs.Prelude.{ℕ, Bool, List, Option, Some, None, length, take, if◌then◌else◌}
use Prim.Native.String.{String}
use Rattle.protocol.specs.declared.Side.{Side}
use Rattle.protocol.specs.Text.{octets}
use Rattle.protocol.specs.Kinds.{is_field}
use Rattle.fields.specs.declared.Field.{Field}

abbrev pub name_of : Field → String
name_of Field.Agent = "user-agent"
name_of (Field.Rule Side.Allow) = "allow"
name_of (Field.Rule Side.Disallow) = "disallow"

abbrev pub name_length : Field → ℕ
name_length f = length (octets (name_of f))

-- the row of its name in the table
abbrev pub row_of : Field → ℕ
row_of Field.Agent = 0
row_of (Field.Rule Side.Allow) = 1
row_of (Field.Rule Side.Disallow) = 2

-- a text begins with the field's name, ASCII case ignored
abbrev pub begins_name : Field → List ℕ → Bool
begins_name f l = is_field (name_of f) (take (name_length f) l)

-- a text begins with one of them at most
unfoldable pub field_at : List ℕ → Option Field
field_at l =
    if begins_name (Field.Rule Side.Disallow) l then Some (Field.Rule Side.Disallow)
    else if begins_name (Field.Rule Side.Allow) l then Some (Field.Rule Side.Allow)
    else if begins_name Field.Agent l then Some Field.Agent
    else None
