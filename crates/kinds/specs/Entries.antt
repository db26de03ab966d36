-- The kind of a line for a pass over a file, to which blank, noise and other lines are all one; and the value of a text. Assumes nothing.
use Rattle.std.specs.Prelude.{ℕ, List, Option, Some, None, length}
use Rattle.lists.specs.Lists.{up_to}
use Rattle.protocol.specs.declared.Kind.{Kind}
use Rattle.protocol.specs.declared.Place.{Place}
use Rattle.protocol.specs.Text.{trim_end}
use Rattle.protocol.specs.Lines.{place_at, place_after, line_text}
use Rattle.protocol.specs.Kinds.{kind_of}
use Rattle.protocol.specs.Classes.{stop}
use Rattle.fields.specs.declared.Head.{Head}
use Rattle.fields.specs.Fields.{head_of, value_at}
use Rattle.kinds.specs.declared.entry.Entry.{Entry}

-- "Blank, noise and other lines change nothing": other stands for all three
abbrev pub entry_kind : Kind → Kind
entry_kind Kind.Blank = Kind.Other
entry_kind Kind.Noise = Kind.Other
entry_kind Kind.Other = Kind.Other
entry_kind (Kind.Agent a) = Kind.Agent a
entry_kind (Kind.Rule side p) = Kind.Rule side p

-- where what is examined of a line with that head ends: with its value; 0 without a head
abbrev pub examined : Option Head → List ℕ → Place
examined None l = place_at 0
examined (Some h) l = place_after h.value (length (value_at h.value l))

-- both, of the line that a text begins with
abbrev pub entry_told : List ℕ → Entry
entry_told l = record { kind = entry_kind (kind_of (line_text l)); end = examined (head_of l) l }

-- the value that a text begins with
abbrev pub value_front : List ℕ → List ℕ
value_front l = trim_end (up_to stop l)
