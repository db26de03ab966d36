-- The kind of one line, given without its line ending. No leading mark is skipped here. Assumes nothing.
use Rattle.std.specs.Prelude.{ℕ, ◌+◌, Bool, true, false, length, if◌then◌else◌}
use Prim.Native.String.{String}
use mathlib.Core.List.{List, [], ◌∷◌, tail}
use Rattle.lists.specs.Lists.{empty, any, up_to, from}
use Rattle.protocol.specs.declared.Place.{Place}
use Rattle.protocol.specs.declared.Side.{Side}
use Rattle.protocol.specs.declared.Agent.{Agent}
use Rattle.protocol.specs.declared.Pattern.{Pattern}
use Rattle.protocol.specs.declared.Kind.{Kind}
use Rattle.protocol.specs.Octets.{is}
use Rattle.protocol.specs.Text.{octets, same_ignoring_case, lead, trim}
use Rattle.protocol.specs.Lines.{place_at, place_after}
use Rattle.protocol.specs.Readable.{readable_agent, readable_pattern}

-- an agent's value at place p of the line; "0 and 0 if that is empty"
unfoldable pub agent_at : Place → List ℕ → Agent
agent_at p [] = Agent.Unreadable (place_at 0) 0
agent_at p (c ∷ v) = if readable_agent (c ∷ v) then Agent.Readable p (length (c ∷ v)) else Agent.Unreadable p (length (c ∷ v))

-- a rule's pattern at place p of the line: "its pattern is empty, readable or unreadable"
unfoldable pub pattern_at : Place → List ℕ → Pattern
pattern_at p [] = Pattern.Empty
pattern_at p (c ∷ v) = if readable_pattern (c ∷ v) then Pattern.Readable p (length (c ∷ v)) else Pattern.Unreadable p (length (c ∷ v))

-- "compared ignoring ASCII case, as any later field name is"
abbrev pub is_field : String → List ℕ → Bool
is_field name field = same_ignoring_case field (octets name)

-- a field, and its value at place p of the line; "other: any other field, an empty one included"
unfoldable pub field_kind : List ℕ → Place → List ℕ → Kind
field_kind field p value =
    if is_field "user-agent" field then Kind.Agent (agent_at p value)
    else if is_field "allow" field then Kind.Rule Side.Allow (pattern_at p value)
    else if is_field "disallow" field then Kind.Rule Side.Disallow (pattern_at p value)
    else Kind.Other

-- "the field is what precedes the first colon, the value what follows, each without spaces and tabs at its ends"; l begins at place p
unfoldable pub record_kind : Place → List ℕ → Kind
record_kind p l =
    let field = up_to (is ":") l in
    let value = tail (from (is ":") l) in
    field_kind (trim field) (place_after p (length field + 1 + lead value)) (trim value)

-- what is left of the line, from its place p on. "blank: nothing left; noise: no colon"
unfoldable pub rest_kind : Place → List ℕ → Kind
rest_kind p l = if empty l then Kind.Blank else if any (is ":") l then record_kind p l else Kind.Noise

-- "everything from the first "#" on is comment and isn't examined"
unfoldable pub uncommented : List ℕ → List ℕ
uncommented line = up_to (is "#") line

-- "Spaces and tabs at both ends are dropped. Then:"
unfoldable pub kind_of : List ℕ → Kind
kind_of line = let l = uncommented line in rest_kind (place_at (lead l)) (trim l)

-- "with the place and length in it of an agent's value or a rule's pattern (0 and 0 if that is empty, and for every other kind)"
abbrev pub place_of : Kind → Place
place_of Kind.Blank = place_at 0
place_of Kind.Noise = place_at 0
place_of Kind.Other = place_at 0
place_of (Kind.Agent (Agent.Readable p n)) = p
place_of (Kind.Agent (Agent.Unreadable p n)) = p
place_of (Kind.Rule side Pattern.Empty) = place_at 0
place_of (Kind.Rule side (Pattern.Readable p n)) = p
place_of (Kind.Rule side (Pattern.Unreadable p n)) = p

abbrev pub length_of : Kind → ℕ
length_of Kind.Blank = 0
length_of Kind.Noise = 0
length_of Kind.Other = 0
length_of (Kind.Agent (Agent.Readable p n)) = n
length_of (Kind.Agent (Agent.Unreadable p n)) = n
length_of (Kind.Rule side Pattern.Empty) = 0
length_of (Kind.Rule side (Pattern.Readable p n)) = n
length_of (Kind.Rule side (Pattern.Unreadable p n)) = n

-- "unreadable agent and rule lines"
abbrev pub unreadable_kind : Kind → Bool
unreadable_kind Kind.Blank = false
unreadable_kind Kind.Noise = false
unreadable_kind Kind.Other = false
unreadable_kind (Kind.Agent (Agent.Readable p n)) = false
unreadable_kind (Kind.Agent (Agent.Unreadable p n)) = true
unreadable_kind (Kind.Rule side Pattern.Empty) = false
unreadable_kind (Kind.Rule side (Pattern.Readable p n)) = false
unreadable_kind (Kind.Rule side (Pattern.Unreadable p n)) = true
