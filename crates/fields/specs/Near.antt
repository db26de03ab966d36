-- The names of the fields eight octets at a time, and heads that are told from a line's first octets. Assumes nothing.
use Rattle.std.specs.Prelude.{ℕ, ◌+◌, ◌-◌, Bool, false, ◌&&◌, List, [], ◌∷◌, ◌++◌, map, Option, Some, None, leb, length, take, drop, replicate, if◌then◌else◌}
use Rattle.std.specs.Int.Bits.{bit_or}
use Rattle.lists.specs.Lists.{same}
use Rattle.protocol.specs.Octets.{is, lower_case}
use Rattle.protocol.specs.Text.{octets, begins, lead}
use Rattle.protocol.specs.declared.Place.{Place}
use Rattle.fields.specs.declared.Field.{Field}
use Rattle.fields.specs.declared.Head.{Head}
use Rattle.fields.specs.Names.{name_of}

-- the first eight octets of a field's name
abbrev pub name_front : Field → List ℕ
name_front f = take 8 (octets (name_of f))

-- eight octets: those, each as g has it, and behind them the octet that is left
abbrev pub eight : (ℕ → ℕ) → ℕ → Field → List ℕ
eight g left f = map g (name_front f) ++ replicate (8 - length (name_front f)) left

abbrev pub name_word : Field → List ℕ
name_word = eight (λ x. x) 0

abbrev pub kept_word : Field → List ℕ
kept_word = eight (λ x. 255) 0

-- octets with the bit 32 set: with it, a letter is a lower-case one
abbrev pub folded : List ℕ → List ℕ
folded = map (λ x. bit_or x 32)

-- eight octets begin with the name, as far as these go
abbrev pub word_begins : Field → List ℕ → Bool
word_begins f l = same (take (length (name_front f)) l) (name_front f)

-- where the value begins, if a text begins with a colon and at most one space or tab stands behind it
abbrev pub near_value : ℕ → List ℕ → Option ℕ
near_value colon l = if begins ":" l && leb (lead (drop 1 l)) 1 then Some (colon + 1 + lead (drop 1 l)) else None

-- a text's first octet is that of the agent's name, ASCII case ignored
abbrev pub agent_first : List ℕ → Bool
agent_first [] = false
agent_first (x ∷ l) = is "u" (lower_case x)

-- where the value of an agent line begins
abbrev pub agent_start : Place → Field → Option Place
agent_start p Field.Agent = Some p
agent_start p (Field.Rule side) = None

abbrev pub agent_value : Option Head → Option Place
agent_value None = None
agent_value (Some h) = agent_start h.value h.field
