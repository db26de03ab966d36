-- What makes an agent's value and a rule's pattern readable, and whom a value names. Assumes nothing.
use Rattle.std.specs.Prelude.{ℕ, Bool, true, false, ◌&&◌, ◌||◌, not, List, [], ◌∷◌, if◌then◌else◌}
use Rattle.lists.specs.Lists.{empty, up_to, same}
use Rattle.protocol.specs.Octets.{within, token}
use Rattle.protocol.specs.Text.{octets, begins, same_ignoring_case}

-- the value that stands for every crawler that no group names
abbrev pub everyone : List ℕ
everyone = octets "*"

-- M-105: "its longest beginning of A-Z a-z - _ ; the rest is ignored"
unfoldable pub name_front : List ℕ → List ℕ
name_front v = up_to (λ x. not (token x)) v

-- the name of an agent's value: "*" where the value is "exactly "*"", and otherwise that beginning. "DrydockBot/2.1" has the name DrydockBot,
-- "Bot 2.1" has Bot and "Googlebot*" has Googlebot; "*/2", "**", "*bot", "2bot" and the empty value have none
unfoldable pub agent_name : List ℕ → List ℕ
agent_name v = if same v everyone then everyone else name_front v

-- M-105: "It is unread exactly if that beginning is empty and the value isn't exactly "*""
unfoldable pub readable_agent : List ℕ → Bool
readable_agent v = not (empty (agent_name v))

-- the value names who, a crawler or "*": "Names are still compared whole"; they "are equal, ignoring ASCII case, or they are different"; an
-- unreadable value "names nobody"
unfoldable pub names : List ℕ → List ℕ → Bool
names v who = readable_agent v && same_ignoring_case (agent_name v) who

-- octets from low to high
pub record Range : Type 0 where
  pub low : ℕ
  pub high : ℕ

infix 20 ◌to◌
abbrev pub ◌to◌ : ℕ → ℕ → Range
a to b = record { low = a; high = b }

abbrev pub holds : Range → ℕ → Bool
holds r x = within r.low r.high x

-- one form of a character: the range of its first octet, and those of the octets after it
pub record Form : Type 0 where
  pub first : Range
  pub more : List Range

infix 15 ◌then◌
abbrev pub ◌then◌ : Range → List Range → Form
a then l = record { first = a; more = l }

-- RFC 9309: UTF8-tail = %x80-BF
abbrev pub utf8_tail : Range
utf8_tail = 0x80 to 0xBF

-- RFC 9309: UTF8-char-noctl = UTF8-1-noctl / UTF8-2 / UTF8-3 / UTF8-4, a row for each of their alternatives, in its order
unfoldable pub character_forms : List Form
character_forms =
    (0x21 to 0x21 then [])
    ∷ (0x22 to 0x22 then [])
    ∷ (0x24 to 0x7F then [])
    ∷ (0xC2 to 0xDF then utf8_tail ∷ [])
    ∷ (0xE0 to 0xE0 then (0xA0 to 0xBF) ∷ utf8_tail ∷ [])
    ∷ (0xE1 to 0xEC then utf8_tail ∷ utf8_tail ∷ [])
    ∷ (0xED to 0xED then (0x80 to 0x9F) ∷ utf8_tail ∷ [])
    ∷ (0xEE to 0xEF then utf8_tail ∷ utf8_tail ∷ [])
    ∷ (0xF0 to 0xF0 then (0x90 to 0xBF) ∷ utf8_tail ∷ utf8_tail ∷ [])
    ∷ (0xF1 to 0xF3 then utf8_tail ∷ utf8_tail ∷ utf8_tail ∷ [])
    ∷ (0xF4 to 0xF4 then (0x80 to 0x8F) ∷ utf8_tail ∷ utf8_tail ∷ [])
    ∷ []

-- no octet is in it
abbrev pub never : Range
never = 1 to 0

-- the ranges of the octets that have to follow a character's first octet x; where no form begins with x, nothing can follow
unfoldable pub due_after : ℕ → List Form → List Range
due_after x [] = never ∷ []
due_after x (f ∷ fs) = if holds f.first x then f.more else due_after x fs

-- the octets that are due, and then whole characters only
unfoldable pub well_formed : List Range → List ℕ → Bool
well_formed [] [] = true
well_formed (r ∷ due) [] = false
well_formed [] (x ∷ l) = well_formed (due_after x character_forms) l
well_formed (r ∷ due) (x ∷ l) = holds r x && well_formed due l

-- M-102: "a readable pattern begins with "/" or "*""
unfoldable pub pattern_start : List ℕ → Bool
pattern_start p = begins "/" p || begins "*" p

-- "and is well-formed by the RFC's UTF8-char-noctl rule"
unfoldable pub readable_pattern : List ℕ → Bool
readable_pattern p = pattern_start p && well_formed [] p
