-- M-103: "a table of all 256 octets": a class number for each octet, and what it tells. Assumes nothing.
use Rattle.std.specs.Prelude.{ℕ, ◌≡◌, Bool, true, false, not, ◌&&◌, ◌||◌, List, [], ◌∷◌, ◌++◌, map, leb, eqb, length, get_or, if◌then◌else◌}
use Prim.Native.Char.{code}
use Rattle.lists.specs.Lists.{up_to, numbers_from}
use Rattle.protocol.specs.declared.Sort.{Sort}
use Rattle.protocol.specs.Octets.{within, is, token, unreserved, hex, hex_value, blank, line_end, lower_case, upper_case}
use Rattle.protocol.specs.Text.{octets}
use Rattle.protocol.specs.Readable.{Range, ◌to◌, utf8_tail, never, character_forms, due_after, pattern_start}
use Rattle.protocol.specs.Normal.{is_encoded}
use Rattle.protocol.specs.Refusals.{outside_path}

-- "#", CR or LF: the end of what is examined of a line, and so of a value
unfoldable pub stop : ℕ → Bool
stop x = is "#" x || line_end x

-- a colon, or the end of what is examined
unfoldable pub delimiter : ℕ → Bool
delimiter x = is ":" x || stop x

-- the octets but for the upper-case letters, in an order in which the octets of each sort stand together
unfoldable pub order : List ℕ
order =
    -- 0 to 39: the hex digits by what they stand for, the other letters, the rest of the unreserved ones
    numbers_from (code "0") 10
    ++ numbers_from (code "a") 26
    ++ octets "-_.~"
    -- 40 to 62: the other printable ones that normalising leaves as they are; 63 to 66: those that it changes; "/" and "*" side by side
    ++ octets "!\"&'()+,;<=>?@[\\]^`{|}/"
    ++ octets "*$%"
    ++ (0x7F ∷ [])
    -- 67 to 117: the first octets of RFC 9309's longer characters, those of a form together
    ++ numbers_from 0xC2 30
    ++ numbers_from 0xE0 13
    ++ (0xEE ∷ 0xEF ∷ 0xED ∷ [])
    ++ numbers_from 0xF0 5
    -- 118 to 194: those from 0x80 on that no character begins with
    ++ numbers_from 0xF5 11
    ++ numbers_from 0x80 66
    -- 195 to 225: the control octets but CR and LF, and the space; tab and space last
    ++ numbers_from 0 9
    ++ numbers_from 11 2
    ++ numbers_from 14 18
    ++ octets "\t "
    -- 226 to 229: what ends a field's name, the colon first; what ends a value; a line ending
    ++ octets ":#\n\r"

-- the class number of an octet: the place of its lower-case form in that order
unfoldable pub class_of : ℕ → ℕ
class_of x = length (up_to (eqb (lower_case x)) order)

unfoldable pub class_table : List ℕ
class_table = map class_of (numbers_from 0 256)

-- what document 01 says of an octet
pub record Sorts : Type 0 where
  pub token : Bool
  pub unreserved : Bool
  pub hex : Bool
  -- what a hex digit stands for
  pub hex_value : ℕ
  pub blank : Bool
  pub line_end : Bool
  -- the end of a value, and of a field's name
  pub stop : Bool
  pub delimiter : Bool
  pub outside_path : Bool
  -- it doesn't stay as it is: in a path, in a pattern
  pub encoded : Bool
  pub encoded_in_pattern : Bool
  -- a readable pattern may begin with it
  pub pattern_start : Bool
  -- the octets that follow it, where a character begins with it
  pub due : List Range
  pub lower_case : ℕ
  pub upper_case : ℕ

abbrev pub sorts_of : ℕ → Sorts
sorts_of x =
    record {
      token = token x;
      unreserved = unreserved x;
      hex = hex x;
      hex_value = if hex x then hex_value x else 0;
      blank = blank x;
      line_end = line_end x;
      stop = stop x;
      delimiter = delimiter x;
      outside_path = outside_path x;
      encoded = is_encoded false x;
      encoded_in_pattern = is_encoded true x;
      pattern_start = pattern_start (x ∷ []);
      due = due_after x character_forms;
      lower_case = lower_case x;
      upper_case = upper_case x;
    }

-- what has to follow the first octet of a character, for the class numbers up to a bound
pub record Bound : Type 0 where
  pub class : ℕ
  pub due : List Range

infix 15 ◌leaves◌
abbrev pub ◌leaves◌ : ℕ → List Range → Bound
c leaves l = record { class = c; due = l }

unfoldable pub class_forms : List Bound
class_forms =
    (66 leaves [])
    ∷ (96 leaves utf8_tail ∷ [])
    ∷ (97 leaves (0xA0 to 0xBF) ∷ utf8_tail ∷ [])
    ∷ (111 leaves utf8_tail ∷ utf8_tail ∷ [])
    ∷ (112 leaves (0x80 to 0x9F) ∷ utf8_tail ∷ [])
    ∷ (113 leaves (0x90 to 0xBF) ∷ utf8_tail ∷ utf8_tail ∷ [])
    ∷ (116 leaves utf8_tail ∷ utf8_tail ∷ utf8_tail ∷ [])
    ∷ (117 leaves (0x80 to 0x8F) ∷ utf8_tail ∷ utf8_tail ∷ [])
    ∷ (225 leaves never ∷ [])
    ∷ (226 leaves [])
    ∷ (255 leaves never ∷ [])
    ∷ []

-- by the first bound that c doesn't pass
unfoldable pub due_up_to : ℕ → List Bound → List Range
due_up_to c [] = never ∷ []
due_up_to c (b ∷ bs) = if leb c b.class then b.due else due_up_to c bs

-- one of the sorts that the code asks for by name
abbrev pub of_sort : Sort → Sorts → Bool
of_sort Sort.Token t = t.token
of_sort Sort.Unreserved t = t.unreserved
of_sort Sort.Hex t = t.hex
of_sort Sort.Blank t = t.blank
of_sort Sort.LineEnd t = t.line_end
of_sort Sort.Stop t = t.stop
of_sort Sort.Delimiter t = t.delimiter

-- the octet is of that sort
abbrev pub is_of : Sort → ℕ → Bool
is_of s x = of_sort s (sorts_of x)

-- the class numbers of such a sort: the first of them, and the last; no octet has one over 229
abbrev pub first_class : Sort → ℕ
first_class Sort.Token = 10
first_class Sort.Unreserved = 0
first_class Sort.Hex = 0
first_class Sort.Blank = 224
first_class Sort.LineEnd = 228
first_class Sort.Stop = 227
first_class Sort.Delimiter = 226

abbrev pub last_class : Sort → ℕ
last_class Sort.Token = 37
last_class Sort.Unreserved = 39
last_class Sort.Hex = 15
last_class Sort.Blank = 225
last_class Sort.LineEnd = 255
last_class Sort.Stop = 255
last_class Sort.Delimiter = 255

-- a class number is one of that sort's
abbrev pub class_in : Sort → ℕ → Bool
class_in s c = within (first_class s) (last_class s) c

-- what a class number tells
abbrev pub told : ℕ → Sorts
told c =
    record {
      token = class_in Sort.Token c;
      unreserved = class_in Sort.Unreserved c;
      hex = class_in Sort.Hex c;
      hex_value = if class_in Sort.Hex c then c else 0;
      blank = class_in Sort.Blank c;
      line_end = class_in Sort.LineEnd c;
      stop = class_in Sort.Stop c;
      delimiter = class_in Sort.Delimiter c;
      outside_path = leb 195 c && not (eqb c 226);
      encoded = within 63 194 c;
      encoded_in_pattern = within 64 194 c;
      pattern_start = within 62 63 c;
      due = due_up_to c class_forms;
      lower_case = get_or order c 0;
      upper_case = upper_case (get_or order c 0);
    }

-- "each entry tells exactly the sorts 01 gives that octet"
abbrev pub TellsSorts : List ℕ → Type 0
TellsSorts table = map told table ≡ map sorts_of (numbers_from 0 256)
