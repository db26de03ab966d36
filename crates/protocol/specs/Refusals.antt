-- The table of refusals, and which of them each question tests, in which order. Assumes nothing.
use Rattle.std.specs.Prelude.{ℕ, zero, suc, Bool, false, ◌||◌, not, List, [], ◌∷◌, ◌++◌, leb, ltb, eqb, length, if◌then◌else◌}
use Rattle.lists.specs.Lists.{empty, all, any}
use Rattle.protocol.specs.declared.Dialect.{Dialect}
use Rattle.protocol.specs.Octets.{is, token, line_end}
use Rattle.protocol.specs.Text.{begins}
use Rattle.protocol.specs.Readable.{readable_pattern}
use Rattle.protocol.specs.Normal.{normal_path}

-- a row of the table: a number, and whether it is "given"
pub record Row : Type 0 where
  pub number : ℕ
  pub given : Bool

infix 20 ◌when◌
abbrev pub ◌when◌ : ℕ → Bool → Row
n when b = record { number = n; given = b }

abbrev pub over : ℕ → List ℕ → Bool
over n l = ltb n (length l)

-- "file, pattern or line longer than 512,000 octets"
abbrev pub too_long : List ℕ → Row
too_long l = 1 when over 512_000 l

-- "name empty, over 64 octets, or with an octet other than A-Z a-z - _"
abbrev pub bad_name : List ℕ → Row
bad_name name = 2 when empty name || over 64 name || not (all token name)

-- "path empty or over 2,048 octets"
abbrev pub bad_length : List ℕ → Row
bad_length path = 3 when empty path || over 2_048 path

-- "path doesn't begin with "/""
abbrev pub bad_start : List ℕ → Row
bad_start path = 4 when not (begins "/" path)

-- "an octet of 0x20 or less, or "#""
unfoldable pub outside_path : ℕ → Bool
outside_path x = leb x 0x20 || is "#" x

-- "path holds" such an octet
abbrev pub bad_octet : List ℕ → Row
bad_octet path = 5 when any outside_path path

-- "normalised path longer than the lent buffer", which has room for so many octets
abbrev pub no_room : ℕ → List ℕ → Row
no_room room path = 6 when over room (normal_path path)

-- "program only: input over 65,536 octets"
abbrev pub input_too_long : List ℕ → Row
input_too_long input = 7 when over 65_536 input

-- "pattern empty or unreadable"
abbrev pub bad_pattern : List ℕ → Row
bad_pattern pattern = 8 when not (readable_pattern pattern)

-- "line holds CR or LF"
abbrev pub several_lines : List ℕ → Row
several_lines line = 9 when any line_end line

-- M-113: "a choice (1; 0 is the RFC's)": a number of a dialect
abbrev pub dialect_number : Dialect → ℕ
dialect_number Dialect.Rfc9309 = 0
dialect_number Dialect.Draft1996 = 1

-- the dialect of a number; of one that is none's it is asked nowhere
unfoldable pub dialect_of : ℕ → Dialect
dialect_of n = if eqb n 1 then Dialect.Draft1996 else Dialect.Rfc9309

-- "20 for an unknown dialect"
abbrev pub unknown_dialect : ℕ → Row
unknown_dialect n = 20 when not (eqb n 0 || eqb n 1)

-- M-101: "the ends ever decrease"; the end in front is e, and the first path's is 0
unfoldable pub decrease : ℕ → List ℕ → Bool
decrease e [] = false
decrease e (f ∷ ends) = ltb f e || decrease f ends

-- the last end; of no ends it is e
unfoldable pub last_end : ℕ → List ℕ → ℕ
last_end e [] = e
last_end e (f ∷ ends) = last_end f ends

-- "12 if the ends ever decrease or the last isn't the joined length (an empty list needs length 0)"
abbrev pub bad_ends : List ℕ → List ℕ → Row
bad_ends paths ends = 12 when decrease 0 ends || not (eqb (last_end 0 ends) (length paths))

-- "13 if an answer slice is shorter than the list"
abbrev pub short_answers : List ℕ → List ℕ → List ℕ → List ℕ → Row
short_answers ends refusals sides lines = 13 when over (length refusals) ends || over (length sides) ends || over (length lines) ends

-- "Each entry tests the conditions that concern it", one row after the other: the first that is given, or "0 answered"
unfoldable pub refusal : List Row → ℕ
refusal [] = 0
refusal (r ∷ rows) = if r.given then r.number else refusal rows

-- the rows of each question, "the smallest number first"
abbrev pub path_rows : List ℕ → List Row
path_rows path = bad_length path ∷ bad_start path ∷ bad_octet path ∷ []

abbrev pub question_rows : List ℕ → List ℕ → List ℕ → List Row
question_rows file name path = too_long file ∷ bad_name name ∷ path_rows path

-- M-113: "20 for an unknown dialect, first of all"
abbrev pub decide_rows : ℕ → List ℕ → List ℕ → List ℕ → List Row
decide_rows dialect file name path = unknown_dialect dialect ∷ question_rows file name path

abbrev pub match_rows : List ℕ → List ℕ → List Row
match_rows pattern path = too_long pattern ∷ path_rows path ++ (bad_pattern pattern ∷ [])

abbrev pub normalise_rows : ℕ → List ℕ → List Row
normalise_rows room path = path_rows path ++ (no_room room path ∷ [])

abbrev pub line_rows : List ℕ → List Row
line_rows line = too_long line ∷ several_lines line ∷ []

unfoldable pub decide_refusal : ℕ → List ℕ → List ℕ → List ℕ → ℕ
decide_refusal dialect file name path = refusal (decide_rows dialect file name path)

unfoldable pub match_refusal : List ℕ → List ℕ → ℕ
match_refusal pattern path = refusal (match_rows pattern path)

unfoldable pub normalise_refusal : ℕ → List ℕ → ℕ
normalise_refusal room path = refusal (normalise_rows room path)

unfoldable pub line_refusal : List ℕ → ℕ
line_refusal line = refusal (line_rows line)

-- an answer, or the refused form that its question has, with the number
unfoldable pub unless_refused : {A : Type 0} → ℕ → (ℕ → A) → A → A
unless_refused zero refused answer = answer
unless_refused (suc n) refused answer = refused (suc n)
