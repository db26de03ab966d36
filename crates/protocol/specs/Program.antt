-- "The program": the octets that it writes, for every input. Assumes nothing.
use Rattle.std.specs.Prelude.{ℕ, zero, suc, ◌+◌, ◌/◌, ◌%◌, ltb, if◌then◌else◌}
use Prim.Native.Char.{code}
use mathlib.Core.List.{List, [], ◌∷◌, ◌++◌, tail}
use Rattle.lists.specs.Lists.{up_to, from}
use Rattle.protocol.specs.declared.Side.{Side}
use Rattle.protocol.specs.Forms.{Decision}
use Rattle.protocol.specs.Octets.{is}
use Rattle.protocol.specs.Text.{octets}
use Rattle.protocol.specs.Refusals.{Row, input_too_long, decide_rows, refusal, unless_refused}
use Rattle.protocol.specs.Answers.{decide}

-- n in decimal, in front of l, in at most k + 1 digits
unfoldable pub decimal_before : ℕ → ℕ → List ℕ → List ℕ
decimal_before zero n l = (code "0" + n % 10) ∷ l
decimal_before (suc k) n l =
    if ltb n 10 then (code "0" + n) ∷ l else decimal_before k (n / 10) ((code "0" + n % 10) ∷ l)

-- a number below 10 to the power of 20, as every number of an answer is
unfoldable pub decimal : ℕ → List ℕ
decimal n = decimal_before 19 n []

-- "A refusal prints `refused 3` and LF, with its number"
unfoldable pub refused_text : ℕ → List ℕ
refused_text n = octets "refused " ++ decimal n ++ octets "\n"

unfoldable pub side_text : Side → List ℕ
side_text Side.Allow = octets "allow"
side_text Side.Disallow = octets "disallow"

-- "`disallow line 2 unread 0 compared 24` and LF"
unfoldable pub answer_text : Decision → List ℕ
answer_text d =
    side_text d.side
    ++ octets " line "
    ++ decimal d.line.number
    ++ octets " unread "
    ++ decimal d.unread
    ++ octets " compared "
    ++ decimal d.compared
    ++ octets "\n"

-- "first line the name, second the path (each ended by LF), the rest the file. A part that ends with the input needs no LF; a missing
-- part is empty": the part up to the first LF, and what is behind it
unfoldable pub first_part : List ℕ → List ℕ
first_part l = up_to (is "\n") l

unfoldable pub behind : List ℕ → List ℕ
behind l = tail (from (is "\n") l)

abbrev pub name_in : List ℕ → List ℕ
name_in input = first_part input

abbrev pub path_in : List ℕ → List ℕ
path_in input = first_part (behind input)

abbrev pub file_in : List ℕ → List ℕ
file_in input = behind (behind input)

-- "the program tests 7 before all others"
abbrev pub program_rows : List ℕ → List Row
program_rows input = input_too_long input ∷ decide_rows 0 (file_in input) (name_in input) (path_in input)

unfoldable pub output : List ℕ → List ℕ
output input =
    unless_refused (refusal (program_rows input)) refused_text (answer_text (decide 0 (file_in input) (name_in input) (path_in input)))
