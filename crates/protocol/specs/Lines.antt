-- "From octets to lines". Assumes nothing.
use Rattle.std.specs.Prelude.{ℕ, zero, suc, ◌+◌, ◌-◌, Bool, false, ◌&&◌, ◌||◌, List, [], ◌∷◌, eqb, length, if◌then◌else◌}
use Rattle.protocol.specs.declared.LineNumber.{LineNumber}
use Rattle.protocol.specs.declared.Place.{Place}
use Rattle.lists.specs.Lists.{empty, up_to, from}
use Rattle.protocol.specs.Octets.{is, line_end}
use Rattle.protocol.specs.Text.{begins, ends}

-- "Line numbers count from 1 and octet places from 0; no routine may take one for the other"
abbrev pub line_number : ℕ → LineNumber
line_number n = record { number = n }

abbrev pub place_at : ℕ → Place
place_at p = record { offset = p }

-- so many lines further on
abbrev pub number_after : LineNumber → ℕ → LineNumber
number_after n k = line_number (n.number + k)

-- so many octets further on
abbrev pub place_after : Place → ℕ → Place
place_after p k = place_at (p.offset + k)

-- a line of a file: its number, the place of its first octet, and its octets without the line ending
pub record Line : Type 0 where
  pub number : LineNumber
  pub place : Place
  pub text : List ℕ

abbrev pub line : LineNumber → Place → List ℕ → Line
line n p t = record { number = n; place = p; text = t }

-- "A line ends at CR LF (one ending), CR or LF, or at the end of the file." The octets of the line ending that a text begins with:
unfoldable pub ending_length : List ℕ → ℕ
ending_length [] = 0
ending_length (c ∷ l) = if is "\r" c && begins "\n" l then 2 else if line_end c then 1 else 0

-- the first line of a text, and its octets with those of its ending
abbrev pub line_text : List ℕ → List ℕ
line_text l = up_to line_end l

unfoldable pub line_length : List ℕ → ℕ
line_length l = length (line_text l) + ending_length (from line_end l)

-- The lines of the octets from place p on, the first of which has number n. The first k octets are in none of them: they belong to the line
-- in front. "A file that ends in a line ending has no further line; an empty file .. has none."
unfoldable pub lines_from : LineNumber → Place → ℕ → List ℕ → List Line
lines_from n p k [] = []
lines_from n p zero (c ∷ l) =
    line n p (line_text (c ∷ l)) ∷ lines_from (number_after n 1) (place_after p 1) (line_length (c ∷ l) - 1) l
lines_from n p (suc k) (c ∷ l) = lines_from n (place_after p 1) k l

-- "If the file starts with EF BB BF": the leading mark
unfoldable pub has_leading_mark : List ℕ → Bool
has_leading_mark [] = false
has_leading_mark (a ∷ []) = false
has_leading_mark (a ∷ b ∷ []) = false
has_leading_mark (a ∷ b ∷ c ∷ l) = eqb a 0xEF && eqb b 0xBB && eqb c 0xBF

-- "those three octets are skipped but keep their places"
abbrev pub skipped : List ℕ → ℕ
skipped file = if has_leading_mark file then 3 else 0

-- all lines of a file; the octets that are skipped are in none of them
unfoldable pub lines_of : List ℕ → List Line
lines_of file = lines_from (line_number 1) (place_at 0) (skipped file) file

-- M-108, "each line ended": a text is empty or ends in a line ending
unfoldable pub ended : List ℕ → Bool
ended l = empty l || ends "\r" l || ends "\n" l
