-- Worked examples of document 01: its table and its program. proofs/Examples.antt computes them. Assumes nothing.
use Rattle.std.specs.Prelude.{ℕ, List, [], ◌∷◌, ◌++◌, map, if◌then◌else◌}
use Prim.Native.Char.{code}
use Prim.Native.String.{String}
use Rattle.protocol.specs.declared.Side.{Side}
use Rattle.protocol.specs.Forms.{Decision}
use Rattle.protocol.specs.Octets.{is}
use Rattle.protocol.specs.Text.{octets}
use Rattle.protocol.specs.Answers.{decide}

-- "Answers: decision, line, unread, compared"; ours may be refused too
pub record Answer : Type 0 where
  pub refusal : ℕ
  pub side : Side
  pub line : ℕ
  pub unread : ℕ
  pub compared : ℕ

abbrev pub told : Decision → Answer
told d = record { refusal = d.refusal; side = d.side; line = d.line.number; unread = d.unread; compared = d.compared }

abbrev pub allow : ℕ → ℕ → ℕ → Answer
allow l u c = record { refusal = 0; side = Side.Allow; line = l; unread = u; compared = c }

abbrev pub disallow : ℕ → ℕ → ℕ → Answer
disallow l u c = record { refusal = 0; side = Side.Disallow; line = l; unread = u; compared = c }

abbrev pub refused : ℕ → Answer
refused n = record { refusal = n; side = Side.Disallow; line = 0; unread = 0; compared = 0 }

-- File; Name, path; Answer; and the number of the dialect (M-113)
pub record Row : Type 0 where
  pub dialect : ℕ
  pub file : List ℕ
  pub name : String
  pub path : String
  pub answer : Answer

-- ""|" ends a line"
abbrev pub lines : String → List ℕ
lines s = map (λ c. if is "|" c then code "\n" else c) (octets s)

abbrev pub row_in : List ℕ → String → String → Answer → Row
row_in f n p a = record { dialect = 0; file = f; name = n; path = p; answer = a }

abbrev pub row_by : ℕ → String → String → String → Answer → Row
row_by d f n p a = record { dialect = d; file = lines f; name = n; path = p; answer = a }

abbrev pub row : String → String → String → Answer → Row
row f n p a = row_by 0 f n p a

abbrev pub asked : Row → Answer
asked r = told (decide r.dialect r.file (octets r.name) (octets r.path))

abbrev pub answer : Row → Answer
answer r = r.answer

-- the table of document 01, which calls it the harbour table, and what a request of document 02 adds to it
unfoldable pub worked_table : List Row
worked_table =
    row "" "a" "/" (allow 0 0 0)
    ∷ row "user-agent: a|disallow: /" "A" "/x" (disallow 2 0 1)
    ∷ row "user-agent: a|disallow: /" "a" "/%72obots.txt" (allow 0 0 0)
    ∷ row "user-agent: a|disallow: /" "b" "/x" (allow 0 0 0)
    ∷ row "user-agent: *|allow: /p|disallow: /" "a" "/page" (allow 2 0 3)
    ∷ row "user-agent: *|disallow: /folder|allow: /folder" "a" "/folder/page" (allow 3 0 14)
    ∷ row "user-agent: *|allow: /page|disallow: /*.htm" "a" "/page.htm" (disallow 3 0 14)
    ∷ row "user-agent: *|disallow: /*.php$" "a" "/filename.php5" (allow 0 0 2)
    ∷ row "user-agent: *|disallow: /path/foo-%24" "a" "/path/foo-$" (disallow 2 0 13)
    ∷ row "user-agent: a|sitemap: x|user-agent: b|disallow: /" "a" "/" (disallow 4 0 1)
    ∷ row "user-agent: a|disallow: x|user-agent: b|disallow: /" "a" "/" (allow 0 1 0)
    -- M-102's row
    ∷ row "user-agent: *|disallow: *.gif$" "a" "/x.gif" (disallow 2 0 4)
    ∷ []

-- "For the input .. the whole output is"
unfoldable pub program_input : List ℕ
program_input =
    octets "drydockbot\n"
    ++ octets "/sailings/draft/9\n"
    ++ octets "user-agent: *\n"
    ++ octets "disallow: /sailings/draft\n"
    ++ octets "allow: /sailings\n"

unfoldable pub program_output : List ℕ
program_output = octets "disallow line 2 unread 0 compared 24\n"
