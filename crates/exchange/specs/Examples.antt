-- Worked exchanges: some that pass all tests of one theorem or of both, and for each test one that fails it alone and is answered otherwise.
-- proofs/Examples.antt computes them. Assumes nothing.
use Rattle.std.specs.Prelude.{ℕ, ◌+◌, Bool, ◌&&◌, not, eqb, if◌then◌else◌}
use Prim.Native.String.{String}
use mathlib.Core.List.{List, [], ◌∷◌, ◌++◌, map, flatten}
use Rattle.lists.specs.Lists.{all, any, same, numbers_from}
use Rattle.protocol.specs.Octets.{is}
use Rattle.protocol.specs.Text.{octets}
use Rattle.protocol.specs.Answers.{decide, side_number}
use Rattle.protocol.specs.Examples.{Answer, told, allow, disallow, lines}
use Rattle.exchange.specs.Exchange.{Parts, file_of, exchanged, leading_mark, groups_tests, parts_tests}

-- which tests fail, by their numbers from 0 on: of the two as groups, and as parts; and the answers before and after
pub record Outcome : Type 0 where
  pub groups_fail : List ℕ
  pub parts_fail : List ℕ
  pub before : Answer
  pub after : Answer

pub record Row : Type 0 where
  pub parts : Parts
  pub name : String
  pub path : String
  pub outcome : Outcome

-- the numbers, from n on, of the tests that fail
unfoldable pub failing : ℕ → List Bool → List ℕ
failing n [] = []
failing n (t ∷ ts) = (if t then [] else n ∷ []) ++ failing (n + 1) ts

abbrev pub answer_to : Parts → String → String → Answer
answer_to p n path = told (decide 0 (file_of p) (octets n) (octets path))

abbrev pub asked : Row → Outcome
asked r =
    record {
      groups_fail = failing 0 (groups_tests r.parts);
      parts_fail = failing 0 (parts_tests r.parts);
      before = answer_to r.parts r.name r.path;
      after = answer_to (exchanged r.parts) r.name r.path;
    }

abbrev pub outcome : Row → Outcome
outcome r = r.outcome

-- "|" ends a line with LF, and "^" is EF BB BF
abbrev pub spelt : String → List ℕ
spelt s = flatten (map (λ c. if is "^" c then leading_mark else c ∷ []) (lines s))

-- mark, front, one, two, rest; the tests that fail; name, path; the answers
abbrev pub exchange_row : String → String → String → String → String → List ℕ → List ℕ → String → String → Answer → Answer → Row
exchange_row m f one two r gs ps n path b a =
    record {
      parts = record { mark = spelt m; front = spelt f; one = spelt one; two = spelt two; rest = spelt r };
      name = n;
      path = path;
      outcome = record { groups_fail = gs; parts_fail = ps; before = b; after = a };
    }

-- Two that may be exchanged: both files are answered disallow, and another line decides
unfoldable pub may_exchange : List Row
may_exchange =
    exchange_row "" "user-agent: *|allow: /|" "user-agent: a|disallow: /x|" "user-agent: b|user-agent: a|disallow: /y|allow: /z|" "user-agent: c|allow: /" [] [] "a" "/x" (disallow 4 0 6) (disallow 8 0 6)
    -- as parts: a mark, every line ending, a blank line and a remark in front of a group, CR in front of LF, an unreadable rule, no last ending
    ∷ exchange_row "^" "user-agent: *\r|allow: /\r|" "|# one\r|user-agent: a\rdisallow: /x\r" "user-agent: A/2.1|disallow: *y|allow: xy|allow: /\r" "|user-agent: c|allow: /xy" (4 ∷ []) [] "a" "/xy" (disallow 6 1 6) (disallow 4 1 6)
    ∷ []

-- And such as may not
unfoldable pub may_not : List Row
may_not =
    -- the file begins with EF BB BF, and these octets are taken for a part of the front
    exchange_row "" "^user-agent: *|" "user-agent: a|disallow: /|" "user-agent: b|allow: /|" "" (0 ∷ []) (0 ∷ 1 ∷ []) "c" "/" (disallow 3 0 1) (allow 3 0 1)
    -- for a part of what is exchanged: the file begins with them before, or after
    ∷ exchange_row "" "" "^user-agent: a|user-agent: b|disallow: /|" "user-agent: c|allow: /|" "" (0 ∷ 4 ∷ []) (0 ∷ []) "a" "/" (disallow 3 0 1) (allow 0 0 0)
    ∷ exchange_row "" "" "user-agent: c|allow: /|" "^user-agent: a|user-agent: b|disallow: /|" "" (8 ∷ []) (1 ∷ []) "a" "/" (allow 0 0 0) (disallow 3 0 1)
    -- the front isn't ended
    ∷ exchange_row "" "sitemap: x" "user-agent: a|disallow: /|" "user-agent: b|allow: /|" "" (1 ∷ []) (2 ∷ []) "a" "/" (allow 0 0 0) (disallow 4 0 1)
    -- the last group of the front has no rule line
    ∷ exchange_row "" "user-agent: *|" "user-agent: a|disallow: /|" "user-agent: b|allow: /|" "" (2 ∷ []) (3 ∷ []) "c" "/" (disallow 3 0 1) (allow 3 0 1)
    -- the rest begins with a rule line
    ∷ exchange_row "" "" "user-agent: a|allow: /x|" "user-agent: b|allow: /x|" "disallow: /|" (3 ∷ []) (4 ∷ []) "a" "/y" (allow 0 0 2) (disallow 5 0 3)
    -- the first of the two begins with a rule line; has no rule line; ends in an agent line; isn't ended
    ∷ exchange_row "" "" "disallow: /|" "user-agent: a|allow: /x|" "" (4 ∷ []) (5 ∷ []) "a" "/y" (allow 0 0 2) (disallow 3 0 3)
    ∷ exchange_row "" "" "user-agent: a|" "user-agent: b|disallow: /|" "" (5 ∷ []) (6 ∷ []) "a" "/" (disallow 3 0 1) (allow 0 0 0)
    ∷ exchange_row "" "" "user-agent: b|allow: /|user-agent: a|" "user-agent: c|disallow: /|" "" (6 ∷ []) (6 ∷ []) "a" "/" (disallow 5 0 1) (allow 0 0 0)
    ∷ exchange_row "" "" "user-agent: a|disallow: /" "user-agent: b|allow: /|" "" (7 ∷ []) (7 ∷ []) "a" "/" (allow 3 1 1) (disallow 4 0 1)
    -- the second one
    ∷ exchange_row "" "" "user-agent: a|allow: /x|" "disallow: /|" "" (8 ∷ []) (8 ∷ []) "a" "/y" (disallow 3 0 3) (allow 0 0 2)
    ∷ exchange_row "" "" "user-agent: b|disallow: /|" "user-agent: a|" "" (9 ∷ []) (9 ∷ []) "a" "/" (allow 0 0 0) (disallow 3 0 1)
    ∷ exchange_row "" "" "user-agent: c|disallow: /|" "user-agent: b|allow: /|user-agent: a|" "" (10 ∷ []) (9 ∷ []) "a" "/" (allow 0 0 0) (disallow 5 0 1)
    ∷ exchange_row "" "" "user-agent: b|allow: /|" "user-agent: a|disallow: /" "" (11 ∷ []) (10 ∷ []) "a" "/" (disallow 4 0 1) (allow 3 1 1)
    ∷ []

-- a row in which test k fails alone, of those that `fails` tells, and the side changes
abbrev pub needs : (Outcome → List ℕ) → ℕ → Row → Bool
needs fails k r =
    same (fails r.outcome) (k ∷ []) && not (eqb (side_number r.outcome.before.side) (side_number r.outcome.after.side))

-- each of n tests has one
unfoldable pub each_needed : (Outcome → List ℕ) → ℕ → Bool
each_needed fails n = all (λ k. any (needs fails k) may_not) (numbers_from 0 n)

-- in the draft's dialect, where the first match decides, these two may not be exchanged
unfoldable pub draft_parts : Parts
draft_parts = record { mark = []; front = []; one = lines "user-agent: a|allow: /|"; two = lines "user-agent: a|disallow: /|"; rest = [] }

abbrev pub draft_answer : Parts → Answer
draft_answer p = told (decide 1 (file_of p) (octets "a") (octets "/"))
