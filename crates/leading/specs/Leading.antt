-- The rule that leads for a path, after some rules: of the decision only its side and line are kept, with its weight. Assumes nothing.
use Rattle.std.specs.Prelude.{ℕ, ◌+◌, ◌≤◌, Bool, ◌&&◌, ◌||◌, List, [], ◌∷◌, ltb, eqb, length, if◌then◌else◌}
use Rattle.protocol.specs.declared.Dialect.{Dialect}
use Rattle.protocol.specs.declared.Rule.{Rule}
use Rattle.protocol.specs.Lines.{line_number}
use Rattle.protocol.specs.Decision.{pattern_of}
use Rattle.protocol.specs.Answers.{side_number}
use Rattle.walk.specs.Weights.{weighed}
use Rattle.considering.specs.Considering.{first_settles}
use Rattle.tables.specs.declared.Kept.{Kept}
use Rattle.tables.specs.Tables.{Sound}
use Rattle.leading.specs.declared.Leader.{Leader}

-- none has matched
abbrev pub no_leader : Leader
no_leader = record { weight = 0; side = 0; line = line_number 0 }

-- a rule of that weight and side leads: it is heavier, or it is as heavy and allows where the leader doesn't
abbrev pub outdoes : ℕ → ℕ → Leader → Bool
outdoes weight side l = ltb l.weight weight || (eqb l.weight weight && ltb side l.side)

-- one rule more, with its weight, which is 0 where it doesn't match
abbrev pub led_by : ℕ → Rule → Leader → Leader
led_by w r l =
    if outdoes w (side_number r.side) l then record { weight = w; side = side_number r.side; line = r.line } else l

-- no further rule is walked: in the draft's dialect behind the first match
abbrev pub settled : Dialect → Leader → Bool
settled d l = first_settles d (ltb 0 l.weight)

-- one rule more of a file, for a normalised path
unfoldable pub led : Dialect → List ℕ → List ℕ → Leader → Rule → Leader
led d file path l r = if settled d l then l else led_by (weighed d (pattern_of file r) path).weight r l

-- rules of a file, one after the other
unfoldable pub led_all : Dialect → List ℕ → List ℕ → Leader → List Rule → Leader
led_all d file path l [] = l
led_all d file path l (r ∷ rs) = led_all d file path (led d file path l r) rs

-- the weight of a pattern whose rest behind so many literal octets has that weight, where it matches
abbrev pub whole_weight : ℕ → ℕ → ℕ
whole_weight front rest = if eqb rest 0 then 0 else front + rest

-- there is room for the walks of the first n rules of a table
pub record Room (file : List ℕ) (table : List Kept) (n : ℕ) (path scratch : List ℕ) : Type 0 where
  pub size : length file ≤ 512_000
  pub sound : Sound file n table
  pub short : length path ≤ 6_142
  pub lent : length path ≤ length scratch
