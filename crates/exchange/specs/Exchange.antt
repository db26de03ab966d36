-- M-108, "Groups in any order": when neighbouring groups of a file may be exchanged, and what then stays as it was. Assumes nothing.
use Rattle.std.specs.Prelude.{ℕ, ◌≡◌, Bool, true, false, ◌&&◌, ◌||◌, not, if◌then◌else◌}
use mathlib.Core.List.{List, [], ◌∷◌, ◌++◌, map, flatten}
use Rattle.std.proofs.Math.Option.{Option, none, some}
use Rattle.lists.specs.Each.{Each}
use Rattle.lists.specs.Lists.{empty, all, any, from, same}
use Rattle.protocol.specs.Forms.{Decision}
use Rattle.protocol.specs.Lines.{line_number, place_at, line_text, lines_from, has_leading_mark, ended}
use Rattle.protocol.specs.Kinds.{kind_of}
use Rattle.protocol.specs.Entries.{Role, agent, rule, role_of, entries_from}

-- the agent lines and the rule lines of a text, in order; blank, noise and other lines are none of them
unfoldable pub roles_in : List ℕ → List Role
roles_in text = map (λ e. e.role) (entries_from 0 false (lines_from (line_number 1) (place_at 0) 0 text))

abbrev pub is_agent : Role → Bool
is_agent agent = true
is_agent (rule side) = false

abbrev pub is_rule : Role → Bool
is_rule agent = false
is_rule (rule side) = true

abbrev pub some_agent : Option Role → Bool
some_agent none = false
some_agent (some r) = is_agent r

-- the line, given without its ending, is an agent line
abbrev pub is_agent_line : List ℕ → Bool
is_agent_line l = some_agent (role_of (kind_of l))

-- the first agent or rule line, if there is any, is an agent line: no rule of the text belongs to a group above it
abbrev pub opens : List Role → Bool
opens [] = true
opens (r ∷ rs) = is_agent r

-- the last one, if there is any, is a rule line: an agent line that follows starts a new group
unfoldable pub closes : List Role → Bool
closes [] = true
closes (r ∷ rs) = if empty rs then is_rule r else closes rs

-- A group: it begins with an agent line, has "at least one rule line, of any readability", no agent line behind a rule line, and "each line ended"
abbrev pub group_tests : List ℕ → List Bool
group_tests text =
    is_agent_line (line_text text)
    ∷ any is_rule (roles_in text)
    ∷ all is_rule (from is_rule (roles_in text))
    ∷ ended text
    ∷ []

-- Whole groups, any number of them, with any lines in front of the first agent line too
abbrev pub part_tests : List ℕ → List Bool
part_tests text = opens (roles_in text) ∷ closes (roles_in text) ∷ ended text ∷ []

-- EF BB BF
abbrev pub leading_mark : List ℕ
leading_mark = 0xEF ∷ 0xBB ∷ 0xBF ∷ []

-- what is taken for the mark of a file is these three octets, or it is nothing and the file doesn't begin with them
unfoldable pub is_mark : List ℕ → List ℕ → Bool
is_mark mark file = same mark leading_mark || (empty mark && not (has_leading_mark file))

-- A file put together: its mark, what is in front, two neighbouring groups or parts, and the rest
pub record Parts : Type 0 where
  pub mark : List ℕ
  pub front : List ℕ
  pub one : List ℕ
  pub two : List ℕ
  pub rest : List ℕ

unfoldable pub file_of : Parts → List ℕ
file_of p = p.mark ++ (p.front ++ (p.one ++ (p.two ++ p.rest)))

-- "exchanging two neighbouring groups"; "A leading mark stays in front of the file."
abbrev pub exchanged : Parts → Parts
exchanged p = record { mark = p.mark; front = p.front; one = p.two; two = p.one; rest = p.rest }

-- what stands in front of groups and behind them
abbrev pub around_tests : List ℕ → List ℕ → List Bool
around_tests front rest = ended front ∷ closes (roles_in front) ∷ opens (roles_in rest) ∷ []

-- Two groups that may be exchanged
abbrev pub groups_tests : Parts → List Bool
groups_tests p = is_mark p.mark (file_of p) ∷ around_tests p.front p.rest ++ (group_tests p.one ++ group_tests p.two)

-- Two parts that may be: where such a part needn't begin with an agent line, the exchanged file has to be looked at for a mark too
abbrev pub parts_tests : Parts → List Bool
parts_tests p =
    is_mark p.mark (file_of p)
    ∷ is_mark p.mark (file_of (exchanged p))
    ∷ around_tests p.front p.rest
    ++ (part_tests p.one ++ part_tests p.two)

-- all tests pass
abbrev pub Pass : List Bool → Type 0
Pass tests = Each (λ t. t ≡ true) tests

-- A file with any number of groups, one behind the other
unfoldable pub file_with : List ℕ → List ℕ → List (List ℕ) → List ℕ → List ℕ
file_with mark front groups rest = mark ++ (front ++ (flatten groups ++ rest))

-- What stays as it was: "allow or disallow", and with it the refusal and both counts. "Line numbers, and which of two equally heavy rules is
-- named, may change."
pub record Alike (d e : Decision) : Type 0 where
  pub refusal : d.refusal ≡ e.refusal
  pub side : d.side ≡ e.side
  pub unread : d.unread ≡ e.unread
  pub compared : d.compared ≡ e.compared
