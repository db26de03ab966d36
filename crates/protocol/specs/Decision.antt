-- The decision about a normalised path, from any entries and the file that they point into: document 01's is the one from the file's
-- own entries. Assumes nothing.
use Rattle.std.specs.Prelude.{ℕ, Bool, true, false, ◌&&◌, ◌||◌, not, List, [], ◌∷◌, ltb, eqb, if◌then◌else◌}
use Rattle.std.proofs.Math.Option.{Option, none, some}
use Rattle.lists.specs.Lists.{kept, through, total, same}
use Rattle.protocol.specs.declared.Dialect.{Dialect}
use Rattle.protocol.specs.declared.Side.{Side}
use Rattle.protocol.specs.declared.Walked.{Walked}
use Rattle.protocol.specs.Forms.{Decision}
use Rattle.protocol.specs.Text.{octets, octets_at}
use Rattle.protocol.specs.Lines.{line_number, place_at}
use Rattle.protocol.specs.Readable.{readable_pattern}
use Rattle.protocol.specs.Entries.{Entry}
use Rattle.protocol.specs.declared.Rule.{Rule}
use Rattle.protocol.specs.Rules.{applying, unread}
use Rattle.protocol.specs.Pattern.{shape_in, weight}
use Rattle.protocol.specs.Walk.{walk}

-- a rule's raw pattern
abbrev pub pattern_of : List ℕ → Rule → List ℕ
pattern_of file r = octets_at file r.place r.length

-- "Empty and unreadable patterns never match"
unfoldable pub readable_rules : List ℕ → List Rule → List Rule
readable_rules file rs = kept (λ r. readable_pattern (pattern_of file r)) rs

unfoldable pub weight_in : Dialect → List ℕ → Rule → ℕ
weight_in d file r = weight (shape_in d (pattern_of file r))

-- the weight by which rules are weighed against each other, in the RFC's dialect
abbrev pub weight_of : List ℕ → Rule → ℕ
weight_of file r = weight_in Dialect.Rfc9309 file r

unfoldable pub walk_of : Dialect → List ℕ → List ℕ → Rule → Walked
walk_of d file path r = walk (shape_in d (pattern_of file r)) path

-- the walk of a rule's pattern finds a match
abbrev pub is_match : Dialect → List ℕ → List ℕ → Rule → Bool
is_match d file path r = (walk_of d file path r).stood

-- the rules whose walk does
unfoldable pub matching : Dialect → List ℕ → List ℕ → List Rule → List Rule
matching d file path rs = kept (is_match d file path) rs

abbrev pub allows : Side → Bool
allows Side.Allow = true
allows Side.Disallow = false

-- a later rule s is named and not r: it is heavier, or it is as heavy and allows where r doesn't
unfoldable pub outdoes : List ℕ → Rule → Rule → Bool
outdoes file s r =
    ltb (weight_of file r) (weight_of file s) || (eqb (weight_of file r) (weight_of file s) && allows s.side && not (allows r.side))

unfoldable pub chosen : List ℕ → Rule → Option Rule → Option Rule
chosen file r none = some r
chosen file r (some s) = if outdoes file s r then some s else some r

-- "the heaviest match, allow before disallow at equal weight, then the earliest line"
unfoldable pub heaviest : List ℕ → List Rule → Option Rule
heaviest file [] = none
heaviest file (r ∷ rs) = chosen file r (heaviest file rs)

-- M-113, in the draft's dialect: "the first match in file order decides"
unfoldable pub earliest : List Rule → Option Rule
earliest [] = none
earliest (r ∷ rs) = some r

-- The second of the two things that a dialect chooses: how the deciding rule is chosen among those that match
unfoldable pub deciding : Dialect → List ℕ → List Rule → Option Rule
deciding Dialect.Rfc9309 file rs = heaviest file rs
deciding Dialect.Draft1996 file rs = earliest rs

-- and with it the readable rules that are walked: all of them; in the draft's dialect those up to the first match, since "rules after the
-- deciding one add nothing to the compared count"
unfoldable pub walked : Dialect → List ℕ → List ℕ → List Rule → List Rule
walked Dialect.Rfc9309 file path rs = rs
walked Dialect.Draft1996 file path rs = through (is_match Dialect.Draft1996 file path) rs

-- "A decision's compared count is the sum over all applying readable rules, each walked"; M-113: "the sum here ending with the deciding rule"
unfoldable pub compared_by : Dialect → List ℕ → List ℕ → List Rule → ℕ
compared_by d file path rs = total (λ r. (walk_of d file path r).count) (walked d file path rs)

-- "deciding line (0 if no rule decided), place and length of that rule's raw pattern in the file (0 and 0 if none)"
unfoldable pub decided_by : Option Rule → ℕ → ℕ → Decision
decided_by none unread compared =
    record {
      refusal = 0;
      side = Side.Allow;
      line = line_number 0;
      place = place_at 0;
      length = 0;
      unread = unread;
      compared = compared;
    }
decided_by (some r) unread compared =
    record {
      refusal = 0;
      side = r.side;
      line = r.line;
      place = r.place;
      length = r.length;
      unread = unread;
      compared = compared;
    }

-- "/robots.txt, which is always allowed with no rule deciding"
unfoldable pub is_robots_file : List ℕ → Bool
is_robots_file path = same path (octets "/robots.txt")

-- the decision by rules of which all are readable
unfoldable pub decided_among : Dialect → List ℕ → List ℕ → List Rule → ℕ → Decision
decided_among d file path rs unread = decided_by (deciding d file (matching d file path rs)) unread (compared_by d file path rs)

-- the answer about the normalised path, nothing being refused
unfoldable pub answered : Dialect → List ℕ → List Entry → List ℕ → List ℕ → Decision
answered d file es name path =
    if is_robots_file path then decided_by none (unread file es) 0
    else decided_among d file path (readable_rules file (applying file es name)) (unread file es)
