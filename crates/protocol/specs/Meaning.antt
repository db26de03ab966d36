-- What the demands and document 01 say of a refusal and of a decision, in their own words. No walk is in it, and nothing of how an answer is
-- found. Assumes nothing.
use Rattle.std.specs.Prelude.{ℕ, ◌≤◌, ◌<◌, ◌≡◌, Bool, true, false, ◌&&◌, ◌↔◌, ◌⊎◌, eqb, length}
use mathlib.Core.List.{List, [], ◌∷◌, ◌++◌, map, Memᴰ}
use Rattle.lists.specs.Lists.{all, any}
use Rattle.lists.specs.Each.{Each}
use Rattle.protocol.specs.declared.Dialect.{Dialect}
use Rattle.protocol.specs.declared.Side.{Side}
use Rattle.protocol.specs.Forms.{Decision}
use Rattle.protocol.specs.Lines.{line_number, place_at}
use Rattle.protocol.specs.Octets.{token}
use Rattle.protocol.specs.Text.{same_ignoring_case}
use Rattle.protocol.specs.Readable.{everyone, readable_pattern}
use Rattle.protocol.specs.Entries.{agent, rule, Entry, entries}
use Rattle.protocol.specs.declared.Rule.{Rule}
use Rattle.protocol.specs.Rules.{value_of, rule_of, applying}
use Rattle.protocol.specs.Normal.{normal_path}
use Rattle.protocol.specs.Pattern.{shape_of}
use Rattle.protocol.specs.Matching.{Matches}
use Rattle.protocol.specs.Refusals.{Row, ◌when◌, dialect_of, decide_refusal}
use Rattle.protocol.specs.Decision.{pattern_of, readable_rules, weight_of, is_robots_file}

-- "0 answered": no row is given
abbrev pub NoneGiven : List Row → Type 0
NoneGiven rows = Each (λ r. r.given ≡ false) rows

-- a row of number k is given, and none in front of it
pub record FirstGiven (k : ℕ) (rows : List Row) : Type 0 where
  pub front : List Row
  pub back : List Row
  pub whole : rows ≡ front ++ ((k when true) ∷ back)
  pub ahead : NoneGiven front

-- "Given exactly when": n is the number of the first row that is given, and 0 exactly when none is
pub record ByTable (rows : List Row) (n : ℕ) : Type 0 where
  pub refused : (k : ℕ) → (k ≡ 0 → ⊥) → (n ≡ k) ↔ FirstGiven k rows
  pub answered : (n ≡ 0) ↔ NoneGiven rows

-- the condition of number k holds
unfoldable pub is_given : ℕ → List Row → Bool
is_given k rows = any (λ r. r.given && eqb r.number k) rows

-- the condition of number k holds, and that of no smaller number
abbrev pub SmallestGiven : ℕ → List Row → Type 0
SmallestGiven k rows = (is_given k rows ≡ true) × ((j : ℕ) → j < k → is_given j rows ≡ false)

-- "the smallest number first": a refusal n is the smallest number whose condition holds
abbrev pub SmallestFirst : List Row → ℕ → Type 0
SmallestFirst rows n = (k : ℕ) → (k ≡ 0 → ⊥) → (n ≡ k) ↔ SmallestGiven k rows

-- M-105: "its longest beginning of A-Z a-z - _": n is that of the value v
pub record LongestBeginning (v n : List ℕ) : Type 0 where
  pub rest : List ℕ
  pub whole : v ≡ n ++ rest
  pub octets : all token n ≡ true
  pub longest : (m back : List ℕ) → v ≡ m ++ back → all token m ≡ true → length m ≤ length n

-- "It is unread exactly if that beginning is empty and the value isn't exactly "*""
pub record UnreadAgent (v : List ℕ) : Type 0 where
  pub beginning : LongestBeginning v []
  pub other : v ≡ everyone → ⊥

-- the value v names who: it is exactly "*", and so is who; or "the rest is ignored", and its name and who "are equal, ignoring ASCII case"
pub data Names (v who : List ℕ) : Type 0 where
  by_star : v ≡ everyone → who ≡ everyone → Names v who
  by_name : (n : List ℕ) → LongestBeginning v n → (n ≡ [] → ⊥) → same_ignoring_case n who ≡ true → Names v who

-- the group g names who: g isn't 0, which is none, and one of its agent lines has a value that does
pub record GroupNames (file : List ℕ) (es : List Entry) (who : List ℕ) (g : ℕ) : Type 0 where
  pub entry : Entry
  pub among : Memᴰ entry es
  pub role : entry.role ≡ agent
  pub group : entry.group ≡ g
  pub some : g ≡ 0 → ⊥
  pub named : Names (value_of file entry) who

-- r is the rule of a rule line whose group names who
pub record RuleFor (file : List ℕ) (es : List Entry) (who : List ℕ) (r : Rule) : Type 0 where
  pub entry : Entry
  pub among : Memᴰ entry es
  pub role : entry.role ≡ rule r.side
  pub same : r ≡ rule_of r.side entry
  pub named : GroupNames file es who entry.group

-- the numbers of the lines of entries, and of rules
abbrev pub entry_lines : List Entry → List ℕ
entry_lines es = map (λ e. e.line.number) es

abbrev pub rule_lines : List Rule → List ℕ
rule_lines rs = map (λ r. r.line.number) rs

-- "A rule matches when its pattern is readable and its stars can be filled in some way."
pub record RuleMatches (file path : List ℕ) (r : Rule) : Type 0 where
  pub readable : readable_pattern (pattern_of file r) ≡ true
  pub matches : Matches (shape_of (pattern_of file r)) path

-- M-113, in the draft's dialect: the pattern is readable and, normalised as a path is, it begins the path. 004: "if and only if the end of the
-- path from the record is reached before a difference in octets is encountered"
pub record RuleBegins (file path : List ℕ) (r : Rule) : Type 0 where
  pub readable : readable_pattern (pattern_of file r) ≡ true
  pub rest : List ℕ
  pub begins : normal_path (pattern_of file r) ++ rest ≡ path

-- what it means in a dialect that a rule matches
abbrev pub MatchesIn : Dialect → List ℕ → List ℕ → Rule → Type 0
MatchesIn Dialect.Rfc9309 file path r = RuleMatches file path r
MatchesIn Dialect.Draft1996 file path r = RuleBegins file path r

-- r is one of "the rules that RFC 9309 as read by document 01 gives this crawler", and it matches
pub record Candidate (d : Dialect) (file : List ℕ) (es : List Entry) (name path : List ℕ) (r : Rule) : Type 0 where
  pub applies : Memᴰ r (applying file es name)
  pub matches : MatchesIn d file path r

-- "some disallow rule matches and weighs more than every allow rule that matches"
pub record Closed (file : List ℕ) (es : List Entry) (name path : List ℕ) : Type 0 where
  pub rule : Rule
  pub candidate : Candidate Dialect.Rfc9309 file es name path rule
  pub disallows : rule.side ≡ Side.Disallow
  pub heavier : (s : Rule) → Candidate Dialect.Rfc9309 file es name path s → s.side ≡ Side.Allow → weight_of file s < weight_of file rule

-- M-113, in the draft's dialect: "the first match in file order decides". 004: "in the order they occur in the record. The first match found is
-- used"
pub record DecidesFirst (file : List ℕ) (es : List Entry) (name path : List ℕ) (r : Rule) : Type 0 where
  pub other : is_robots_file path ≡ false
  pub candidate : Candidate Dialect.Draft1996 file es name path r
  pub first : (s : Rule) → Candidate Dialect.Draft1996 file es name path s → r.line.number ≤ s.line.number

-- and a disallow rule does
pub record ClosedFirst (file : List ℕ) (es : List Entry) (name path : List ℕ) : Type 0 where
  pub rule : Rule
  pub decides : DecidesFirst file es name path rule
  pub disallows : rule.side ≡ Side.Disallow

-- a normalised path is closed, in a dialect: "the normalised path isn't /robots.txt and .."
abbrev pub ClosedIn : Dialect → List ℕ → List Entry → List ℕ → List ℕ → Type 0
ClosedIn Dialect.Rfc9309 file es name path = (is_robots_file path ≡ false) × Closed file es name path
ClosedIn Dialect.Draft1996 file es name path = ClosedFirst file es name path

-- "disallow", for every dialect, file, name and path: the decision is refused, or the normalised path is closed
abbrev pub Shut : ℕ → List ℕ → List ℕ → List ℕ → Type 0
Shut dialect file name path =
    (decide_refusal dialect file name path ≡ 0 → ⊥) ⊎ ClosedIn (dialect_of dialect) file (entries file) name (normal_path path)

-- "each readable rule that applies"
abbrev pub readable_for : List ℕ → List ℕ → List Rule
readable_for file name = readable_rules file (applying file (entries file) name)

-- "the heaviest match, allow before disallow at equal weight": r comes before s
pub data Before (file : List ℕ) (r s : Rule) : Type 0 where
  heavier : weight_of file s < weight_of file r → Before file r s
  allowing : weight_of file s ≡ weight_of file r → r.side ≡ Side.Allow → s.side ≡ Side.Disallow → Before file r s

-- a full tie: neither comes before the other
pub record Tie (file : List ℕ) (r s : Rule) : Type 0 where
  pub weight : weight_of file s ≡ weight_of file r
  pub side : s.side ≡ r.side

-- "then the earliest line": r is the rule that decides
pub record Decides (file : List ℕ) (es : List Entry) (name path : List ℕ) (r : Rule) : Type 0 where
  pub other : is_robots_file path ≡ false
  pub candidate : Candidate Dialect.Rfc9309 file es name path r
  pub first : (s : Rule) → Candidate Dialect.Rfc9309 file es name path s → Before file r s ⊎ (Tie file r s × (r.line.number ≤ s.line.number))

-- The same from any entries, whatever their line numbers: among rules that tie, the one that stands first. M-104: "at a full tie the earlier"
pub record DecidesInOrder (file : List ℕ) (es : List Entry) (name path : List ℕ) (r : Rule) : Type 0 where
  pub other : is_robots_file path ≡ false
  pub front : List Rule
  pub back : List Rule
  pub whole : applying file es name ≡ front ++ (r ∷ back)
  pub matches : RuleMatches file path r
  pub ahead : (s : Rule) → Memᴰ s front → RuleMatches file path s → Before file r s
  pub behind : (s : Rule) → Memᴰ s back → RuleMatches file path s → Before file r s ⊎ Tie file r s

-- r decides, in a dialect
abbrev pub DecidesIn : Dialect → List ℕ → List Entry → List ℕ → List ℕ → Rule → Type 0
DecidesIn Dialect.Rfc9309 file es name path r = Decides file es name path r
DecidesIn Dialect.Draft1996 file es name path r = DecidesFirst file es name path r

-- no rule decides: the path is /robots.txt, or no rule that applies matches
abbrev pub Undecided : Dialect → List ℕ → List Entry → List ℕ → List ℕ → Type 0
Undecided d file es name path = (is_robots_file path ≡ true) ⊎ ((r : Rule) → Candidate d file es name path r → ⊥)

-- M-113: "the sum here ending with the deciding rule, if there is one": ws is what of the rules rs stands up to it, or all of them
pub data UpToDecider (None : Type 0) (Decider : Rule → Type 0) (rs ws : List Rule) : Type 0 where
  to_last : None → ws ≡ rs → UpToDecider None Decider rs ws
  to_rule : (front back : List Rule) (r : Rule) → Decider r → rs ≡ front ++ (r ∷ back) → ws ≡ front ++ (r ∷ []) → UpToDecider None Decider rs ws

-- "The answer names the deciding rule's line and octets"
pub record NamesRule (d : Decision) (r : Rule) : Type 0 where
  pub side : d.side ≡ r.side
  pub line : d.line ≡ r.line
  pub place : d.place ≡ r.place
  pub length : d.length ≡ r.length

-- "deciding line (0 if no rule decided), place and length of that rule's raw pattern in the file (0 and 0 if none)". "Any other
-- unrefused question is allow."
pub record NamesNone (d : Decision) : Type 0 where
  pub side : d.side ≡ Side.Allow
  pub line : d.line ≡ line_number 0
  pub place : d.place ≡ place_at 0
  pub length : d.length ≡ 0

-- the answer d names no rule where none decides, and otherwise one that does
pub data Named (None : Type 0) (Decider : Rule → Type 0) (d : Decision) : Type 0 where
  by_none : None → NamesNone d → Named None Decider d
  by_rule : (r : Rule) → Decider r → NamesRule d r → Named None Decider d
