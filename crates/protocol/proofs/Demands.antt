-- The three demands about a decision, for every dialect, file, name and path. Assumes nothing.
use Prim.Native.Nat.{ℕ, ◌+◌, ◌*◌, ◌≤◌}
use mathlib.Core.Path.{◌≡◌, refl, sym, ◌∙◌, ap}
use mathlib.Core.Bool.{true, false}
use mathlib.Core.Logic.{◌↔◌, inl, inr, ⊎_elim}
use mathlib.Core.List.{List}
use native.Mathlib.Omega.{arith}
use lib.ListN.{length}
use Rattle.lists.specs.Lists.{total}
use Rattle.protocol.specs.declared.Dialect.{Dialect}
use Rattle.protocol.specs.declared.Side.{Side}
use Rattle.protocol.specs.declared.Rule.{Rule}
use Rattle.protocol.specs.Forms.{Decision}
use Rattle.protocol.specs.Lines.{line_number}
use Rattle.protocol.specs.Normal.{normal_path}
use Rattle.protocol.specs.Entries.{Entry, entries}
use Rattle.protocol.specs.Rules.{unread}
use Rattle.protocol.specs.Pattern.{shape_of, plain_shape, shape_in}
use Rattle.protocol.specs.Walk.{walk}
use Rattle.protocol.specs.Refusals.{dialect_of, decide_rows, decide_refusal}
use Rattle.protocol.specs.Decision.{pattern_of, weight_in, walked, is_robots_file, answered}
use Rattle.protocol.specs.Answers.{refused_decision, decide, walked_rules, side_number}
use Rattle.protocol.specs.Meaning.{ByTable, Candidate, Closed, DecidesFirst, ClosedFirst, ClosedIn, Shut, readable_for, Decides, DecidesIn, Undecided, UpToDecider, NamesNone, Named}
use Rattle.protocol.proofs.Inside.{entries_inside}
use Rattle.protocol.proofs.Refused.{unless_either, unless_answered, unless_refused_lem, decide_refusal_by_table}
use Rattle.protocol.proofs.Answered.{answered_refusal, answered_unread, answered_compared, answered_compared_robots, answered_bound}
use Rattle.protocol.proofs.Ascending.{entry_lines_ascend}
use Rattle.protocol.proofs.Decided.{answered_disallow, answered_names_by_line, named_inside, named_line_none, named_undecided}
use Rattle.protocol.proofs.Earliest.{answered_names_first, answered_disallow_first, answered_walked}

-- what holds of an answer in either dialect
module _ (file name path : List ℕ) where
  -- the rules of a file, and their lines, which ascend
  abbrev es : List Entry
  es = entries file

  candidate_of : (d : Dialect) (r : Rule) → DecidesIn d file es name path r → Candidate d file es name path r
  candidate_of Dialect.Rfc9309 r k = k.candidate
  candidate_of Dialect.Draft1996 r k = k.candidate

  other_of : (d : Dialect) (r : Rule) → DecidesIn d file es name path r → is_robots_file path ≡ false
  other_of Dialect.Rfc9309 r k = k.other
  other_of Dialect.Draft1996 r k = k.other

  answered_names_in : (d : Dialect) → Named (Undecided d file es name path) (DecidesIn d file es name path) (answered d file es name path)
  answered_names_in Dialect.Rfc9309 = answered_names_by_line file es name path (entry_lines_ascend file)
  answered_names_in Dialect.Draft1996 = answered_names_first file es name path (entry_lines_ascend file)

  answered_closed : (d : Dialect) → ((answered d file es name path).side ≡ Side.Disallow) ↔ ClosedIn d file es name path
  answered_closed Dialect.Rfc9309 = answered_disallow file es name path
  answered_closed Dialect.Draft1996 = answered_disallow_first file es name path (entry_lines_ascend file)

module _ (dialect : ℕ) (file name path : List ℕ) where
  abbrev chosen : Dialect
  chosen = dialect_of dialect

  -- a decision is answered from the file's own entries, or refused
  decide_either : (P : Decision → Type 0)
      → (decide_refusal dialect file name path ≡ 0 → P (answered chosen file (entries file) name (normal_path path)))
      → ((decide_refusal dialect file name path ≡ 0 → ⊥) → P (refused_decision (decide_refusal dialect file name path)))
      → P (decide dialect file name path)
  unfolding decide
  decide_either =
      unless_either (decide_refusal dialect file name path) refused_decision (answered chosen file (entries file) name (normal_path path))

  -- Demand 1: "It refuses in the cases of document 01's table, in the order fixed there, and in no others." M-113: 20 "first of all"
  pub decide_refusal_lem : (decide dialect file name path).refusal ≡ decide_refusal dialect file name path
  decide_refusal_lem =
      decide_either (λ d. d.refusal ≡ decide_refusal dialect file name path)
      (λ z. answered_refusal chosen file (entries file) name (normal_path path) ∙ sym z)
      (λ h. refl)

  pub decide_by_table : ByTable (decide_rows dialect file name path) (decide dialect file name path).refusal
  decide_by_table = rw decide_refusal_lem (decide_refusal_by_table file name path dialect)

  -- "A refused decision says disallow, line 0 and zero counts"
  pub decide_refused : (decide_refusal dialect file name path ≡ 0 → ⊥)
      → decide dialect file name path ≡ refused_decision (decide_refusal dialect file name path)
  unfolding decide
  decide_refused h = unless_refused_lem (decide_refusal dialect file name path) _ _ h

  -- any other is answered
  pub decide_answered : decide_refusal dialect file name path ≡ 0
      → decide dialect file name path ≡ answered (dialect_of dialect) file (entries file) name (normal_path path)
  unfolding decide
  decide_answered e = unless_answered (decide_refusal dialect file name path) _ _ e

  -- The octets that are named lie inside the file. Refused, none are.
  pub decide_inside : (decide dialect file name path).place.offset + (decide dialect file name path).length ≤ length file
  decide_inside =
      let p = normal_path path in
      decide_either (λ d. d.place.offset + d.length ≤ length file)
      (λ z.
      named_inside chosen file (entries file) name p (DecidesIn chosen file (entries file) name p) (other_of file name p chosen) (candidate_of file name p chosen)
      (answered chosen file (entries file) name p)
      (answered_names_in file name p chosen)
      (entries_inside file))
      (λ h. omega arith)

  -- "It must fail shut": disallow exactly where the decision is refused or the path is closed,
  pub decide_shut : ((decide dialect file name path).side ≡ Side.Disallow) ↔ Shut dialect file name path
  decide_shut =
      decide_either (λ d. (d.side ≡ Side.Disallow) ↔ Shut dialect file name path)
      (λ z.
      let (there, back) = answered_closed file name (normal_path path) chosen in
      (λ h. inr (there h), λ s. ⊎_elim (λ r. absurd (r z)) back s))
      (λ r. (λ h. inl r, λ s. refl))

  -- as a number
  pub decide_number : (side_number (decide dialect file name path).side ≡ 1) ↔ Shut dialect file name path
  decide_number =
      let (there, back) = decide_shut in
      (λ h. there (number_one (decide dialect file name path).side h), λ s. ap side_number (back s))
    where
      number_one : (side : Side) → side_number side ≡ 1 → side ≡ Side.Disallow
      number_one Side.Allow h = absurd (omega arith)
      number_one Side.Disallow h = refl

  -- "It is at most the summed weights of those rules, times the octets of the normalised path." Refused, it is 0.
  pub decide_bound : (decide dialect file name path).compared
      ≤ total (weight_in (dialect_of dialect) file) (walked_rules dialect file name path) * length (normal_path path)
  decide_bound =
      decide_either
      (λ d. d.compared ≤ total (weight_in chosen file) (walked_rules dialect file name path) * length (normal_path path))
      (λ z. answered_bound chosen file (entries file) name (normal_path path))
      (λ h. omega arith)

  module _ (unrefused : decide_refusal dialect file name path ≡ 0) where
    -- "The answer names the deciding rule's line and octets", or none
    pub decide_names_in : Named (Undecided (dialect_of dialect) file (entries file) name (normal_path path)) (DecidesIn (dialect_of dialect) file (entries file) name (normal_path path)) (decide dialect file name path)
    decide_names_in = rw (decide_answered unrefused) (answered_names_in file name (normal_path path) chosen)

    -- "deciding line (0 if no rule decided)": it is 0 exactly then,
    pub decide_line_none : ((decide dialect file name path).line ≡ line_number 0) ↔ Undecided (dialect_of dialect) file (entries file) name (normal_path path)
    decide_line_none =
        let p = normal_path path in
        named_line_none chosen file (entries file) name p (DecidesIn chosen file (entries file) name p) (other_of file name p chosen) (candidate_of file name p chosen) (decide dialect file name path) decide_names_in
        (entry_lines_ascend file)

    -- and then the answer is allow, with place and length 0.
    pub decide_undecided : Undecided (dialect_of dialect) file (entries file) name (normal_path path) → NamesNone (decide dialect file name path)
    decide_undecided u =
        let p = normal_path path in
        named_undecided chosen file (entries file) name p (DecidesIn chosen file (entries file) name p) (other_of file name p chosen) (candidate_of file name p chosen) (decide dialect file name path) decide_names_in u

    -- Demand 3: "the sum of such walks' numbers", one for each rule that is walked,
    pub decide_counted : is_robots_file (normal_path path) ≡ false
        → (decide dialect file name path).compared
        ≡ total (λ r. (walk (shape_in (dialect_of dialect) (pattern_of file r)) (normal_path path)).count) (walked_rules dialect file name path)
    decide_counted e = rw (decide_answered unrefused) (answered_compared chosen file (entries file) name (normal_path path) e)

    -- "or 0 if the normalised path is /robots.txt"
    pub decide_compared_robots : is_robots_file (normal_path path) ≡ true → (decide dialect file name path).compared ≡ 0
    decide_compared_robots e = rw (decide_answered unrefused) (answered_compared_robots chosen file (entries file) name (normal_path path) e)

    -- "The unread count is the number of unreadable agent and rule lines in the whole file."
    pub decide_unread : (decide dialect file name path).unread ≡ unread file (entries file)
    decide_unread = rw (decide_answered unrefused) (answered_unread chosen file (entries file) name (normal_path path))

-- In the RFC's dialect
module _ (file name path : List ℕ) (unrefused : decide_refusal 0 file name path ≡ 0) where
  -- Demand 2: "the answer is disallow exactly when the normalised path isn't /robots.txt and, among the rules that RFC 9309 as read by document
  -- 01 gives this crawler, some disallow rule matches and weighs more than every allow rule that matches."
  pub decide_disallow : ((decide 0 file name path).side ≡ Side.Disallow)
      ↔ ((is_robots_file (normal_path path) ≡ false) × Closed file (entries file) name (normal_path path))
  unfolding dialect_of
  decide_disallow = rw (decide_answered 0 file name path unrefused) (answered_disallow file (entries file) name (normal_path path))

  -- "The answer names the deciding rule's line and octets: the heaviest match, allow before disallow at equal weight, then the earliest line."
  pub decide_names : Named (Undecided Dialect.Rfc9309 file (entries file) name (normal_path path)) (Decides file (entries file) name (normal_path path)) (decide 0 file name path)
  unfolding dialect_of
  decide_names = decide_names_in 0 file name path unrefused

  -- Demand 3: "the sum of such walks' numbers, one walk for each readable rule that applies"
  pub decide_compared : is_robots_file (normal_path path) ≡ false
      → (decide 0 file name path).compared ≡ total (λ r. (walk (shape_of (pattern_of file r)) (normal_path path)).count) (readable_for file name)
  unfolding dialect_of shape_in walked
  decide_compared e = decide_counted 0 file name path unrefused e

-- In the draft's dialect "these rules stand in place of demand 2"
module _ (file name path : List ℕ) (unrefused : decide_refusal 1 file name path ≡ 0) where
  pub draft_disallow : ((decide 1 file name path).side ≡ Side.Disallow) ↔ ClosedFirst file (entries file) name (normal_path path)
  unfolding dialect_of
  draft_disallow =
      rw (decide_answered 1 file name path unrefused)
      (answered_disallow_first file (entries file) name (normal_path path) (entry_lines_ascend file))

  -- "the first match in file order decides"; "no match allows; /robots.txt stays allowed"
  pub draft_names : Named (Undecided Dialect.Draft1996 file (entries file) name (normal_path path)) (DecidesFirst file (entries file) name (normal_path path)) (decide 1 file name path)
  unfolding dialect_of
  draft_names = decide_names_in 1 file name path unrefused

  module _ (other : is_robots_file (normal_path path) ≡ false) where
    -- Demand 3, "the sum here ending with the deciding rule, if there is one"
    pub draft_compared : (decide 1 file name path).compared
        ≡ total (λ r. (walk (plain_shape (pattern_of file r)) (normal_path path)).count) (walked_rules 1 file name path)
    unfolding dialect_of shape_in
    draft_compared = decide_counted 1 file name path unrefused other

    pub draft_walked : UpToDecider (Undecided Dialect.Draft1996 file (entries file) name (normal_path path)) (DecidesFirst file (entries file) name (normal_path path)) (readable_for file name) (walked_rules 1 file name path)
    unfolding dialect_of
    draft_walked = answered_walked file (entries file) name (normal_path path) (entry_lines_ascend file) other
