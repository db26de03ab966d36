-- The rules that are left from a line on, and what reading lines makes of them. Assumes nothing.
use Rattle.std.specs.Prelude.{ℕ, ◌+◌, ◌≤◌, ◌<◌, ◌≡◌, Bool, true, false, List, ◌++◌, length}
use Rattle.protocol.specs.declared.Position.{Position}
use Rattle.protocol.specs.declared.Kind.{Kind}
use Rattle.protocol.specs.declared.Rule.{Rule}
use Rattle.protocol.specs.Entries.{entries_from}
use Rattle.hearing.specs.declared.Hearing.{Hearing}
use Rattle.passes.specs.Entries.{rules_heard}
use Rattle.passes.specs.Steps.{first_line, lines_on, lines_past}
use Rattle.collecting.specs.declared.Pass.{Pass}
use Rattle.collecting.specs.declared.Collected.{Collected}
use Rattle.tables.specs.declared.Kept.{Kept}
use Rattle.tables.specs.Tables.{rules_from, Sound}

-- before the first line no group is above
abbrev pub first_pass : List ℕ → Pass
first_pass file = record { at = first_line file; applies = false; joins = false }

-- what was heard in front; unread lines aren't counted here
abbrev pub heard_in : Pass → Hearing
heard_in p = record { applies = p.applies; joins = p.joins; unread = 0 }

-- the readable rules from there on whose groups `who` names
abbrev pub left : List ℕ → List ℕ → Pass → List Rule
left file who p = rules_heard file who (heard_in p) (entries_from 0 false (lines_on file p.at))

-- p is a line of the file, and its number is no larger than it can be
pub record Counted (file : List ℕ) (p : Position) : Type 0 where
  pub size : length file ≤ 512_000
  pub inside : p.place.offset < length file
  pub counted : p.number.number ≤ p.place.offset + 1

-- q is behind the line at p
pub record Behind (file : List ℕ) (p q : Position) : Type 0 where
  pub further : p.place.offset < q.place.offset
  pub inside : q.place.offset ≤ length file
  pub counted : q.number.number ≤ q.place.offset + 1

-- from q on the entries are those of the lines behind the one at p
pub record IdlePassed (file : List ℕ) (p q : Position) : Type 0 where
  pub behind : Behind file p q
  pub entries : (above : ℕ) (ruled : Bool) → entries_from above ruled (lines_on file q) ≡ entries_from above ruled (lines_past file p)

abbrev pub is_rule : Kind → Bool
is_rule Kind.Blank = false
is_rule Kind.Noise = false
is_rule Kind.Other = false
is_rule (Kind.Agent a) = false
is_rule (Kind.Rule side p) = true

-- between p and q stand the rules rs
pub record Next (file who : List ℕ) (p : Pass) (rs : List Rule) (q : Pass) : Type 0 where
  pub behind : Behind file p.at q.at
  pub left : left file who p ≡ rs ++ left file who q

-- one line more: its rule, if it has one that applies, stands in the table behind those that were there
pub record Turn (file who : List ℕ) (before : List Kept) (c : Collected) (after : List Kept) (d : Collected) : Type 0 where
  pub rules : List Rule
  pub next : Next file who c.pass rules d.pass
  pub kept : rules_from 0 d.count after ≡ rules_from 0 c.count before ++ rules
  pub sound : Sound file c.count before → Sound file d.count after
  pub same : length after ≡ length before
  pub few : d.count ≤ c.count + 1

-- as many rules as there is room for: those from p on stand in the table, and those that don't are left
pub record Rounded (file who : List ℕ) (p : Pass) (before after : List Kept) (d : Collected) : Type 0 where
  pub rules : rules_from 0 d.count after ++ left file who d.pass ≡ left file who p
  pub full : d.pass.at.place.offset < length file → d.count ≡ length before
  pub sound : Sound file d.count after
  pub same : length after ≡ length before
  pub counted : d.pass.at.number.number ≤ d.pass.at.place.offset + 1
  pub further : 1 ≤ length before → p.at.place.offset < length file → p.at.place.offset < d.pass.at.place.offset
