-- The line numbers of a file's entries, and so of the rules that apply, ascend from 1 on: each entry and each rule stands there once, in the
-- order of the file. Assumes nothing.
use Prim.Native.Nat.{ℕ, zero, suc, ◌+◌, ◌-◌, ◌<◌}
use mathlib.Core.Bool.{Bool, false}
use mathlib.Core.List.{List, [], ◌∷◌, ◌++◌, map}
use mathlib.Core.Option.{Option, none, some}
use native.Mathlib.Omega.{arith}
use Rattle.lists.specs.Ascending.{Ascending}
use Rattle.lists.proofs.Bools.{split}
use Rattle.lists.proofs.Members.{ascending_from}
use Rattle.protocol.specs.declared.Place.{Place}
use Rattle.protocol.specs.Lines.{Line, line_number, place_at, place_after, line_length, lines_from, skipped, lines_of}
use Rattle.protocol.specs.Kinds.{kind_of}
use Rattle.protocol.specs.Entries.{Role, agent, rule, Entry, role_of, group_at, ruled_after, entry_of, entries_from, entries}
use Rattle.protocol.specs.Rules.{rule_in, rules_in, audience, group_for, applying}
use Rattle.protocol.specs.Meaning.{entry_lines, rule_lines}

-- the numbers of lines
abbrev numbers : List Line → List ℕ
numbers ls = map (λ l. l.number.number) ls

lines_ascend : (m : ℕ) (p : Place) (k : ℕ) (l : List ℕ) → Ascending m (numbers (lines_from (line_number (m + 1)) p k l))
unfolding lines_from
lines_ascend m p k [] = tt
lines_ascend m p zero (c ∷ l) = (omega arith, lines_ascend (m + 1) (place_after p 1) (line_length (c ∷ l) - 1) l)
lines_ascend m p (suc k) (c ∷ l) = lines_ascend m (place_after p 1) k l

-- the entry of a line, if it has one, in front of entries of greater lines
entry_ascends : (k g : ℕ) (l : Line) (o : Option Role) (es : List Entry) → k < l.number.number
    → Ascending l.number.number (entry_lines es) → Ascending k (entry_lines (entry_of g l (kind_of l.text) o ++ es))
unfolding entry_of
entry_ascends k g l none es h a = ascending_from k l.number.number (entry_lines es) (omega arith) a
entry_ascends k g l (some r) es h a = (h, a)

entries_ascend : (k g : ℕ) (ruled : Bool) (ls : List Line) → Ascending k (numbers ls) → Ascending k (entry_lines (entries_from g ruled ls))
unfolding entries_from
entries_ascend k g ruled [] a = tt
entries_ascend k g ruled (l ∷ ls) a =
    let role = role_of (kind_of l.text) in
    let group = group_at g ruled role in
    entry_ascends k group l role (entries_from group (ruled_after ruled role) ls) a.0
    (entries_ascend l.number.number group (ruled_after ruled role) ls a.1)

-- the rule of an entry, if it has one in a group that is chosen, in front of rules of greater lines
rule_ascends : (k : ℕ) (chosen : ℕ → Bool) (ro : Role) (e : Entry) (es : List Entry) → k < e.line.number
    → Ascending e.line.number (rule_lines (rules_in chosen es)) → Ascending k (rule_lines (rule_in chosen ro e ++ rules_in chosen es))
unfolding rule_in
rule_ascends k chosen agent e es h a = ascending_from k e.line.number (rule_lines (rules_in chosen es)) (omega arith) a
rule_ascends k chosen (rule side) e es h a =
    split (chosen e.group) (λ c. rw c (h, a))
    (λ c. rw c (ascending_from k e.line.number (rule_lines (rules_in chosen es)) (omega arith) a))

rules_ascend : (k : ℕ) (chosen : ℕ → Bool) (es : List Entry) → Ascending k (entry_lines es) → Ascending k (rule_lines (rules_in chosen es))
unfolding rules_in
rules_ascend k chosen [] a = tt
rules_ascend k chosen (e ∷ es) a = rule_ascends k chosen e.role e es a.0 (rules_ascend e.line.number chosen es a.1)

-- "Line numbers count from 1": the entries of a file, one for each line that has one, in order.
pub entry_lines_ascend : (file : List ℕ) → Ascending 0 (entry_lines (entries file))
unfolding entries lines_of
entry_lines_ascend file = entries_ascend 0 0 false (lines_of file) (lines_ascend 0 (place_at 0) (skipped file) file)

-- Where the entries' lines ascend, those of the rules that apply do,
pub applying_lines_ascend : (file : List ℕ) (es : List Entry) (name : List ℕ) → Ascending 0 (entry_lines es)
    → Ascending 0 (rule_lines (applying file es name))
unfolding applying
applying_lines_ascend file es name a = rules_ascend 0 (group_for file es name (audience file es name)) es a

-- and so they do for a file: "each group once".
pub rule_lines_ascend : (file name : List ℕ) → Ascending 0 (rule_lines (applying file (entries file) name))
rule_lines_ascend file name = applying_lines_ascend file (entries file) name (entry_lines_ascend file)
