-- "The rules that apply", and the unread count: of any entries, with the octets that their places point at in the file. Assumes nothing.
use Rattle.std.specs.Prelude.{ℕ, Bool, false, ◌&&◌, not, List, [], ◌∷◌, ◌++◌, eqb, if◌then◌else◌}
use Rattle.lists.specs.Choice.{one_if}
use Rattle.lists.specs.Lists.{empty, any, total}
use Rattle.protocol.specs.declared.Side.{Side}
use Rattle.protocol.specs.declared.Rule.{Rule}
use Rattle.protocol.specs.declared.Audience.{Audience}
use Rattle.protocol.specs.Text.{octets_at}
use Rattle.protocol.specs.Readable.{everyone, readable_agent, names, readable_pattern}
use Rattle.protocol.specs.Entries.{Role, agent, rule, Entry}

-- the octets of an entry's value
abbrev pub value_of : List ℕ → Entry → List ℕ
value_of file e = octets_at file e.place e.length

-- the entry, of that role, is an agent line that names who; group 0 is no group
unfoldable pub named_by : List ℕ → List ℕ → Role → Entry → Bool
named_by file who agent e = not (eqb e.group 0) && names (value_of file e) who
named_by file who (rule side) e = false

abbrev pub entry_names : List ℕ → List ℕ → Entry → Bool
entry_names file who e = named_by file who e.role e

-- some group names who
unfoldable pub some_group_names : List ℕ → List Entry → List ℕ → Bool
some_group_names file es who = any (entry_names file who) es

-- the group g names who
unfoldable pub group_names : List ℕ → List Entry → List ℕ → ℕ → Bool
group_names file es who g = any (λ e. eqb e.group g && entry_names file who e) es

-- the rule of a rule line of that side
abbrev pub rule_of : Side → Entry → Rule
rule_of side e = record { line = e.line; side = side; place = e.place; length = e.length }

unfoldable pub rule_in : (ℕ → Bool) → Role → Entry → List Rule
rule_in chosen agent e = []
rule_in chosen (rule side) e = if chosen e.group then rule_of side e ∷ [] else []

-- the rules of the groups that are chosen, in the order of the entries, each once
unfoldable pub rules_in : (ℕ → Bool) → List Entry → List Rule
rules_in chosen [] = []
rules_in chosen (e ∷ es) = rule_in chosen e.role e ++ rules_in chosen es

-- "if any group names the crawler, the rules of all such groups, each group once; otherwise those of all groups naming "*"; otherwise none":
-- whose groups apply
unfoldable pub audience : List ℕ → List Entry → List ℕ → Audience
audience file es crawler =
    if some_group_names file es crawler then Audience.Crawler
    else if some_group_names file es everyone then Audience.Everyone
    else Audience.Nobody

-- the group g is one of theirs
unfoldable pub group_for : List ℕ → List Entry → List ℕ → Audience → ℕ → Bool
group_for file es crawler Audience.Crawler g = group_names file es crawler g
group_for file es crawler Audience.Everyone g = group_names file es everyone g
group_for file es crawler Audience.Nobody g = false

-- and their rules
abbrev pub rules_for : List ℕ → List Entry → List ℕ → Audience → List Rule
rules_for file es crawler a = rules_in (group_for file es crawler a) es

unfoldable pub applying : List ℕ → List Entry → List ℕ → List Rule
applying file es crawler = rules_for file es crawler (audience file es crawler)

-- an agent line that isn't readable, or a rule line whose pattern is neither empty nor readable
unfoldable pub unreadable : Role → List ℕ → Bool
unreadable agent v = not (readable_agent v)
unreadable (rule side) v = not (empty v) && not (readable_pattern v)

-- The unread count, document 01's own term: "The unread count is the number of unreadable agent and rule lines in the whole file"
unfoldable pub unread : List ℕ → List Entry → ℕ
unread file es = total (λ e. one_if (unreadable e.role (value_of file e))) es
