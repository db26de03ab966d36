-- What the entries of a file come to, one after the other, where the groups of `who` apply. Assumes nothing.
use Rattle.std.specs.Prelude.{ℕ, ◌+◌, Bool, false, ◌&&◌, List, [], ◌∷◌, ◌++◌, if◌then◌else◌}
use Rattle.std.proofs.Math.Option.{Option, none, some}
use Rattle.protocol.specs.declared.Rule.{Rule}
use Rattle.protocol.specs.declared.Dialect.{Dialect}
use Rattle.protocol.specs.declared.Audience.{Audience}
use Rattle.protocol.specs.declared.Kind.{Kind}
use Rattle.protocol.specs.Text.{octets_at}
use Rattle.protocol.specs.declared.Place.{Place}
use Rattle.protocol.specs.declared.Position.{Position}
use Rattle.protocol.specs.Lines.{Line, place_after}
use Rattle.protocol.specs.Readable.{everyone, names, readable_pattern}
use Rattle.protocol.specs.Kinds.{kind_of, place_of, length_of}
use Rattle.protocol.specs.Entries.{Role, agent, rule, Entry, role_of, place_in_file, entries}
use Rattle.protocol.specs.Rules.{value_of, rule_of, audience, rules_for, unreadable, unread}
use Rattle.protocol.specs.Decision.{readable_rules, is_robots_file}
use Rattle.lines.specs.Spans.{text_at}
use Rattle.considering.specs.declared.Considered.{Considered}
use Rattle.considering.specs.Considering.{none_considered, considered_all}
use Rattle.hearing.specs.declared.Hearing.{Hearing}
use Rattle.hearing.specs.Heard.{first_of, after_agent, after_rule}
use Rattle.passes.specs.declared.gather.Gathered.{Gathered}

-- after an entry of that role and value
abbrev pub heard_as : List ℕ → Role → List ℕ → Hearing → Hearing
heard_as who agent v h = after_agent who v (unreadable agent v) h
heard_as who (rule side) v h = after_rule (unreadable (rule side) v) h

-- the rule of an entry of that role, where its group applies and its pattern is readable
unfoldable pub rule_heard : List ℕ → Bool → Role → Entry → List Rule
rule_heard file applies agent e = []
rule_heard file applies (rule side) e = if applies && readable_pattern (value_of file e) then rule_of side e ∷ [] else []

-- the rules of entries that apply, as they are heard
unfoldable pub rules_heard : List ℕ → List ℕ → Hearing → List Entry → List Rule
rules_heard file who h [] = []
rules_heard file who h (e ∷ es) = rule_heard file h.applies e.role e ++ rules_heard file who (heard_as who e.role (value_of file e) h) es

-- what is gathered of the entries that are left
unfoldable pub gathered_from : Dialect → List ℕ → List ℕ → List ℕ → Hearing → Considered → List Entry → Gathered
gathered_from d file who path h c [] = record { considered = c; unread = h.unread }
gathered_from d file who path h c (e ∷ es) =
    gathered_from d file who path (heard_as who e.role (value_of file e) h) (considered_all d file path c (rule_heard file h.applies e.role e)) es

-- what is gathered of a file: what the readable rules of an audience's groups come to for a path, and the unread count
unfoldable pub gathered : Dialect → List ℕ → List ℕ → Audience → List ℕ → Gathered
gathered d file crawler a path =
    record {
      considered = considered_all d file path none_considered (readable_rules file (rules_for file (entries file) crawler a));
      unread = unread file (entries file);
    }

-- what is told of it: the unread count, only where the whole file is read
abbrev pub told : Bool → Gathered → Gathered
told whole g = record { considered = g.considered; unread = if whole then g.unread else 0 }

-- the value of a line of kind k that begins at p, and where it ends
abbrev pub line_value : List ℕ → Place → Kind → List ℕ
line_value file p k = octets_at file (place_in_file p k) (length_of k)

abbrev pub value_end : Place → Kind → Place
value_end p k = place_after p ((place_of k).offset + length_of k)

-- an agent line with value v names who
abbrev pub role_names : List ℕ → List ℕ → Option Role → Bool
role_names who v none = false
role_names who v (some agent) = names v who
role_names who v (some (rule side)) = false

-- a line does
abbrev pub line_names : List ℕ → List ℕ → Line → Bool
line_names file who l = let k = kind_of l.text in role_names who (line_value file l.place k) (role_of k)

-- whom the line at p names
abbrev pub line_audience : List ℕ → List ℕ → Place → Audience
line_audience file crawler p =
    let k = kind_of (text_at file p) in
    let v = line_value file p k in
    first_of (role_names crawler v (role_of k)) (role_names everyone v (role_of k))

-- after a line that is no rule line
abbrev pub heard_other : List ℕ → List ℕ → Place → Kind → Hearing → Hearing
heard_other file who p Kind.Blank h = h
heard_other file who p Kind.Noise h = h
heard_other file who p Kind.Other h = h
heard_other file who p (Kind.Agent a) h = heard_as who agent (line_value file p (Kind.Agent a)) h
heard_other file who p (Kind.Rule side pattern) h = h

-- the entry of a line of kind k at a position; of no group
abbrev pub entry_at : Position → Kind → Role → Entry
entry_at at k ro = record { line = at.number; group = 0; role = ro; place = place_in_file at.place k; length = length_of k }

-- whose groups apply for a normalised path: nobody's for /robots.txt, "which is always allowed with no rule deciding"
unfoldable pub audience_for : List ℕ → List ℕ → List ℕ → Audience
audience_for file crawler path = if is_robots_file path then Audience.Nobody else audience file (entries file) crawler
