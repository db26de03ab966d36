-- Entry by entry, the rules that are heard are the readable rules of the groups that name `who`; and some group names `who` where some line does.
-- Assumes nothing.
use Prim.Native.Nat.{ℕ}
use mathlib.Core.Path.{◌≡◌, refl, sym, ap, ◌∙◌}
use mathlib.Core.Bool.{Bool, true, false, ◌||◌}
use mathlib.Core.List.{List, [], ◌∷◌, ◌++◌}
use mathlib.Core.Option.{Option, none, some}
use Rattle.lists.specs.Lists.{any, kept}
use Rattle.lists.proofs.Bools.{split}
use Rattle.lists.proofs.Appends.{kept_append}
use Rattle.protocol.specs.declared.Kind.{Kind}
use Rattle.protocol.specs.Lines.{Line, lines_of}
use Rattle.protocol.specs.Readable.{readable_pattern}
use Rattle.protocol.specs.Kinds.{kind_of}
use Rattle.protocol.specs.Entries.{Role, agent, rule, Entry, role_of, group_at, ruled_after, entry_of, entries_from, entries}
use Rattle.protocol.specs.Rules.{value_of, some_group_names, group_names, rule_in, rules_in}
use Rattle.protocol.specs.Decision.{pattern_of, readable_rules}
use Rattle.protocol.proofs.Groups.{applies_after, joins_after, agent_names, rules_named, rules_named_lem, some_named, file_grouped}
use Rattle.hearing.specs.declared.Hearing.{Hearing}
use Rattle.hearing.specs.Heard.{nothing_heard}
use Rattle.passes.specs.Entries.{heard_as, rule_heard, rules_heard, line_value, role_names, line_names}

module _ (file who : List ℕ) where
  rule_heard_lem : (applies : Bool) (ro : Role) (e : Entry) → rule_heard file applies ro e ≡ readable_rules file (rule_in (λ g. applies) ro e)
  unfolding rule_heard readable_rules kept rule_in
  rule_heard_lem applies agent e = refl
  rule_heard_lem true (rule side) e = split (readable_pattern (value_of file e)) (λ r. rw r) (λ r. rw r)
  rule_heard_lem false (rule side) e = refl

  heard_applies : (ro : Role) (v : List ℕ) (h : Hearing) → (heard_as who ro v h).applies ≡ applies_after who ro v h.applies h.joins
  heard_applies agent v h = refl
  heard_applies (rule side) v h = refl

  heard_joins : (ro : Role) (v : List ℕ) (h : Hearing) → (heard_as who ro v h).joins ≡ joins_after ro
  heard_joins agent v h = refl
  heard_joins (rule side) v h = refl

  -- hearing goes by the group above as the groups' law does, and keeps the readable rules
  heard_named : (h : Hearing) (es : List Entry) → rules_heard file who h es ≡ readable_rules file (rules_named file who h.applies h.joins es)
  unfolding rules_heard rules_named readable_rules kept
  heard_named h [] = refl
  heard_named h (e ∷ es) =
      let v = value_of file e in
      let i = heard_as who e.role v h in
      rw (rule_heard_lem h.applies e.role e, heard_named i es, heard_applies e.role v h, heard_joins e.role v h)
      (sym (kept_append (λ r. readable_pattern (pattern_of file r)) (rule_in (λ g. h.applies) e.role e) _))

  -- Entry by entry, the rules that are heard are the readable rules of the groups that name who.
  pub heard_rules : rules_heard file who nothing_heard (entries file) ≡ readable_rules file (rules_in (group_names file (entries file) who) (entries file))
  heard_rules = heard_named nothing_heard (entries file) ∙ ap (readable_rules file) (rules_named_lem file who (entries file) (file_grouped file))

  -- an agent line's entry that names who
  abbrev naming : Entry → Bool
  naming e = agent_names who e.role (value_of file e)

  -- an entry, in front of the entries es, names who where its line does
  entry_names_lem : (g : ℕ) (l : Line) (k : Kind) (es : List Entry) (ro : Option Role)
      → any naming (entry_of g l k ro ++ es) ≡ role_names who (line_value file l.place k) ro || any naming es
  unfolding any entry_of
  entry_names_lem g l k es none = refl
  entry_names_lem g l k es (some agent) = refl
  entry_names_lem g l k es (some (rule side)) = refl

  lines_name : (above : ℕ) (ruled : Bool) (ls : List Line) → any naming (entries_from above ruled ls) ≡ any (line_names file who) ls
  unfolding entries_from any
  lines_name above ruled [] = refl
  lines_name above ruled (l ∷ ls) =
      let k = kind_of l.text in
      let ro = role_of k in
      let group = group_at above ruled ro in
      let rest = ruled_after ruled ro in
      entry_names_lem group l k (entries_from group rest ls) ro
      ∙ ap (λ (b : Bool). role_names who (line_value file l.place k) ro || b) (lines_name group rest ls)

  -- Some group names who exactly where some line does.
  pub some_line_names : some_group_names file (entries file) who ≡ any (line_names file who) (lines_of file)
  unfolding entries
  some_line_names = some_named file who 0 false (entries file) (file_grouped file) ∙ lines_name 0 false (lines_of file)
