-- The rules of the groups that name `who`: entry by entry, by what lines say, and of lines with others behind them. Assumes nothing.
use Rattle.std.specs.Prelude.{if◌then◌else◌}
use Prim.Native.Nat.{ℕ, ◌+◌, ◌≤◌, ◌<◌}
use mathlib.Core.Path.{◌≡◌, refl, sym, ◌∙◌}
use mathlib.Core.Bool.{Bool, true, false, ◌&&◌, ◌||◌, not, and-false, or-false, or-true, or_assoc, false≢true}
use mathlib.Core.List.{List, [], ◌∷◌, ◌++◌, map, map-append, append_assoc}
use mathlib.Core.Option.{Option, none, some}
use native.Mathlib.Omega.{arith}
use lib.Dec.{eqb}
use borrow.Author.Tests.{eqb-false, eq-eqb, ne_eqb}
use Rattle.lists.specs.Lists.{any}
use Rattle.lists.proofs.Bools.{split}
use Rattle.protocol.specs.declared.Rule.{Rule}
use Rattle.protocol.specs.Lines.{Line, lines_of}
use Rattle.protocol.specs.Readable.{names}
use Rattle.protocol.specs.Kinds.{kind_of}
use Rattle.protocol.specs.Entries.{Role, agent, rule, Entry, role_of, group_at, ruled_after, entry_of, entries_from, entries}
use Rattle.protocol.specs.Rules.{value_of, named_by, some_group_names, group_names, rule_in, rules_in}
use Rattle.protocol.specs.Decision.{pattern_of}
use Rattle.protocol.proofs.Said.{Said, entry_says}

-- the group of an agent line here
abbrev agent_group : ℕ → Bool → ℕ
agent_group above ruled = group_at above ruled (some agent)

group_fresh : (above : ℕ) (ruled : Bool) → (eqb above 0 || ruled) ≡ true → agent_group above ruled ≡ above + 1
unfolding group_at
group_fresh above ruled e = rw e

group_joined : (above : ℕ) (ruled : Bool) → (eqb above 0 || ruled) ≡ false → (agent_group above ruled ≡ above) × (0 < above)
unfolding group_at
group_joined above ruled e =
    (rw e, split (eqb above 0) (λ z. absurd (false≢true (sym e ∙ rw z))) (λ z. omega (arith, eqb-false above 0 z)))

-- an agent line has a group
pub group_some : (above : ℕ) (ruled : Bool) → eqb (group_at above ruled (some agent)) 0 ≡ false
group_some above ruled =
    ne_eqb (agent_group above ruled) 0
    (λ z. split (eqb above 0 || ruled) (λ e. omega (arith, group_fresh above ruled e)) (λ e. omega (arith, group_joined above ruled e)))

-- Entries that have the numbers of their groups, as those of a file have
abbrev pub Grouped : ℕ → Bool → List Entry → Type 0
Grouped above ruled [] = Unit {0}
Grouped above ruled (e ∷ es) = (e.group ≡ group_at above ruled (some e.role)) × Grouped e.group (ruled_after ruled (some e.role)) es

pub entries_grouped : (above : ℕ) (ruled : Bool) (ls : List Line) → Grouped above ruled (entries_from above ruled ls)
unfolding entries_from entry_of group_at ruled_after
entries_grouped above ruled [] = tt
entries_grouped above ruled (l ∷ ls) = go (role_of (kind_of l.text)) (λ g r. entries_grouped g r ls)
  where
    go : (ro : Option Role) → ((g : ℕ) (r : Bool) → Grouped g r (entries_from g r ls))
        → Grouped above ruled (entry_of (group_at above ruled ro) l (kind_of l.text) ro ++ entries_from (group_at above ruled ro) (ruled_after ruled ro) ls)
    go none on = on above ruled
    go (some ro) on = (refl, on (group_at above ruled (some ro)) (ruled_after ruled (some ro)))

-- whose group it is behind an agent line or a rule line: applies, the group above names who; joins, an agent line here joins it
abbrev pub applies_after : List ℕ → Role → List ℕ → Bool → Bool → Bool
applies_after who agent v applies joins = (joins && applies) || names v who
applies_after who (rule side) v applies joins = applies

abbrev pub joins_after : Role → Bool
joins_after agent = true
joins_after (rule side) = false

-- an agent line with value v names who
abbrev pub agent_names : List ℕ → Role → List ℕ → Bool
agent_names who agent v = names v who
agent_names who (rule side) v = false

module _ (file who : List ℕ) where
  -- the rules of the groups that name who, entry by entry
  unfoldable pub rules_named : Bool → Bool → List Entry → List Rule
  rules_named applies joins [] = []
  rules_named applies joins (e ∷ es) =
      rule_in (λ g. applies) e.role e ++ rules_named (applies_after who e.role (value_of file e) applies joins) (joins_after e.role) es

  -- an entry that has its group names who where its value does
  entry_names_lem : (above : ℕ) (ruled : Bool) (ro : Role) (e : Entry) → e.group ≡ group_at above ruled (some ro)
      → named_by file who ro e ≡ agent_names who ro (value_of file e)
  unfolding named_by
  entry_names_lem above ruled agent e k = rw (k, group_some above ruled)
  entry_names_lem above ruled (rule side) e k = refl

  -- a group in front of the next agent line's: it isn't an entry's that names, and stays in front
  module _ (g above : ℕ) (ruled : Bool) (lt : g < agent_group above ruled) where
    here_other : (ro : Role) (e : Entry) → e.group ≡ group_at above ruled (some ro) → (eqb e.group g && named_by file who ro e) ≡ false
    unfolding named_by
    here_other agent e k = rw (ne_eqb e.group g (λ z. omega (arith, k, z, lt)))
    here_other (rule side) e k = and-false (eqb e.group g)

    still_before : (ro : Role) → g < agent_group (group_at above ruled (some ro)) (ruled_after ruled (some ro))
    unfolding group_at ruled_after
    still_before agent = rw (group_some above ruled) lt
    still_before (rule side) =
        rw or-true (split (eqb above 0 || ruled) (λ e. rw e at lt) (λ e. omega (arith, group_joined above ruled e)))

  none_before : (g above : ℕ) (ruled : Bool) (es : List Entry) → Grouped above ruled es → g < agent_group above ruled → group_names file es who g ≡ false
  unfolding group_names any
  none_before g above ruled [] h lt = refl
  none_before g above ruled (e ∷ es) h lt =
      rw (here_other g above ruled lt e.role e h.0)
      (none_before g e.group (ruled_after ruled (some e.role)) es h.1 (rw h.0 (still_before g above ruled lt e.role)))

  module _ (chosen : ℕ → Bool) where
    -- of the groups from the one above on, those are chosen that apply already or of which an agent line from here on names who
    abbrev Known : ℕ → Bool → (ℕ → Bool) → Type 0
    Known above applies later = (g : ℕ) → above ≤ g → chosen g ≡ (eqb above g && applies) || later g

    abbrev Joining : ℕ → Bool → Bool → Type 0
    Joining above ruled joins = joins ≡ not (eqb above 0 || ruled)

    module _ (above : ℕ) (ruled applies joins : Bool) (j : Joining above ruled joins) where
      -- behind an agent line, which names who or not
      known_agent : (named : Bool) (later : ℕ → Bool) → Known above applies (λ g. (eqb (agent_group above ruled) g && named) || later g)
          → Known (agent_group above ruled) ((joins && applies) || named) later
      known_agent named later known g le =
          split (eqb above 0 || ruled)
          (λ e.
          let new : agent_group above ruled ≡ above + 1 = group_fresh above ruled e in
          rw (j, e) (rw (ne_eqb above g (λ z. omega arith)) at (known g (omega arith))))
          (λ e.
          let old : agent_group above ruled ≡ above = (group_joined above ruled e).0 in
          rw (j, e) (known g (omega arith) ∙ rw old (both (eqb above g) applies named (later g))))
        where
          both : (a b c d : Bool) → ((a && b) || ((a && c) || d)) ≡ ((a && (b || c)) || d)
          both true b c d = sym (or_assoc b c d)
          both false b c d = refl

      -- at a rule line the group above is chosen where it applies: no agent line from here on joins it
      settled : (es : List Entry) → Grouped above true es → Known above applies (group_names file es who) → chosen above ≡ applies
      settled es h known =
          let new : above < agent_group above true = omega (arith, group_fresh above true (or-true (eqb above 0))) in
          known above (omega arith) ∙ rw (eq-eqb above above refl, none_before above above true es h new, or-false)

      -- one entry more, of that role
      abbrev Later : Role → Entry → List Entry → ℕ → Bool
      Later ro e es g = (eqb e.group g && named_by file who ro e) || group_names file es who g

      step : (ro : Role) (e : Entry) (es : List Entry) → e.group ≡ group_at above ruled (some ro)
          → Grouped e.group (ruled_after ruled (some ro)) es → Known above applies (Later ro e es)
          → ((a i : Bool) → Joining e.group (ruled_after ruled (some ro)) i → Known e.group a (group_names file es who)
          → rules_named a i es ≡ rules_in chosen es)
          → rule_in (λ g. applies) ro e ++ rules_named (applies_after who ro (value_of file e) applies joins) (joins_after ro) es ≡ rule_in chosen ro e ++ rules_in chosen es
      unfolding rule_in group_at ruled_after named_by
      step agent e es k h known on =
          on ((joins && applies) || names (value_of file e) who) true (rw (k, group_some above ruled))
          (rw k
          (known_agent (names (value_of file e) who) (group_names file es who)
          (λ g le. known g le ∙ rw (k, group_some above ruled))))
      step (rule side) e es k h known on =
          let rest : Known above applies (group_names file es who) = λ g le. known g le ∙ rw and-false in
          let same : rules_named applies false es ≡ rules_in chosen es = on applies false (rw or-true) (rw k rest) in
          rw (k, settled es (rw k at h) rest, same)

    named_from : (above : ℕ) (ruled applies joins : Bool) (es : List Entry) → Grouped above ruled es → Joining above ruled joins
        → Known above applies (group_names file es who) → rules_named applies joins es ≡ rules_in chosen es
    unfolding rules_named rules_in group_names any
    named_from above ruled applies joins [] h j known = refl
    named_from above ruled applies joins (e ∷ es) h j known =
        step above ruled applies joins j e.role e es h.0 h.1 known
        (λ a i. named_from e.group (ruled_after ruled (some e.role)) a i es h.1)

  -- Entry by entry, the rules are those of the groups that name who.
  pub rules_named_lem : (es : List Entry) → Grouped 0 false es → rules_named false false es ≡ rules_in (group_names file es who) es
  rules_named_lem es h = named_from (group_names file es who) 0 false false false es h refl (λ g le. rw and-false)

  -- Some group names who exactly where some agent line does.
  pub some_named : (above : ℕ) (ruled : Bool) (es : List Entry) → Grouped above ruled es
      → some_group_names file es who ≡ any (λ e. agent_names who e.role (value_of file e)) es
  unfolding some_group_names any
  some_named above ruled [] h = refl
  some_named above ruled (e ∷ es) h =
      rw (entry_names_lem above ruled e.role e h.0, some_named e.group (ruled_after ruled (some e.role)) es h.1)

-- The entries of a file have the numbers of their groups.
pub file_grouped : (file : List ℕ) → Grouped 0 false (entries file)
unfolding entries
file_grouped file = entries_grouped 0 false (lines_of file)

-- what a rule says
abbrev pub rule_says : List ℕ → Rule → Said
rule_says file r = record { role = rule r.side; value = pattern_of file r }

-- what a line of that role says, if it is a rule line of a group that applies
unfoldable pub said_here : Bool → Role → List ℕ → List Said
said_here applies agent v = []
said_here applies (rule side) v = if applies then record { role = rule side; value = v } ∷ [] else []

-- an agent line behind lines joins the group above
unfoldable pub joins_behind : Bool → List Said → Bool
joins_behind joins [] = joins
joins_behind joins (s ∷ ss) = joins_behind (joins_after s.role) ss

module _ (who : List ℕ) where
  -- what the rules of the groups that name who say
  unfoldable pub said_for : Bool → Bool → List Said → List Said
  said_for applies joins [] = []
  said_for applies joins (s ∷ ss) =
      said_here applies s.role s.value ++ said_for (applies_after who s.role s.value applies joins) (joins_after s.role) ss

  rule_says_lem : (file : List ℕ) (applies : Bool) (ro : Role) (e : Entry)
      → map (rule_says file) (rule_in (λ g. applies) ro e) ≡ said_here applies ro (value_of file e)
  unfolding rule_in said_here
  rule_says_lem file applies agent e = refl
  rule_says_lem file true (rule side) e = refl
  rule_says_lem file false (rule side) e = refl

  named_say : (file : List ℕ) (applies joins : Bool) (es : List Entry)
      → map (rule_says file) (rules_named file who applies joins es) ≡ said_for applies joins (map (entry_says file) es)
  unfolding rules_named said_for
  named_say file applies joins [] = refl
  named_say file applies joins (e ∷ es) =
      let a = applies_after who e.role (value_of file e) applies joins in
      map-append (rule_says file) (rule_in (λ g. applies) e.role e) (rules_named file who a (joins_after e.role) es)
      ∙ rw (rule_says_lem file applies e.role e, named_say file a (joins_after e.role) es)

  -- The rules of a file's groups that name who, by what its lines say
  pub rules_say : (file : List ℕ)
      → map (rule_says file) (rules_in (group_names file (entries file) who) (entries file)) ≡ said_for false false (map (entry_says file) (entries file))
  rules_say file = rw (← rules_named_lem file who (entries file) (file_grouped file)) (named_say file false false (entries file))

  -- the group above names who, behind lines
  unfoldable pub applies_behind : Bool → Bool → List Said → Bool
  applies_behind applies joins [] = applies
  applies_behind applies joins (s ∷ ss) = applies_behind (applies_after who s.role s.value applies joins) (joins_after s.role) ss

  -- The groups of lines and of lines behind them: the rules of the first, and those of the others, of which the first may join the group above.
  pub groups_append : (applies joins : Bool) (ss ts : List Said)
      → said_for applies joins (ss ++ ts) ≡ said_for applies joins ss ++ said_for (applies_behind applies joins ss) (joins_behind joins ss) ts
  unfolding said_for applies_behind joins_behind
  groups_append applies joins [] ts = refl
  groups_append applies joins (s ∷ ss) ts =
      let a = applies_after who s.role s.value applies joins in
      let j = joins_after s.role in
      rw (groups_append a j ss ts)
      (sym (append_assoc (said_here applies s.role s.value) (said_for a j ss) (said_for (applies_behind a j ss) (joins_behind j ss) ts)))
