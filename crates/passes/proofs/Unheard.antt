-- Lines where no group applies: no rule is heard of them up to an agent line that names `who`, whatever the group above them. Assumes nothing.
use Prim.Native.Nat.{ℕ}
use mathlib.Core.Path.{◌≡◌, refl, ap, ap₂, ◌∙◌}
use mathlib.Core.Bool.{Bool, false, ◌&&◌, and-false}
use mathlib.Core.List.{List, [], ◌∷◌, ◌++◌}
use mathlib.Core.Option.{Option, none, some}
use Rattle.lists.specs.Lists.{any, from}
use Rattle.lists.proofs.Bools.{split}
use Rattle.lists.proofs.Cuts.{from_none}
use Rattle.protocol.specs.declared.Rule.{Rule}
use Rattle.protocol.specs.declared.Kind.{Kind}
use Rattle.protocol.specs.Lines.{Line}
use Rattle.protocol.specs.Kinds.{kind_of}
use Rattle.protocol.specs.Entries.{Role, agent, rule, Entry, role_of, group_at, ruled_after, entry_of, entries_from}
use Rattle.protocol.specs.Rules.{value_of}
use Rattle.hearing.specs.declared.Hearing.{Hearing}
use Rattle.hearing.specs.Heard.{nothing_heard}
use Rattle.passes.specs.Entries.{heard_as, rule_heard, rules_heard, line_value, role_names, line_names, entry_at}

module _ (file who : List ℕ) where
  -- what is heard goes by whether a group applies, and whether an agent line here joins it,
  abbrev pub Alike : Hearing → Hearing → Type 0
  Alike h i = (h.applies ≡ i.applies) × ((h.joins && h.applies) ≡ (i.joins && i.applies))

  alike_on : (e : Entry) (es : List Entry) → ((h i : Hearing) → Alike h i → rules_heard file who h es ≡ rules_heard file who i es)
      → (ro : Role) (h i : Hearing) → Alike h i → let v = value_of file e in
      (rule_heard file h.applies ro e ++ rules_heard file who (heard_as who ro v h) es) ≡ (rule_heard file i.applies ro e ++ rules_heard file who (heard_as who ro v i) es)
  unfolding rule_heard
  alike_on e es on agent h i a = on (heard_as who agent (value_of file e) h) (heard_as who agent (value_of file e) i) (rw a.1, rw a.1)
  alike_on e es on (rule side) h i a =
      let v = value_of file e in
      ap₂ (λ (b : Bool) (rs : List Rule). rule_heard file b (rule side) e ++ rs) a.0 (on (heard_as who (rule side) v h) (heard_as who (rule side) v i) (a.0, refl))

  pub heard_alike : (es : List Entry) (h i : Hearing) → Alike h i → rules_heard file who h es ≡ rules_heard file who i es
  unfolding rules_heard
  heard_alike [] h i a = refl
  heard_alike (e ∷ es) h i a = alike_on e es (heard_alike es) e.role h i a

  -- and not by the groups' numbers
  abbrev pub Numbered : List Line → Type 0
  Numbered ls =
      (h : Hearing) (above next : ℕ) (ruled then : Bool) → rules_heard file who h (entries_from above ruled ls) ≡ rules_heard file who h (entries_from next then ls)

  numbers_on : (l : Line) (ls : List Line) → Numbered ls → (k : Kind) (ro : Option Role) (h : Hearing) (above next : ℕ) (ruled then : Bool)
      → rules_heard file who h (entry_of (group_at above ruled ro) l k ro ++ entries_from (group_at above ruled ro) (ruled_after ruled ro) ls)
      ≡ rules_heard file who h (entry_of (group_at next then ro) l k ro ++ entries_from (group_at next then ro) (ruled_after then ro) ls)
  unfolding rules_heard rule_heard entry_of
  numbers_on l ls on k none h above next ruled then = on h _ _ _ _
  numbers_on l ls on k (some agent) h above next ruled then = on _ _ _ _ _
  numbers_on l ls on k (some (rule side)) h above next ruled then =
      ap (λ (rs : List Rule). rule_heard file h.applies (rule side) (entry_at (record { number = l.number; place = l.place }) k (rule side)) ++ rs) (on _ _ _ _ _)

  pub heard_numbers : (ls : List Line) → Numbered ls
  unfolding entries_from
  heard_numbers [] h above next ruled then = refl
  heard_numbers (l ∷ ls) h above next ruled then = numbers_on l ls (heard_numbers ls) (kind_of l.text) (role_of (kind_of l.text)) h above next ruled then

  -- the rules that are heard of lines, where no group applies yet
  abbrev pub unheard : List Line → List Rule
  unheard ls = rules_heard file who nothing_heard (entries_from 0 false ls)

  pub unheard_any : (ls : List Line) (h : Hearing) (above : ℕ) (ruled : Bool) → h.applies ≡ false → rules_heard file who h (entries_from above ruled ls) ≡ unheard ls
  unheard_any ls h above ruled e =
      heard_numbers ls h above 0 ruled false ∙ heard_alike (entries_from 0 false ls) h nothing_heard (e, rw e (and-false h.joins))

  -- a line that doesn't name who changes nothing
  pub unheard_line : (l : Line) (ls : List Line) → line_names file who l ≡ false → unheard (l ∷ ls) ≡ unheard ls
  unfolding entries_from rules_heard rule_heard entry_of group_at ruled_after
  unheard_line l ls e = go (role_of (kind_of l.text)) e
    where
      go : (ro : Option Role) → let k = kind_of l.text in role_names who (line_value file l.place k) ro ≡ false
          → rules_heard file who nothing_heard (entry_of (group_at 0 false ro) l k ro ++ entries_from (group_at 0 false ro) (ruled_after false ro) ls) ≡ unheard ls
      go none e = refl
      go (some agent) e = unheard_any ls _ _ _ e
      go (some (rule side)) e = unheard_any ls _ _ _ refl

  -- so it is the same from the first line on that names who,
  pub unheard_from : (ls : List Line) → unheard ls ≡ unheard (from (line_names file who) ls)
  unfolding from
  unheard_from [] = refl
  unheard_from (l ∷ ls) = split (line_names file who l) (λ e. rw e) (λ e. rw e (unheard_line l ls e ∙ unheard_from ls))

  -- and nothing is heard where none does
  pub unheard_none : (ls : List Line) → any (line_names file who) ls ≡ false → unheard ls ≡ []
  unfolding rules_heard entries_from
  unheard_none ls e = unheard_from ls ∙ rw (from_none (line_names file who) ls e)
