-- By document 01's numbers of groups, the agent and rule lines of a group are all of one. Assumes nothing.
use Prim.Native.Nat.{ℕ}
use mathlib.Core.Path.{◌≡◌, refl, ◌∙◌}
use mathlib.Core.Bool.{Bool, true, false, false≢true}
use mathlib.Core.List.{List, [], ◌∷◌, map}
use mathlib.Core.Option.{some}
use Rattle.lists.specs.Each.{Each}
use Rattle.lists.specs.Lists.{all, from}
use Rattle.lists.proofs.Bools.{and_left, and_right}
use Rattle.protocol.specs.Lines.{Line, line_number, place_at, lines_from}
use Rattle.protocol.specs.Entries.{Role, agent, rule, Entry, group_at, ruled_after, entries_from}
use Rattle.protocol.proofs.Groups.{Grouped, entries_grouped}
use Rattle.exchange.specs.Exchange.{roles_in, is_agent, is_rule, opens, group_tests, Pass}
use Rattle.exchange.proofs.Groups.{group_opens}

abbrev roles_of : List Entry → List Role
roles_of es = map (λ e. e.role) es

-- the entries are of the first group
abbrev First : List Entry → Type 0
First es = Each (λ e. e.group ≡ 1) es

-- rule lines in it
rules_first : (ruled : Bool) (es : List Entry) → Grouped 1 ruled es → all is_rule (roles_of es) ≡ true → First es
unfolding all group_at
rules_first ruled [] h k = tt
rules_first ruled (e ∷ es) (g, h) k =
    let one : e.group ≡ 1 = g ∙ here e.role (and_left (is_rule e.role) (all is_rule (roles_of es)) k) in
    (one, rules_first (ruled_after ruled (some e.role)) es (rw one at h) (and_right (is_rule e.role) (all is_rule (roles_of es)) k))
  where
    here : (ro : Role) → is_rule ro ≡ true → group_at 1 ruled (some ro) ≡ 1
    here agent r = absurd (false≢true r)
    here (rule side) r = refl

-- an agent line that starts it or joins it, in front of others
agent_first_lem : (above : ℕ) → group_at above false (some agent) ≡ 1 → (e : Entry) (es : List Entry) → e.role ≡ agent → Grouped above false (e ∷ es)
    → all is_rule (from is_rule (roles_of (e ∷ es))) ≡ true
    → (Grouped 1 false es → all is_rule (from is_rule (roles_of es)) ≡ true → First es) → First (e ∷ es)
unfolding from ruled_after
agent_first_lem above one e es r h k on =
    let here : e.group ≡ 1 = h.0 ∙ rw (r, one) in (here, on (rw (here, r) at h.1) (rw r at k))

-- agent lines, and then rule lines
lines_first : (es : List Entry) → Grouped 1 false es → all is_rule (from is_rule (roles_of es)) ≡ true → First es
unfolding from group_at
lines_first [] h k = tt
lines_first (e ∷ es) h k = go e.role refl (lines_first es)
  where
    go : (ro : Role) → e.role ≡ ro → (Grouped 1 false es → all is_rule (from is_rule (roles_of es)) ≡ true → First es) → First (e ∷ es)
    go agent r on = agent_first_lem 1 refl e es r h k on
    go (rule side) r on = rules_first false (e ∷ es) h (rw r (rw r at k))

opening : (ro : Role) → is_agent ro ≡ true → ro ≡ agent
opening agent o = refl
opening (rule side) o = absurd (false≢true o)

-- The entries of a group have the number of one group.
pub group_one : (text : List ℕ) → Pass (group_tests text) → Each (λ e. e.group ≡ 1) (entries_from 0 false (lines_from (line_number 1) (place_at 0) 0 text))
unfolding roles_in group_at
group_one text (first, (ruled, (ordered, t))) =
    let ls : List Line = lines_from (line_number 1) (place_at 0) 0 text in
    go (entries_from 0 false ls) (entries_grouped 0 false ls) (group_opens text first) ordered
  where
    go : (es : List Entry) → Grouped 0 false es → opens (roles_of es) ≡ true → all is_rule (from is_rule (roles_of es)) ≡ true → First es
    go [] h o k = tt
    go (e ∷ es) h o k = agent_first_lem 0 refl e es (opening e.role o) h k (lines_first es)
