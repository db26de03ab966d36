-- Texts whose groups are apart: the first closes its last group, and the second opens a new one. Assumes nothing.
use Prim.Native.Nat.{ℕ}
use mathlib.Core.Path.{◌≡◌, refl, sym, ap, ◌∙◌}
use mathlib.Core.Bool.{Bool, true, false, ◌||◌, not, or-true, false≢true}
use native.Mathlib.Omega.{arith}
use lib.Dec.{eqb}
use Rattle.lists.specs.Each.{Each}
use Rattle.lists.proofs.Places.{occurs_drop}
use mathlib.Core.List.{List, [], ◌∷◌, ◌++◌, map, map-map}
use mathlib.Core.Option.{Option, none, some}
use Rattle.protocol.specs.Lines.{Line, line_number, place_at, lines_from}
use Rattle.protocol.specs.Kinds.{kind_of}
use Rattle.protocol.specs.Entries.{Role, agent, rule, role_of, group_at, ruled_after, entry_of, entries_from}
use Rattle.protocol.proofs.Appended.{above_behind, ruled_behind}
use Rattle.protocol.proofs.Said.{Said, entry_says, said, entries_say}
use Rattle.protocol.proofs.Inside.{InFile, lines_in}
use Rattle.protocol.proofs.Groups.{group_some, applies_after, joins_after, joins_behind, applies_behind, said_here, said_for, groups_append}
use Rattle.exchange.specs.Exchange.{roles_in, is_agent, is_rule, opens, closes}

-- the roles of what is said
abbrev pub roles : List Said → List Role
roles ss = map (λ s. s.role) ss

-- The agent and rule lines of a text, by what it says
pub roles_said : (text : List ℕ) → roles_in text ≡ roles (said text)
unfolding roles_in
roles_said text =
    let ls = lines_from (line_number 1) (place_at 0) 0 text in
    let es = entries_from 0 false ls in
    let inside : Each (InFile text) ls = lines_in text (line_number 1) (place_at 0) 0 text (occurs_drop text 0 (omega arith)) in
    sym (map-map (λ (s : Said). s.role) (entry_says text) es) ∙ ap roles (entries_say text 0 false ls inside)

-- what closes, behind a last agent or rule line that does or doesn't
closes_from : Bool → List Role → Bool
closes_from b [] = b
closes_from b (r ∷ rs) = closes_from (is_rule r) rs

closes_last : (b : Bool) (r : Role) (rs : List Role) → closes_from b (r ∷ rs) ≡ closes (r ∷ rs)
unfolding closes_from closes
closes_last b r [] = refl
closes_last b r (s ∷ rs) = closes_last (is_rule r) s rs

closes_from_lem : (rs : List Role) → closes_from true rs ≡ closes rs
unfolding closes_from closes
closes_from_lem [] = refl
closes_from_lem (r ∷ rs) = closes_last true r rs

-- behind what closes, no agent line joins
joins_behind_lem : (b : Bool) (ss : List Said) → joins_behind (not b) ss ≡ not (closes_from b (roles ss))
unfolding closes_from joins_behind
joins_behind_lem b [] = refl
joins_behind_lem b (s ∷ ss) = rw (joins_after_lem s.role) (joins_behind_lem (is_rule s.role) ss)
  where
    joins_after_lem : (ro : Role) → joins_after ro ≡ not (is_rule ro)
    joins_after_lem agent = refl
    joins_after_lem (rule side) = refl

closes_joins : (ss : List Said) → closes (roles ss) ≡ true → joins_behind false ss ≡ false
closes_joins ss h = joins_behind_lem true ss ∙ ap not (closes_from_lem (roles ss) ∙ h)

module _ (who : List ℕ) where
  -- the rules of what opens are its own, whatever is above
  opened : (applies : Bool) (ss : List Said) → opens (roles ss) ≡ true → said_for who applies false ss ≡ said_for who false false ss
  unfolding said_for said_here
  opened applies [] h = refl
  opened applies (s ∷ ss) h = go s.role h
    where
      go : (ro : Role) → is_agent ro ≡ true
          → said_here applies ro s.value ++ said_for who (applies_after who ro s.value applies false) (joins_after ro) ss
          ≡ said_here false ro s.value ++ said_for who (applies_after who ro s.value false false) (joins_after ro) ss
      go agent h = refl
      go (rule side) h = absurd (false≢true h)

  -- Where the first closes and the second opens, the rules of both are those of each.
  pub apart : (ss ts : List Said) → closes (roles ss) ≡ true → opens (roles ts) ≡ true
      → said_for who false false (ss ++ ts) ≡ said_for who false false ss ++ said_for who false false ts
  apart ss ts c o =
      groups_append who false false ss ts
      ∙ rw (closes_joins ss c) (ap (λ (l : List Said). said_for who false false ss ++ l) (opened (applies_behind who false false ss) ts o))

-- what opens, in front of what opens
pub opens_append : (ss ts : List Said) → opens (roles ss) ≡ true → opens (roles ts) ≡ true → opens (roles (ss ++ ts)) ≡ true
opens_append [] ts h k = k
opens_append (s ∷ ss) ts h k = h

-- an agent line here starts a new group
abbrev fresh : ℕ → Bool → Bool
fresh above ruled = eqb above 0 || ruled

lines_close : (above : ℕ) (ruled : Bool) (ls : List Line)
    → closes_from (fresh above ruled) (map (λ e. e.role) (entries_from above ruled ls)) ≡ fresh (above_behind above ruled ls) (ruled_behind ruled ls)
unfolding closes_from entries_from above_behind ruled_behind entry_of group_at ruled_after
lines_close above ruled [] = refl
lines_close above ruled (l ∷ ls) = go (role_of (kind_of l.text)) (λ g r. lines_close g r ls)
  where
    go : (ro : Option Role)
        → ((g : ℕ) (r : Bool) → closes_from (fresh g r) (map (λ e. e.role) (entries_from g r ls)) ≡ fresh (above_behind g r ls) (ruled_behind r ls))
        → closes_from (fresh above ruled) (map (λ e. e.role) (entry_of (group_at above ruled ro) l (kind_of l.text) ro ++ entries_from (group_at above ruled ro) (ruled_after ruled ro) ls))
        ≡ fresh (above_behind (group_at above ruled ro) (ruled_after ruled ro) ls) (ruled_behind (ruled_after ruled ro) ls)
    go none on = on above ruled
    go (some agent) on =
        let g = group_at above ruled (some agent) in
        let e : fresh g false ≡ false = rw (group_some above ruled) in
        ap (λ (b : Bool). closes_from b (map (λ e. e.role) (entries_from g false ls))) (sym e) ∙ on g false
    go (some (rule side)) on =
        ap (λ (b : Bool). closes_from b (map (λ e. e.role) (entries_from above true ls))) (sym (or-true (eqb above 0))) ∙ on above true

-- A text closes exactly where the agent line that follows it starts a new group.
pub closes_exactly : (text : List ℕ)
    → closes (roles_in text) ≡ (let ls = lines_from (line_number 1) (place_at 0) 0 text in eqb (above_behind 0 false ls) 0 || ruled_behind false ls)
unfolding roles_in
closes_exactly text =
    sym (closes_from_lem (roles_in text)) ∙ lines_close 0 false (lines_from (line_number 1) (place_at 0) 0 text)
