-- The head of a line that begins with a name behind its spaces and tabs, or with an octet that is neither of these. Assumes nothing.
use Rattle.std.specs.Prelude.{Option, Some, None, option_map, if◌then◌else◌}
use Prim.Native.Nat.{ℕ, suc, ◌+◌, ◌-◌, ◌≤◌}
use mathlib.Core.Path.{◌≡◌, refl, sym, ap, ◌∙◌}
use mathlib.Core.Bool.{Bool, true, false, ◌&&◌}
use mathlib.Core.List.{List, [], ◌∷◌}
use native.Mathlib.Omega.{arith}
use lib.Dec.{leb}
use lib.ListN.{length, take, drop, get_or}
use lib.Seq.{drop-drop}
use borrow.Author.Tests.{lt-leb, leb-true, eqb-false}
use Rattle.lists.specs.Lists.{up_to, from, same}
use Rattle.lists.proofs.Bools.{split, and_left, and_right}
use Rattle.lists.proofs.Scans.{rest_of, drop_one, drop_up_to}
use Rattle.protocol.specs.declared.Place.{Place}
use Rattle.protocol.specs.declared.Side.{Side}
use Rattle.protocol.specs.Octets.{is, blank, line_end, upper, lower_case}
use Rattle.protocol.specs.Text.{octets, begins, same_ignoring_case, solid, lead}
use Rattle.protocol.specs.Lines.{place_at}
use Rattle.protocol.specs.Classes.{stop}
use Rattle.fields.specs.declared.Field.{Field}
use Rattle.fields.specs.Fields.{head_at, value_start, head_of}
use Rattle.fields.specs.Names.{name_length, begins_name, field_at}
use Rattle.fields.specs.Near.{near_value, agent_first, agent_value}
use Rattle.fields.proofs.Heads.{kept, field_begins, agent_told, no_name, field_known, head_other, head_some}
use Rattle.fields.proofs.Sorts.{colon_solid, plain, plain_same}

-- no space or tab stands in front
lead_none : (t : List ℕ) → blank (get_or t 0 0) ≡ false → lead t ≡ 0
unfolding lead up_to
lead_none [] e = refl
lead_none (x ∷ t) e = rw e

colon_lead : (t : List ℕ) → begins ":" t ≡ true → lead t ≡ 0
unfolding lead up_to begins
colon_lead [] e = refl
colon_lead (x ∷ t) e = rw (colon_solid x e)

name_lead : (y : ℕ) (v t : List ℕ) → plain y ≡ true → same_ignoring_case (take (suc (length v)) t) (y ∷ v) ≡ true → lead t ≡ 0
unfolding lead up_to same_ignoring_case same
name_lead y v [] p h = refl
name_lead y v (x ∷ t) p h = rw (plain_same x y (and_left _ _ h) p).blanks

pub known_lead : (f : Field) (t : List ℕ) → begins_name f t ≡ true → lead t ≡ 0
unfolding octets stop line_end blank
known_lead Field.Agent t = name_lead 117 (octets "ser-agent") t refl
known_lead (Field.Rule Side.Allow) t = name_lead 97 (octets "llow") t refl
known_lead (Field.Rule Side.Disallow) t = name_lead 100 (octets "isallow") t refl

-- where the value begins, by three octets
near_three : (k x y z : ℕ) (l : List ℕ)
    → near_value k (x ∷ y ∷ z ∷ l) ≡ (if is ":" x then (if blank y then (if blank z then None else Some (k + 2)) else Some (k + 1)) else None)
unfolding begins lead up_to
near_three k x y z l =
    split (is ":" x)
    (λ e.
    split (blank y)
    (λ p.
    split (blank z) (λ q. rw (e, p, q, lt-leb (suc (suc (lead l))) 1 (omega arith))) (λ q. rw (e, p, q) (ap Some (omega arith))))
    (λ p. rw (e, p) (ap Some (omega arith))))
    (λ e. rw e)

module _ (r : List ℕ) (k : ℕ) (h : k + 3 ≤ length r) where
  pub near_read : near_value k (drop k r)
      ≡ (if is ":" (get_or r k 0) then (if blank (get_or r (k + 1) 0) then (if blank (get_or r (k + 2) 0) then None else Some (k + 2)) else Some (k + 1)) else None)
  near_read =
      let next : k + 1 + 1 ≡ k + 2 = omega arith in
      rw (drop_one r k 0 (omega arith), drop_one r (k + 1) 0 (omega arith), next, drop_one r (k + 2) 0 (omega arith))
      (near_three k (get_or r k 0) (get_or r (k + 1) 0) (get_or r (k + 2) 0) (drop (k + 2 + 1) r))

-- a value that is near, at most two octets behind the colon's place
near_cases : (k v n : ℕ) (b : Bool) → Some v ≡ (if b then Some n else None) → (b ≡ true) × (v ≡ n)
near_cases k v n true e = (refl, cc)
near_cases k v n false e = absurd (cc)

near_told : (k v : ℕ) (l : List ℕ) → Some v ≡ near_value k l → ((begins ":" l && leb (lead (drop 1 l)) 1) ≡ true) × (v ≡ k + 1 + lead (drop 1 l))
near_told k v l e = near_cases k v (k + 1 + lead (drop 1 l)) (begins ":" l && leb (lead (drop 1 l)) 1) e

pub near_most : (k v : ℕ) (l : List ℕ) → Some v ≡ near_value k l → v ≤ k + 2
near_most k v l e =
    let t = near_told k v l e in
    omega (arith, t.1, leb-true (lead (drop 1 l)) 1 (and_right (begins ":" l) (leb (lead (drop 1 l)) 1) t.0))

-- the value of an agent line: none where the text doesn't begin with the agent's name, also by its first octet
no_value : (p : Place) (g : Field → Bool) (o : Option Field) → None ≡ agent_value (option_map (head_at p) o) → None ≡ agent_value (option_map (head_at p) (kept g o))
no_value p g None e = refl
no_value p g (Some f) e = split (g f) (λ b. rw b e) (λ b. rw b)

at_not_agent : (t : List ℕ) (p : Place) → begins_name Field.Agent t ≡ false → None ≡ agent_value (option_map (head_at p) (field_at t))
unfolding field_at
at_not_agent t p a =
    split (begins_name (Field.Rule Side.Disallow) t) (λ d. rw d) (λ d. split (begins_name (Field.Rule Side.Allow) t) (λ e. rw (d, e)) (λ e. rw (d, e, a)))

not_named : (t : List ℕ) → agent_first t ≡ false → begins_name Field.Agent t ≡ false
unfolding octets lower_case upper
not_named [] e = no_name [] Field.Agent (λ h. omega arith)
not_named (x ∷ t) e = no_name (x ∷ t) Field.Agent (eqb-false (lower_case x) 117 e)

module _ (r : List ℕ) where
  -- no field that is known
  pub near_other : None ≡ field_at r → lead r ≡ 0 → None ≡ head_of r
  near_other k o = head_other r 0 (sym o) (k ∙ ap field_at (sym (rest_of 0 r)))

  -- a known field of the text l behind the spaces and tabs in front; its value begins at m
  pub near_from : (start : ℕ) (l : List ℕ) (f : Field) (k v m : ℕ) → start ≡ lead r → l ≡ drop start r → Some f ≡ field_at l → k ≡ name_length f
      → Some v ≡ near_value k (drop k l) → m ≡ start + v → Some (record { field = f; value = place_at m }) ≡ head_of r
  near_from start l f k v m led part told size value moved =
      let found = near_told k v (drop k l) value in
      let here : drop k l ≡ drop (start + k) r = ap (drop k) part ∙ drop-drop k start r in
      let next : drop 1 (drop k l) ≡ drop (start + k + 1) r = ap (drop 1) here ∙ drop-drop 1 (start + k) r in
      let mark : begins ":" (drop k l) ≡ true = and_left (begins ":" (drop k l)) (leb (lead (drop 1 (drop k l))) 1) found.0 in
      let colon : start + k ≡ start + k + lead (take (length r - (start + k)) (drop (start + k) r)) =
      omega (arith, ap lead (rest_of (start + k) r), ap lead here, colon_lead (drop k l) mark) in
      let behind : m ≡ start + k + 1 + lead (take (length r - (start + k + 1)) (drop (start + k + 1) r)) =
      omega (arith, moved, found.1, ap lead next, ap lead (rest_of (start + k + 1) r)) in
      head_some r start led f (told ∙ ap field_at (part ∙ sym (rest_of start r))) (start + k) (start + k) (ap (λ (n : ℕ). start + n) size) colon m
      (ap (begins ":") (sym here) ∙ mark) behind

  pub near_head : (f : Field) (k v : ℕ) → Some f ≡ field_at r → k ≡ name_length f → Some v ≡ near_value k (drop k r)
      → Some (record { field = f; value = place_at v }) ≡ head_of r
  near_head f k v told size value =
      let named : begins_name f r ≡ true = rw (← told) at (field_begins r) in
      near_from 0 r f k v v (sym (known_lead f r named)) refl told size value (omega arith)

  -- an agent's value
  pub near_agent : (v : ℕ) → begins_name Field.Agent r ≡ true → Some v ≡ near_value 10 (drop 10 r) → Some (place_at v) ≡ agent_value (head_of r)
  unfolding octets
  near_agent v b e = ap agent_value (near_head Field.Agent 10 v (agent_told r b) refl e)

  -- that of a line that doesn't begin with the agent's name behind its spaces and tabs
  none_agent : begins_name Field.Agent (from solid r) ≡ false → None ≡ agent_value (head_of r)
  unfolding head_of
  none_agent a =
      let t : List ℕ = from solid r in
      rw (field_known r) (no_value (value_start r) (λ f. begins ":" (from solid (drop (name_length f) t))) (field_at t) (at_not_agent t (value_start r) a))

  -- with none of these in front,
  pub not_agent_head : begins_name Field.Agent r ≡ false → blank (get_or r 0 0) ≡ false → None ≡ agent_value (head_of r)
  unfolding lead
  not_agent_head a b =
      let start : from solid r ≡ r = sym (drop_up_to solid r) ∙ ap (λ (n : ℕ). drop n r) (lead_none r b) in
      none_agent (rw start a)

  -- or as its first octet behind them tells
  pub not_agent_first : (start : ℕ) → start ≡ lead r → agent_first (drop start r) ≡ false → None ≡ agent_value (head_of r)
  unfolding lead
  not_agent_first start s e = none_agent (not_named (from solid r) (rw (s, drop_up_to solid r) at e))
