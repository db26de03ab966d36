-- A line that is no agent line, told by its first octet or by its head, and one that has no known field, told by its first octet; where what is
-- examined of a line ends. Assumes nothing.
use Rattle.std.specs.Prelude.{Option, Some, None}
use Prim.Native.Nat.{ℕ, ◌≤◌}
use mathlib.Core.Path.{◌≡◌, refl, sym, ap, ◌∙◌}
use mathlib.Core.Bool.{Bool, true, false, false≢true}
use mathlib.Core.List.{List, ◌∷◌}
use mathlib.Core.Option.{none}
use native.Mathlib.Omega.{arith}
use lib.ListN.{length, drop}
use Rattle.lists.specs.Lists.{from}
use Rattle.lists.proofs.Bools.{split}
use Rattle.lists.proofs.Parts.{from_stop}
use Rattle.protocol.specs.declared.Kind.{Kind}
use Rattle.protocol.specs.declared.Place.{Place}
use Rattle.protocol.specs.declared.Side.{Side}
use Rattle.protocol.specs.Octets.{is, blank, lower_case}
use Rattle.protocol.specs.Text.{octets, begins, solid}
use Rattle.protocol.specs.Lines.{line_text}
use Rattle.protocol.specs.Kinds.{agent_at, kind_of}
use Rattle.protocol.specs.Entries.{role_of}
use Rattle.lines.specs.Skips.{agent_octet, entry_octet}
use Rattle.fields.specs.declared.Field.{Field}
use Rattle.fields.specs.declared.Head.{Head}
use Rattle.kinds.specs.Entries.{examined, entry_told}
use Rattle.fields.specs.Near.{agent_start, agent_value}
use Rattle.fields.specs.Fields.{field_of, head_of, value_at}
use Rattle.fields.specs.Names.{name_length, begins_name, field_at}
use Rattle.fields.proofs.Heads.{kept, no_field, head_field, head_inside, head_within, kind_head, no_name, field_known}
use Rattle.passes.specs.Entries.{role_names}

-- the field of an agent line
abbrev pub is_agent : Option Field → Bool
is_agent None = false
is_agent (Some Field.Agent) = true
is_agent (Some (Field.Rule side)) = false

not_agent_first : (t : List ℕ) → begins_name Field.Agent t ≡ false → is_agent (field_at t) ≡ false
unfolding field_at
not_agent_first t h =
    split (begins_name (Field.Rule Side.Disallow) t) (λ d. rw d) (λ d. split (begins_name (Field.Rule Side.Allow) t) (λ a. rw (d, a)) (λ a. rw (d, a, h)))

-- such a line names nobody
pub no_agent_named : (who v : List ℕ) (k : Kind) → is_agent (field_of k) ≡ false → role_names who v (role_of k) ≡ false
unfolding role_of
no_agent_named who v Kind.Blank h = refl
no_agent_named who v Kind.Noise h = refl
no_agent_named who v Kind.Other h = refl
no_agent_named who v (Kind.Agent a) h = absurd (false≢true (sym h))
no_agent_named who v (Kind.Rule side p) h = refl

-- what no agent line begins with
module _ (c : ℕ) (h : agent_octet c ≡ false) where
  not_blank : blank c ≡ false
  unfolding agent_octet
  not_blank = split (blank c) (λ e. absurd (false≢true (sym h ∙ rw e))) (λ e. e)

  not_u : is "u" (lower_case c) ≡ false
  unfolding agent_octet
  not_u = rw not_blank at h

-- a line's field, told by its first octet where that is neither space nor tab
module _ (c : ℕ) (l : List ℕ) (b : blank c ≡ false) where
  abbrev colon : Field → Bool
  colon f = begins ":" (from solid (drop (name_length f) (c ∷ l)))

  field_first : field_of (kind_of (line_text (c ∷ l))) ≡ kept colon (field_at (c ∷ l))
  field_first = let s : solid c ≡ true = rw b in rw (from_stop solid c l s) at (field_known (c ∷ l))

-- A line that begins with no space, tab or "u" is no agent line;
pub first_no_agent : (c : ℕ) (l : List ℕ) → agent_octet c ≡ false → is_agent (field_of (kind_of (line_text (c ∷ l)))) ≡ false
unfolding octets
first_no_agent c l h = let b = not_blank c h in rw (field_first c l b) (go (colon c l b) (field_at (c ∷ l)) other)
  where
    other : is_agent (field_at (c ∷ l)) ≡ false
    other = not_agent_first (c ∷ l) (no_name (c ∷ l) Field.Agent (λ e. absurd (false≢true (sym (not_u c h) ∙ rw e))))

    go : (g : Field → Bool) (o : Option Field) → is_agent o ≡ false → is_agent (kept g o) ≡ false
    go g None e = refl
    go g (Some f) e = split (g f) (λ d. rw d e) (λ d. rw d)

-- what no agent or rule line begins with
module _ (c : ℕ) (h : entry_octet c ≡ false) where
  not_a : is "a" (lower_case c) ≡ false
  unfolding entry_octet
  not_a = split (is "a" (lower_case c)) (λ e. absurd (false≢true (sym h ∙ rw e))) (λ e. e)

  not_d : is "d" (lower_case c) ≡ false
  unfolding entry_octet
  not_d = split (is "d" (lower_case c)) (λ e. absurd (false≢true (sym h ∙ rw (not_a, e)))) (λ e. e)

  no_agent_octet : agent_octet c ≡ false
  unfolding entry_octet
  no_agent_octet = rw (not_a, not_d) at h

  no_field_at : (l : List ℕ) → field_at (c ∷ l) ≡ None
  unfolding field_at octets
  no_field_at l =
      let d = no_name (c ∷ l) (Field.Rule Side.Disallow) (λ e. absurd (false≢true (sym not_d ∙ rw e))) in
      let a = no_name (c ∷ l) (Field.Rule Side.Allow) (λ e. absurd (false≢true (sym not_a ∙ rw e))) in
      let u = no_name (c ∷ l) Field.Agent (λ e. absurd (false≢true (sym (not_u c no_agent_octet) ∙ rw e))) in
      rw (d, a, u)

no_role : (k : Kind) → field_of k ≡ None → role_of k ≡ none
unfolding role_of
no_role Kind.Blank h = refl
no_role Kind.Noise h = refl
no_role Kind.Other h = refl
no_role (Kind.Agent a) h = absurd (cc)
no_role (Kind.Rule side p) h = absurd (cc)

-- and one that begins with none of "a" and "d" either has no entry.
pub first_idle : (c : ℕ) (l : List ℕ) → entry_octet c ≡ false → role_of (kind_of (line_text (c ∷ l))) ≡ none
first_idle c l h = let b = not_blank c (no_agent_octet c h) in no_role _ (field_first c l b ∙ ap (kept (colon c l b)) (no_field_at c h l))

-- a line whose head isn't that of an agent line
module _ (rest : List ℕ) where
  pub head_no_agent : None ≡ agent_value (head_of rest) → is_agent (field_of (kind_of (line_text rest))) ≡ false
  head_no_agent e = go (head_of rest) e refl
    where
      rule : (f : Field) (p : Place) → None ≡ agent_start p f → is_agent (Some f) ≡ false
      rule Field.Agent p e = absurd (cc)
      rule (Field.Rule side) p e = refl

      go : (o : Option Head) → None ≡ agent_value o → o ≡ head_of rest → is_agent (field_of (kind_of (line_text rest))) ≡ false
      go None e k = rw (no_field rest k)
      go (Some h) e k = rw (head_field rest h k) (rule h.field h.value e)

  -- the value of an agent line begins inside of it, and tells its kind
  module _ (value : Place) (e : Some value ≡ agent_value (head_of rest)) where
    agent_told : Some (record { field = Field.Agent; value = value }) ≡ head_of rest
    agent_told = go (head_of rest) e
      where
        agent : (f : Field) (p : Place) → Some value ≡ agent_start p f → ◌≡◌ {A = Option Head} (Some (record { field = Field.Agent; value = value })) (Some (record { field = f; value = p }))
        agent Field.Agent p d = let k : value ≡ p = cc in rw k
        agent (Field.Rule side) p d = absurd (cc)

        go : (o : Option Head) → Some value ≡ agent_value o → Some (record { field = Field.Agent; value = value }) ≡ o
        go None d = absurd (cc)
        go (Some h) d = agent h.field h.value d

    pub agent_inside : value.offset ≤ length rest
    agent_inside = head_inside rest _ agent_told

    pub agent_kind : Kind.Agent (agent_at value (value_at value rest)) ≡ kind_of (line_text rest)
    agent_kind = kind_head rest _ agent_told

-- what is examined of a line ends inside of it
pub entry_within : (l : List ℕ) → (entry_told l).end.offset ≤ length (line_text l)
entry_within l = go (head_of l) refl
  where
    go : (o : Option Head) → o ≡ head_of l → (examined o l).offset ≤ length (line_text l)
    go None e = omega arith
    go (Some h) e = head_within l h e
