-- The head of a line, from the places that the code finds. Assumes nothing.
use denote.Bor.{Bor}
use Rattle.std.specs.Option.{option_eq}
use Rattle.std.specs.List.{HoldsAt}
use Rattle.std.specs.Prelude.{Option, Some, None, option_map, MatchOption, if◌then◌else◌}
use Prim.Native.Nat.{ℕ, ◌+◌, ◌-◌, ◌≤◌, ◌<◌}
use mathlib.Core.Path.{◌≡◌, refl, sym, ap, subst, ◌∙◌}
use mathlib.Core.Bool.{Bool, true, false, ◌&&◌, true≢false, false≢true}
use mathlib.Core.List.{List}
use native.Mathlib.Omega.{arith}
use lib.Dec.{eqb, ltb}
use lib.ListN.{length, take, drop, get_or, length-append, length-drop, drop_of_length-le}
use lib.Seq.{drop-drop}
use borrow.Author.Tests.{ltb-true, ltb-false}
use Rattle.lists.specs.Lists.{empty, all, any, up_to, from}
use Rattle.lists.proofs.Bools.{split}
use Rattle.lists.proofs.Parts.{up_to_from}
use Rattle.lists.proofs.Scans.{rest_of, drop_one, drop_up_to, up_to_fits}
use Rattle.protocol.specs.declared.Place.{Place}
use Rattle.protocol.specs.declared.Side.{Side}
use Rattle.protocol.specs.declared.Kind.{Kind}
use Rattle.protocol.specs.Octets.{is, blank, line_end, upper, lower_case}
use Rattle.protocol.specs.Text.{octets, begins, same_ignoring_case, solid, lead, trim}
use Rattle.protocol.specs.Lines.{place_at, line_text}
use Rattle.protocol.specs.Kinds.{is_field, field_kind, kind_of}
use Rattle.text.proofs.Comparing.{case_short}
use Rattle.text.proofs.Trims.{trim_fits}
use Rattle.fields.specs.declared.Field.{Field}
use Rattle.fields.specs.declared.Head.{Head}
use Rattle.protocol.specs.Classes.{stop}
use Rattle.fields.specs.Fields.{field_of, value_start, head_at, head_of, value_at, kind_as}
use Rattle.fields.specs.Names.{name_of, name_length, begins_name, field_at}
use Rattle.lists.proofs.Cuts.{up_to_either, up_to_first, up_to_past}
use Rattle.fields.proofs.Naming.{begun, begun_place, begun_told, not_first, one_name}
use Rattle.fields.proofs.Reading.{kind_idle, kind_colon, start_inside, value_within}
use Rattle.fields.proofs.Sorts.{colon_solid, plain}

-- the first of the three that is so
abbrev found : Bool → Bool → Bool → Option Field
found a b c = if a then Some Field.Agent else if b then Some (Field.Rule Side.Allow) else if c then Some (Field.Rule Side.Disallow) else None

-- the same from the last to the first, as the code asks
abbrev chosen : Bool → Bool → Bool → Option Field
chosen a b c = if c then Some (Field.Rule Side.Disallow) else if b then Some (Field.Rule Side.Allow) else if a then Some Field.Agent else None

-- a field that passes a further test
abbrev pub kept : (Field → Bool) → Option Field → Option Field
kept g None = None
kept g (Some f) = if g f then Some f else None

-- where at most one is so, and a further test is passed by it or not
found_kept : (g : Field → Bool) (a b c : Bool) → (a ≡ true → b ≡ false) → (a ≡ true → c ≡ false) → (b ≡ true → c ≡ false)
    → found (a && g Field.Agent) (b && g (Field.Rule Side.Allow)) (c && g (Field.Rule Side.Disallow)) ≡ kept g (chosen a b c)
found_kept g true true c h i j = absurd (true≢false (h refl))
found_kept g true false true h i j = absurd (true≢false (i refl))
found_kept g true false false h i j = refl
found_kept g false true true h i j = absurd (true≢false (j refl))
found_kept g false true false h i j = refl
found_kept g false false true h i j = refl
found_kept g false false false h i j = refl

-- the names hold no colon, stop, space or tab
names_plain : (f : Field) → all plain (octets (name_of f)) ≡ true
unfolding octets all stop line_end blank
names_plain Field.Agent = refl
names_plain (Field.Rule Side.Allow) = refl
names_plain (Field.Rule Side.Disallow) = refl

-- a text begins with one of them at most, and with the one that its field is said to be
module _ (t : List ℕ) where
  agent_allow : begins_name Field.Agent t ≡ true → begins_name (Field.Rule Side.Allow) t ≡ false
  unfolding octets lower_case upper
  agent_allow = one_name 117 97 (octets "ser-agent") (octets "llow") t (λ e. omega arith)

  agent_disallow : begins_name Field.Agent t ≡ true → begins_name (Field.Rule Side.Disallow) t ≡ false
  unfolding octets lower_case upper
  agent_disallow = one_name 117 100 (octets "ser-agent") (octets "isallow") t (λ e. omega arith)

  allow_disallow : begins_name (Field.Rule Side.Allow) t ≡ true → begins_name (Field.Rule Side.Disallow) t ≡ false
  unfolding octets lower_case upper
  allow_disallow = one_name 97 100 (octets "llow") (octets "isallow") t (λ e. omega arith)

  pub field_begins : MatchOption (field_at t) (Unit {0}) (λ f. begins_name f t ≡ true)
  unfolding field_at
  field_begins =
      split (begins_name (Field.Rule Side.Disallow) t) (λ c. rw c c)
      (λ c.
      split (begins_name (Field.Rule Side.Allow) t) (λ b. rw (c, b) b)
      (λ b. split (begins_name Field.Agent t) (λ a. rw (c, b, a) a) (λ a. rw (c, b, a) tt)))

  pub agent_told : begins_name Field.Agent t ≡ true → Some Field.Agent ≡ field_at t
  unfolding field_at
  agent_told e = rw (agent_disallow e, agent_allow e, e)

  -- it doesn't begin with one of them, by its first octet
  pub no_name : (f : Field) → (lower_case (get_or t 0 0) ≡ get_or (octets (name_of f)) 0 0 → ⊥) → begins_name f t ≡ false
  unfolding octets lower_case upper
  no_name Field.Agent = not_first 117 (octets "ser-agent") t
  no_name (Field.Rule Side.Allow) = not_first 97 (octets "llow") t
  no_name (Field.Rule Side.Disallow) = not_first 100 (octets "isallow") t

name_fits : (w t : List ℕ) → same_ignoring_case (take (length w) t) w ≡ true → length w ≤ length t
name_fits w t h =
    split (ltb (length t) (length w)) (λ e. absurd (false≢true (case_short t w (ltb-true (length t) (length w) e) ∙ h)))
    (λ e. ltb-false (length t) (length w) e)

field_kind_of : (field v : List ℕ) (p : Place) → field_of (field_kind field p v) ≡ found (is_field "user-agent" field) (is_field "allow" field) (is_field "disallow" field)
unfolding field_kind
field_kind_of field v p =
    split (is_field "user-agent" field) (λ a. rw a)
    (λ a. split (is_field "allow" field) (λ b. rw (a, b)) (λ b. split (is_field "disallow" field) (λ c. rw (a, b, c)) (λ c. rw (a, b, c))))

idle_field : (b : Bool) → field_of (if b then Kind.Blank else Kind.Noise) ≡ None
idle_field true = refl
idle_field false = refl

module _ (r : List ℕ) where
  -- a line without a colon has no field that is known
  no_colon : any (is ":") (up_to stop r) ≡ false → field_of (kind_of (line_text r)) ≡ None
  no_colon e = ap field_of (kind_idle r e) ∙ idle_field (empty (trim (up_to stop r)))

  begun_field : (f : Field) → begun (octets (name_of f)) (from solid r) ≡ (any (is ":") (up_to stop r) && is_field (name_of f) (trim (up_to (is ":") r)))
  begun_field f = begun_told (octets (name_of f)) r (names_plain f)

  field_read : field_of (kind_of (line_text r))
      ≡ found (begun (octets "user-agent") (from solid r)) (begun (octets "allow") (from solid r)) (begun (octets "disallow") (from solid r))
  field_read =
      rw (begun_field Field.Agent, begun_field (Field.Rule Side.Allow), begun_field (Field.Rule Side.Disallow))
      (split (any (is ":") (up_to stop r))
      (λ e. rw e (ap field_of (kind_colon r e) ∙ field_kind_of (trim (up_to (is ":") r)) (value_at (value_start r) r) (value_start r)))
      (λ e. rw e (no_colon e)))

  -- The field of a line is that whose name it begins with, if a colon follows.
  pub field_known : field_of (kind_of (line_text r))
      ≡ kept (λ f. begins ":" (from solid (drop (name_length f) (from solid r)))) (field_at (from solid r))
  unfolding field_at
  field_known =
      let t : List ℕ = from solid r in
      field_read
      ∙ found_kept (λ f. begins ":" (from solid (drop (name_length f) t))) (begins_name Field.Agent t) (begins_name (Field.Rule Side.Allow) t) (begins_name (Field.Rule Side.Disallow) t)
      (agent_allow t) (agent_disallow t) (allow_disallow t)

  -- the first colon, from the first octet that is neither space nor tab on
  colon_past : length (up_to (is ":") r) ≡ lead r + length (up_to (is ":") (from solid r))
  unfolding lead
  colon_past =
      let e : List ℕ = up_to (is ":") r in
      omega (
        arith,
        ap length (up_to_past (is ":") solid colon_solid r),
        ap length (up_to_first (is ":") solid colon_solid r),
        ap length (up_to_from solid e),
        length-append (up_to solid e) (from solid e),
      )

-- a colon at a place, or none
pub colon_here : (r : List ℕ) (n : ℕ) → n < length r → begins ":" (drop n r) ≡ is ":" (get_or r n 0)
unfolding begins
colon_here r n h = rw (drop_one r n 0 h)

pub colon_end : (r : List ℕ) (n : ℕ) → length r ≤ n → begins ":" (drop n r) ≡ false
unfolding begins
colon_end r n h = rw (drop_of_length-le r h)

pub colon_got : (r : List ℕ) (n : ℕ) (o : Option (Bor ℕ)) (y : Bor ℕ) → MatchOption o (length r ≤ n) (λ x. (n < length r) × HoldsAt (λ z. x.now ≡ z) r n) → y.now ≡ 58
    → option_eq (λ x z. eqb x.now z.now) o (Some y) ≡ begins ":" (drop n r)
colon_got r n None y m e = sym (colon_end r n m)
colon_got r n (Some x) y m e = rw (e, m.1 0) (sym (colon_here r n m.0))

pub colon_below : (r : List ℕ) (n : ℕ) → begins ":" (drop n r) ≡ true → n < length r
colon_below r n h =
    split (ltb n (length r)) (ltb-true n (length r))
    (λ e. absurd (false≢true (sym (colon_end r n (ltb-false n (length r) e)) ∙ h)))

-- the spaces and tabs from a place on lie inside the text
pub lead_inside : (r : List ℕ) (n : ℕ) → n ≤ length r → n + lead (take (length r - n) (drop n r)) ≤ length r
lead_inside r n h = omega (arith, trim_fits (drop n r), length-drop n r, ap lead (rest_of n r))

-- a line from its first octet that is neither space nor tab on
pub past_start : (r : List ℕ) (start : ℕ) → start ≡ lead r → take (length r - start) (drop start r) ≡ from solid r
unfolding lead
past_start r start s = rest_of start r ∙ ap (λ (n : ℕ). drop n r) s ∙ drop_up_to solid r

module _ (r : List ℕ) (start : ℕ) (s : start ≡ lead r) where
  pub head_other : None ≡ field_at (take (length r - start) (drop start r)) → None ≡ head_of r
  unfolding head_of
  head_other k = rw (field_known r, ← (k ∙ ap field_at (past_start r start s)))

  module _ (f : Field) (k : Some f ≡ field_at (take (length r - start) (drop start r))) where
    field_told : Some f ≡ field_at (from solid r)
    field_told = k ∙ ap field_at (past_start r start s)

    begins_told : begins_name f (from solid r) ≡ true
    begins_told = rw (← field_told) at (field_begins (from solid r))

    pub name_inside : start + name_length f ≤ length r
    unfolding lead
    name_inside =
        omega (
          arith,
          s,
          name_fits (octets (name_of f)) (from solid r) begins_told,
          ap length (drop_up_to solid r),
          length-drop (length (up_to solid r)) r,
          up_to_fits solid r,
        )

    module _ (after colon : ℕ) (a : after ≡ start + name_length f) (c : colon ≡ after + lead (take (length r - after) (drop after r))) where
      after_told : drop after r ≡ drop (name_length f) (from solid r)
      unfolding lead
      after_told = ap (λ (n : ℕ). drop n r) a ∙ sym (drop-drop (name_length f) start r) ∙ ap (drop (name_length f)) (ap (λ (n : ℕ). drop n r) s ∙ drop_up_to solid r)

      colon_told : colon ≡ after + lead (drop after r)
      colon_told = c ∙ ap (λ (l : List ℕ). after + lead l) (rest_of after r)

      pub colon_inside : colon ≤ length r
      unfolding lead
      colon_inside = omega (arith, colon_told, a, name_inside, up_to_fits solid (drop after r), length-drop after r)

      colon_rest : drop colon r ≡ from solid (drop (name_length f) (from solid r))
      unfolding lead
      colon_rest =
          ap (λ (n : ℕ). drop n r) colon_told
          ∙ sym (drop-drop (length (up_to solid (drop after r))) after r)
          ∙ drop_up_to solid (drop after r)
          ∙ ap (from solid) after_told

      head_by : (b : Bool) → begins ":" (drop colon r) ≡ b → option_map (head_at (value_start r)) (if b then Some f else None) ≡ head_of r
      unfolding head_of
      head_by b e =
          let seen : begins ":" (from solid (drop (name_length f) (from solid r))) ≡ b = ap (begins ":") (sym colon_rest) ∙ e in
          rw (field_known r, ← field_told, seen)

      pub head_none : begins ":" (drop colon r) ≡ false → None ≡ head_of r
      head_none e = head_by false e

      start_found : begins ":" (drop colon r) ≡ true → colon ≡ length (up_to (is ":") r)
      start_found e =
          let t : List ℕ = from solid r in
          let both : begun (octets (name_of f)) t ≡ true = rw begins_told (ap (begins ":") (sym colon_rest) ∙ e) in
          omega (arith, colon_told, a, s, colon_past r, begun_place (octets (name_of f)) t (names_plain f) both, ap lead after_told)

      pub head_some : (value : ℕ) → begins ":" (drop colon r) ≡ true
          → value ≡ colon + 1 + lead (take (length r - (colon + 1)) (drop (colon + 1) r)) → Some (record { field = f; value = place_at value }) ≡ head_of r
      unfolding value_start
      head_some value e v =
          let start-value : place_at value ≡ value_start r = ap place_at (v ∙ rw (rest_of (colon + 1) r, start_found e)) in
          rw start-value (head_by true e)

-- the kind of a line with that field: k without one that is known
abbrev kind_by : Option Field → Place → List ℕ → Kind → Kind
kind_by None p v k = k
kind_by (Some f) p v k = kind_as f p v

as_field : (field v : List ℕ) (p : Place) → kind_by (field_of (field_kind field p v)) p v Kind.Other ≡ field_kind field p v
unfolding field_kind
as_field field v p =
    split (is_field "user-agent" field) (λ a. rw a)
    (λ a. split (is_field "allow" field) (λ b. rw (a, b)) (λ b. split (is_field "disallow" field) (λ c. rw (a, b, c)) (λ c. rw (a, b, c))))

as_known : (o : Option Field) (p : Place) (v : List ℕ) (k : Kind) → kind_by o p v Kind.Other ≡ k → kind_by o p v k ≡ k
as_known None p v k h = refl
as_known (Some f) p v k h = h

-- a head that is told
told_head : (p : Place) (o : Option Field) (h : Head) → Some h ≡ option_map (head_at p) o → (o ≡ Some h.field) × (p ≡ h.value)
told_head p None h e = absurd (cc)
told_head p (Some f) h e = let k : h ≡ head_at p f = cc in (ap (λ (g : Head). Some g.field) (sym k), ap (λ (g : Head). g.value) (sym k))

told_none : (p : Place) (o : Option Field) → None ≡ option_map (head_at p) o → o ≡ None
told_none p None e = refl
told_none p (Some f) e = absurd (cc)

module _ (r : List ℕ) where
  kind_other_by : any (is ":") (up_to stop r) ≡ true → kind_by (field_of (kind_of (line_text r))) (value_start r) (value_at (value_start r) r) Kind.Other ≡ kind_of (line_text r)
  kind_other_by e = rw (kind_colon r e) (as_field (trim (up_to (is ":") r)) (value_at (value_start r) r) (value_start r))

  -- a line with a colon and no field that is known
  pub kind_other : any (is ":") (up_to stop r) ≡ true → field_of (kind_of (line_text r)) ≡ None → Kind.Other ≡ kind_of (line_text r)
  kind_other e o = rw o at (kind_other_by e)

  kind_by_lem : kind_by (field_of (kind_of (line_text r))) (value_start r) (value_at (value_start r) r) (kind_of (line_text r)) ≡ kind_of (line_text r)
  kind_by_lem =
      split (any (is ":") (up_to stop r))
      (λ e. as_known (field_of (kind_of (line_text r))) (value_start r) (value_at (value_start r) r) (kind_of (line_text r)) (kind_other_by e))
      (λ e.
      subst (λ (o : Option Field). kind_by o (value_start r) (value_at (value_start r) r) (kind_of (line_text r)) ≡ kind_of (line_text r)) (sym (no_colon r e)) refl)

  -- a line without a head has no field that is known
  pub no_field : None ≡ head_of r → field_of (kind_of (line_text r)) ≡ None
  unfolding head_of
  no_field e = told_none (value_start r) (field_of (kind_of (line_text r))) e

  module _ (h : Head) (e : Some h ≡ head_of r) where
    told : (field_of (kind_of (line_text r)) ≡ Some h.field) × (value_start r ≡ h.value)
    unfolding head_of
    told = told_head (value_start r) (field_of (kind_of (line_text r))) h e

    -- The head's field is that of the line's kind.
    pub head_field : field_of (kind_of (line_text r)) ≡ Some h.field
    head_field = told.0

    has_colon : any (is ":") (up_to stop r) ≡ true
    has_colon = split (any (is ":") (up_to stop r)) (λ d. d) (λ d. let n : None ≡ Some h.field = sym (no_colon r d) ∙ head_field in absurd (cc))

    -- The value that a head tells begins inside the file.
    pub head_inside : h.value.offset ≤ length r
    head_inside = rw (← told.1) (start_inside r has_colon)

    -- That value ends inside the line.
    pub head_within : h.value.offset + length (value_at h.value r) ≤ length (line_text r)
    unfolding stop
    head_within =
        rw (← told.1) (omega (arith, value_within r has_colon, ap length (up_to_either (is "#") line_end r), up_to_fits (is "#") (line_text r)))

    -- The kind of a line, by its head.
    pub kind_head : kind_as h.field h.value (value_at h.value r) ≡ kind_of (line_text r)
    kind_head = rw (told.0, told.1) at kind_by_lem
