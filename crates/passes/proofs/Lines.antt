-- A line of a file, where it stands, and the lines behind it. Assumes nothing.
use Prim.Native.Nat.{ℕ, ◌+◌, ◌-◌, ◌≤◌}
use mathlib.Core.Path.{◌≡◌, refl, sym, ap, ◌∙◌}
use mathlib.Core.Bool.{Bool, true, false, true≢false, false≢true, and-false}
use mathlib.Core.List.{List, [], ◌∷◌}
use native.Mathlib.Omega.{arith}
use lib.Dec.{eqb}
use lib.ListN.{length, take, drop, length-take}
use borrow.Author.Tests.{eqb-true}
use Rattle.lists.specs.Occurs.{Occurs}
use Rattle.lists.proofs.Bools.{split}
use Rattle.lists.proofs.Places.{occurs_drop, occurs_front_in, occurs_up_to}
use Rattle.protocol.specs.declared.Dialect.{Dialect}
use Rattle.protocol.specs.declared.Place.{Place}
use Rattle.protocol.specs.declared.Position.{Position}
use Rattle.protocol.specs.declared.Side.{Side}
use Rattle.protocol.specs.declared.Agent.{Agent}
use Rattle.protocol.specs.declared.Pattern.{Pattern}
use Rattle.protocol.specs.declared.Kind.{Kind}
use Rattle.protocol.specs.declared.Rule.{Rule}
use Rattle.protocol.specs.Octets.{line_end}
use Rattle.protocol.specs.Text.{octets_at}
use Rattle.protocol.specs.Lines.{line, line_number, place_at}
use Rattle.protocol.specs.Readable.{readable_pattern}
use Rattle.protocol.specs.Kinds.{kind_of, place_of, length_of, unreadable_kind}
use Rattle.protocol.specs.Entries.{agent, rule, role_of, place_in_file}
use Rattle.protocol.specs.Rules.{unreadable}
use Rattle.protocol.proofs.Values.{Says, kind_says, value_inside}
use Rattle.protocol.proofs.Inside.{value_in_file}
use Rattle.protocol.proofs.Unread.{unreadable_as, kind_unreadable}
use Rattle.lines.specs.Spans.{text_at}
use Rattle.lines.proofs.Forward.{text_inside}
use Rattle.kinds.specs.Entries.{entry_kind}
use Rattle.considering.specs.declared.Considered.{Considered}
use Rattle.considering.specs.Considering.{considered, considered_all, Room as Fits}
use Rattle.considering.proofs.Weighs.{empty_unreadable}
use Rattle.passes.specs.Steps.{Room}
use Rattle.passes.specs.Entries.{line_value, value_end, entry_at, rule_heard}

pub octets_most : (l : List ℕ) (p : Place) (n : ℕ) → length (octets_at l p n) ≤ n
unfolding octets_at
octets_most l p n = simp (length-take) (omega arith)

-- For a pass over a file, the kind of a line that is no agent or rule line is told as other.
-- the value of such a line is empty
pub entry_end : (p : Place) (k : Kind) → value_end p (entry_kind k) ≡ value_end p k
entry_end p Kind.Blank = refl
entry_end p Kind.Noise = refl
entry_end p Kind.Other = refl
entry_end p (Kind.Agent a) = refl
entry_end p (Kind.Rule side q) = refl

pub entry_role : (k : Kind) → role_of (entry_kind k) ≡ role_of k
unfolding role_of
entry_role Kind.Blank = refl
entry_role Kind.Noise = refl
entry_role Kind.Other = refl
entry_role (Kind.Agent a) = refl
entry_role (Kind.Rule side q) = refl

abbrev is_other : Kind → Bool
is_other Kind.Blank = false
is_other Kind.Noise = false
is_other Kind.Other = true
is_other (Kind.Agent a) = false
is_other (Kind.Rule side q) = false

-- that of an agent or rule line is as it is
pub entry_agent : (k : Kind) (a : Agent) → entry_kind k ≡ Kind.Agent a → k ≡ Kind.Agent a
entry_agent Kind.Blank a e = absurd (true≢false (ap is_other e))
entry_agent Kind.Noise a e = absurd (true≢false (ap is_other e))
entry_agent Kind.Other a e = absurd (true≢false (ap is_other e))
entry_agent (Kind.Agent b) a e = e
entry_agent (Kind.Rule side q) a e = e

pub entry_rule : (k : Kind) (side : Side) (q : Pattern) → entry_kind k ≡ Kind.Rule side q → k ≡ Kind.Rule side q
entry_rule Kind.Blank side q e = absurd (true≢false (ap is_other e))
entry_rule Kind.Noise side q e = absurd (true≢false (ap is_other e))
entry_rule Kind.Other side q e = absurd (true≢false (ap is_other e))
entry_rule (Kind.Agent a) side q e = e
entry_rule (Kind.Rule s r) side q e = e

module _ (file : List ℕ) (p : Place) (h : p.offset ≤ length file) where
  abbrev text : List ℕ
  text = text_at file p

  line_in_file : Occurs file p.offset text
  line_in_file = occurs_front_in file (drop p.offset file) text p.offset (occurs_drop file p.offset h) (occurs_up_to line_end (drop p.offset file))

  -- its value's octets in the file are those in the line
  value_known : line_value file p (kind_of text) ≡ octets_at text (place_of (kind_of text)) (length_of (kind_of text))
  value_known = value_in_file file (line (line_number 0) p text) line_in_file

  -- its kind says whether it is unreadable
  unread_known : unreadable_as (role_of (kind_of text)) (line_value file p (kind_of text)) ≡ unreadable_kind (kind_of text)
  unread_known = rw value_known (kind_unreadable text (kind_of text) (kind_says text))

  value_says : (k : Kind) → k ≡ kind_of text → Says text k
  value_says k e = rw e (kind_says text)

  module _ (k : Kind) (e : k ≡ entry_kind (kind_of text)) where
    pub value_end_inside : (value_end p k).offset ≤ p.offset + length text
    value_end_inside = omega (arith, ap (λ (q : Place). q.offset) (ap (value_end p) e ∙ entry_end p (kind_of text)), value_inside text)

    pub value_fits : (value_end p k).offset ≤ length file
    value_fits = omega (arith, value_end_inside, text_inside file p h)

    pub value_read : (end n : ℕ) → end ≡ (value_end p k).offset → n ≡ length_of k → take (end - (end - n)) (drop (end - n) file) ≡ line_value file p k
    unfolding octets_at place_in_file
    value_read end n s t =
        let size : end - (end - n) ≡ length_of k = omega (arith, s, t) in
        let start : end - n ≡ p.offset + (place_of k).offset = omega (arith, s, t) in
        rw (size, start) (split (eqb (length_of k) 0) (λ z. rw (eqb-true (length_of k) 0 z)) (λ z. rw z))

    pub agent_unread : (a : Agent) → k ≡ Kind.Agent a → unreadable agent (line_value file p (Kind.Agent a)) ≡ unreadable_kind (Kind.Agent a)
    unfolding role_of
    agent_unread a s = rw (entry_agent (kind_of text) a (sym e ∙ s)) at unread_known

    pub rule_unread : (side : Side) (pattern : Pattern) → k ≡ Kind.Rule side pattern
        → unreadable (rule side) (line_value file p (Kind.Rule side pattern)) ≡ unreadable_kind (Kind.Rule side pattern)
    unfolding role_of
    rule_unread side pattern s = rw (entry_rule (kind_of text) side pattern (sym e ∙ s)) at unread_known

-- whether a pattern is readable, as its line's kind says
abbrev is_readable : Pattern → Bool
is_readable Pattern.Empty = false
is_readable (Pattern.Readable p n) = true
is_readable (Pattern.Unreadable p n) = false

pattern_says : (line : List ℕ) (side : Side) (q : Pattern) → Says line (Kind.Rule side q)
    → readable_pattern (octets_at line (place_of (Kind.Rule side q)) (length_of (Kind.Rule side q))) ≡ is_readable q
unfolding octets_at
pattern_says line side Pattern.Empty h = empty_unreadable
pattern_says line side (Pattern.Readable p n) h = h.told
pattern_says line side (Pattern.Unreadable p n) h = h.0.told

-- past a `let .. else` that asks for a readable one
not_readable : (q : Pattern) → ((p : Place) (n : ℕ) → q ≡ Pattern.Readable p n → ⊥) → is_readable q ≡ false
not_readable Pattern.Empty h = refl
not_readable (Pattern.Readable p n) h = absurd (h p n refl)
not_readable (Pattern.Unreadable p n) h = refl

-- a rule line at a position, and the rule that is heard of it
module _ (file : List ℕ) (at : Position) (side : Side) (pattern : Pattern) (k : Kind.Rule side pattern ≡ kind_of (text_at file at.place)) (h : at.place.offset ≤ length file) (applies : Bool) where
  abbrev kind : Kind
  kind = Kind.Rule side pattern

  abbrev pub heard_here : List Rule
  heard_here = rule_heard file applies (rule side) (entry_at at kind (rule side))

  readable_known : readable_pattern (line_value file at.place kind) ≡ is_readable pattern
  readable_known =
      ap readable_pattern (rw (← k) at (value_known file at.place h))
      ∙ pattern_says (text_at file at.place) side pattern (value_says file at.place h kind k)

  -- none of a group that doesn't apply,
  pub unapplied_here : applies ≡ false → heard_here ≡ []
  unfolding rule_heard
  unapplied_here a = rw a

  -- and none with a pattern that isn't readable;
  pub unreadable_here : ((p : Place) (n : ℕ) → pattern ≡ Pattern.Readable p n → ⊥) → heard_here ≡ []
  unfolding rule_heard
  unreadable_here o = rw (readable_known, not_readable pattern o, and-false applies)

  -- otherwise that one
  module _ (p : Place) (n : ℕ) (g : pattern ≡ Pattern.Readable p n) where
    readable : readable_pattern (line_value file at.place (Kind.Rule side (Pattern.Readable p n))) ≡ true
    readable = rw g at readable_known

    some_octet : eqb n 0 ≡ false
    unfolding octets_at
    some_octet = split (eqb n 0) (λ z. absurd (false≢true (sym empty_unreadable ∙ (rw (eqb-true n 0 z) at readable)))) (λ z. z)

    pattern_ends : p.offset + n ≤ length (text_at file at.place)
    pattern_ends = let e : kind_of (text_at file at.place) ≡ Kind.Rule side (Pattern.Readable p n) = sym k ∙ ap (Kind.Rule side) g in rw e at (value_inside (text_at file at.place))

    pub pattern_inside : at.place.offset + p.offset + n ≤ length file
    pattern_inside = omega (arith, pattern_ends, text_inside file at.place h)

    abbrev start : ℕ
    start = at.place.offset + p.offset

    -- its pattern's octets, as they are read
    pub pattern_read : take (start + n - start) (drop start file) ≡ octets_at file (place_at start) n
    unfolding octets_at
    pattern_read = let e : start + n - start ≡ n = omega arith in rw e

    pub rule_here : applies ≡ true → heard_here ≡ record { line = at.number; side = side; place = place_at start; length = n } ∷ []
    unfolding rule_heard place_in_file
    rule_here a = rw (g, a, readable, some_octet)

-- and what it makes of what was considered
module _ (d : Dialect) (file path : List ℕ) (at : Position) (side : Side) (pattern : Pattern) (k : Kind.Rule side pattern ≡ kind_of (text_at file at.place)) (h : at.place.offset ≤ length file) (c : Considered) (applies : Bool) where
  abbrev After : Considered
  After = considered_all d file path c (heard_here file at side pattern k h applies)

  none_considered_lem : heard_here file at side pattern k h applies ≡ [] → c ≡ After
  unfolding considered_all
  none_considered_lem e = rw e

  pub rule_unheard : applies ≡ false → c ≡ After
  rule_unheard a = none_considered_lem (unapplied_here file at side pattern k h applies a)

  pub rule_not_readable : ((p : Place) (n : ℕ) → pattern ≡ Pattern.Readable p n → ⊥) → c ≡ After
  rule_not_readable o = none_considered_lem (unreadable_here file at side pattern k h applies o)

  module _ (p : Place) (n : ℕ) (g : pattern ≡ Pattern.Readable p n) where
    abbrev from : ℕ
    from = at.place.offset + p.offset

    pub pattern_room : (v : List ℕ) → v ≡ octets_at file (place_at from) n → (scratch : List ℕ) → Room file path scratch at.place c → Fits v path scratch c
    pattern_room v e scratch room =
        let size : length (octets_at file (place_at from) n) ≤ n = octets_most file (place_at from) n in
        let ends : from + n ≤ length file = pattern_inside file at side pattern k h applies p n g in
        rw e
        (record {
          short = room.short;
          lent = room.lent;
          size = omega (arith, size, ends, room.size);
          compared = omega (arith, size, ends, room.size, room.compared);
        })

    pub rule_heard_lem : applies ≡ true → (v : List ℕ) → v ≡ octets_at file (place_at from) n
        → considered d v path (record { line = at.number; side = side; place = place_at from; length = n }) c ≡ After
    unfolding considered_all
    rule_heard_lem a v e = rw (rule_here file at side pattern k h applies p n g a, e)
