-- One turn of a pass over the lines of a file: what the line there makes of what is known, and the lines behind it. Assumes nothing.
use Rattle.std.specs.Prelude.{if◌then◌else◌}
use Prim.Native.Nat.{ℕ, ◌+◌, ◌*◌, ◌≤◌, ◌<◌}
use mathlib.Core.Path.{◌≡◌, refl, sym, ap, ap₂, ◌∙◌}
use mathlib.Core.Bool.{Bool, true, false, ◌&&◌, ◌||◌, false≢true}
use mathlib.Core.List.{List, ◌∷◌, ◌++◌}
use mathlib.Core.Option.{none}
use native.Mathlib.Omega.{arith}
use lib.Dec.{ltb}
use lib.ListN.{length, drop}
use borrow.Author.Tests.{ltb-true, ltb-false, not-true}
use Rattle.lists.specs.Lists.{any, from}
use Rattle.lists.proofs.Bools.{split, or_right, one_at_most}
use Rattle.protocol.specs.declared.Dialect.{Dialect}
use Rattle.protocol.specs.declared.LineNumber.{LineNumber}
use Rattle.protocol.specs.declared.Place.{Place}
use Rattle.protocol.specs.declared.Position.{Position}
use Rattle.protocol.specs.declared.Side.{Side}
use Rattle.protocol.specs.declared.Agent.{Agent}
use Rattle.protocol.specs.declared.Pattern.{Pattern}
use Rattle.protocol.specs.declared.Kind.{Kind}
use Rattle.protocol.specs.declared.Rule.{Rule}
use Rattle.protocol.specs.declared.Audience.{Audience}
use Rattle.protocol.specs.Lines.{Line, line, line_number, place_at, place_after, number_after, line_text, lines_from, lines_of}
use Rattle.protocol.specs.Readable.{readable_pattern}
use Rattle.protocol.specs.Kinds.{kind_of, place_of, length_of, unreadable_kind}
use Rattle.protocol.specs.Entries.{agent, rule, Entry, role_of, group_at, ruled_after, entry_of, entries_from, entries}
use Rattle.protocol.specs.Rules.{value_of, rule_of, unreadable}
use Rattle.protocol.proofs.FrontToBack.{lines_at, lines_next, lines_end, lines_all}
use Rattle.lines.specs.Spans.{text_at, next_at}
use Rattle.lines.specs.Skips.{agent_octet, endings, between, next_agent, PassedOver}
use Rattle.kinds.specs.Entries.{entry_kind}
use Rattle.lines.proofs.Forward.{next_further, next_mid, text_inside, text_next}
use Rattle.lines.proofs.Passing.{past_on, past_inside, past_further, past_few, Unasked, agents_on, agents_further}
use Rattle.lines.proofs.Skips.{none_between}
use Rattle.considering.specs.declared.Considered.{Considered}
use Rattle.considering.specs.Considering.{none_considered, considered_all}
use Rattle.hearing.specs.declared.Hearing.{Hearing}
use Rattle.considering.proofs.Rooms.{considered_most}
use Rattle.hearing.specs.Heard.{whom, nothing_heard, after_agent, after_rule}
use Rattle.passes.specs.declared.gather.Gathered.{Gathered}
use Rattle.passes.specs.Entries.{heard_as, rule_heard, rules_heard, gathered_from, gathered, line_value, value_end, role_names, line_names, heard_other, entry_at, told}
use Rattle.passes.specs.Steps.{first_line, lines_on, lines_past, PassedLine, Jumped, first_read, next_read}
use Rattle.passes.specs.declared.audience.Chosen.{Chosen}
use Rattle.passes.specs.Choosing.{line_at, known_alone, ChosenOf}
use Rattle.passes.proofs.Gathering.{gathered_heard, gathered_all}
use Rattle.passes.proofs.Unheard.{unheard, unheard_any, unheard_line, unheard_from, unheard_none}
use Rattle.passes.proofs.Heads.{no_agent_named, first_no_agent, first_idle}
use Rattle.passes.proofs.Lines.{entry_end, entry_rule, octets_most, value_end_inside, agent_unread, rule_unread}

-- a line without a role has no entry
idle_entries : (above : ℕ) (ruled : Bool) (l : Line) (ls : List Line) → role_of (kind_of l.text) ≡ none
    → entries_from above ruled (l ∷ ls) ≡ entries_from above ruled ls
unfolding entries_from entry_of group_at ruled_after
idle_entries above ruled l ls e = rw e

-- and names nobody
idle_names : (file who : List ℕ) (l : Line) (ls : List Line) → role_of (kind_of l.text) ≡ none → any (line_names file who) (l ∷ ls) ≡ any (line_names file who) ls
unfolding any
idle_names file who l ls e = rw e

-- a kind that is told for a pass gives the same entry
entry_of_lem : (above : ℕ) (ruled : Bool) (l : Line) (k : Kind)
    → entry_of (group_at above ruled (role_of (entry_kind k))) l (entry_kind k) (role_of (entry_kind k)) ≡ entry_of (group_at above ruled (role_of k)) l k (role_of k)
unfolding entry_of role_of
entry_of_lem above ruled l Kind.Blank = refl
entry_of_lem above ruled l Kind.Noise = refl
entry_of_lem above ruled l Kind.Other = refl
entry_of_lem above ruled l (Kind.Agent a) = refl
entry_of_lem above ruled l (Kind.Rule side q) = refl

-- blocks that are passed over have no entry
pub blocks_entries : (file : List ℕ) (p r : Position) → PassedOver file p r → (above : ℕ) (ruled : Bool)
    → entries_from above ruled (lines_past file r) ≡ entries_from above ruled (lines_past file p)
blocks_entries file p r over above ruled =
    sym (past_on (entries_from above ruled) (λ n q c l ls g. idle_entries above ruled (line n q (line_text (c ∷ l))) ls (first_idle c l g)) file p r over)

-- past the line at p
module _ (file : List ℕ) (p : Position) (h : p.place.offset < length file) (few : p.number.number ≤ p.place.offset + 1) (k : Kind) (e : k ≡ entry_kind (kind_of (text_at file p.place))) where
  -- the end of its value
  value_told_lem : (value_end p.place (kind_of (text_at file p.place))).offset ≡ (value_end p.place k).offset
  value_told_lem = ap (λ (q : Place). q.offset) (sym (entry_end p.place (kind_of (text_at file p.place))) ∙ ap (value_end p.place) (sym e))

  -- many lines at a time, where it is no agent or rule line
  pub passed_blocks : (r : Position) → PassedOver file p r → k ≡ Kind.Other → PassedLine file p r
  passed_blocks r over o =
      record {
        inside = omega (arith, past_inside file p r over h);
        further = past_further file p r over h;
        value = omega (arith, value_told_lem, past_further file p r over h, ap (λ (x : Kind). (place_of x).offset + length_of x) o);
        counted = past_few file p r over h few;
        entries = blocks_entries file p r over;
        named =
            λ who.
            sym (past_on (any (line_names file who))
            (λ n q c l ls g. idle_names file who (line n q (line_text (c ∷ l))) ls (first_idle c l g))
            file p r over);
      }

  -- the line alone, from an octet of its text or its end on
  pub passed_alone : (n : ℕ) → n ≤ length (text_at file p.place) → PassedLine file p (record { number = p.number; place = place_after p.place n })
  passed_alone n fits =
      let next : next_at file (place_after p.place n) ≡ next_at file p.place = next_mid file p.place n fits in
      let same : (next_at file (place_after p.place n)).offset ≡ (next_at file p.place).offset = ap (λ (x : Place). x.offset) next in
      let on : p.place.offset < (next_at file p.place).offset = next_further file p.place h in
      record {
        inside = omega (arith, fits, text_inside file p.place (omega arith));
        further = omega (arith, same, on);
        value = omega (arith, value_told_lem, same, value_end_inside file p.place (omega arith) k e, text_next file p.place);
        counted = omega (arith, same, few, on);
        entries =
            λ above ruled.
            ap (λ (x : Place). entries_from above ruled (lines_from (number_after p.number 1) x 0 (drop x.offset file))) next;
        named = λ who. ap (λ (x : Place). any (line_names file who) (lines_from (number_after p.number 1) x 0 (drop x.offset file))) next;
      }

-- the line at a position and those behind it
module _ (file : List ℕ) (p : Position) (h : p.place.offset < length file) where
  abbrev pub kind : Kind
  kind = kind_of (text_at file p.place)

  abbrev pub here : Line
  here = line p.number p.place (text_at file p.place)

  -- in front of the lines behind it
  pub entries_here : (above : ℕ) (ruled : Bool)
      → entries_from above ruled (lines_on file p)
      ≡ entry_of (group_at above ruled (role_of kind)) here kind (role_of kind)
      ++ entries_from (group_at above ruled (role_of kind)) (ruled_after ruled (role_of kind)) (lines_past file p)
  unfolding entries_from
  entries_here above ruled = rw (lines_next file p.number p.place h)

  pub names_here : (who : List ℕ)
      → any (line_names file who) (lines_on file p)
      ≡ role_names who (line_value file p.place kind) (role_of kind) || any (line_names file who) (lines_past file p)
  unfolding any
  names_here who = rw (lines_next file p.number p.place h)

-- the next line, behind the one at r
abbrev pub line_behind : List ℕ → Position → Position
line_behind file r = record { number = number_after r.number 1; place = next_at file r.place }

-- what is left to be gathered from a position on, whatever the group above is
abbrev Left : Dialect → List ℕ → List ℕ → List ℕ → Bool → Hearing → Considered → Position → Gathered → Type 0
Left d file who path whole heard c p g =
    (above : ℕ) × (ruled : Bool) × (told whole (gathered_from d file who path heard c (entries_from above ruled (lines_on file p))) ≡ told whole g)

module _ (d : Dialect) (file who path : List ℕ) (whole : Bool) (heard : Hearing) (c : Considered) (p : Position) (g : Gathered) (left : Left d file who path whole heard c p g) where
  -- nothing at the file's end
  pub left_none : length file ≤ p.place.offset → record { considered = c; unread = if whole then heard.unread else 0 } ≡ told whole g
  unfolding gathered_from entries_from
  left_none h = rw (lines_end file p.number p.place h) at left.2

  module _ (h : p.place.offset < length file) (r : Position) (past : PassedLine file p r) where
    -- a line that gives what its entry does
    left_by : (heard' : Hearing) (c' : Considered)
        → ((es : List Entry) (above : ℕ) (ruled : Bool)
        → gathered_from d file who path heard' c' es
        ≡ gathered_from d file who path heard c (entry_of (group_at above ruled (role_of (kind file p h))) (here file p h) (kind file p h) (role_of (kind file p h)) ++ es))
        → Left d file who path whole heard' c' (line_behind file r) g
    left_by heard' c' same =
        let above = left.0 in
        let ruled = left.1 in
        let group = group_at above ruled (role_of (kind file p h)) in
        let rest = ruled_after ruled (role_of (kind file p h)) in (
          group,
          rest,
          ap (told whole)
              (ap (gathered_from d file who path heard' c') (past.entries group rest)
              ∙ same (entries_from group rest (lines_past file p)) above ruled
              ∙ ap (gathered_from d file who path heard c) (sym (entries_here file p h above ruled)))
              ∙ left.2,
        )

    -- a line that is no rule line
    left_other : (k : Kind) → k ≡ entry_kind (kind file p h) → ((side : Side) (q : Pattern) → k ≡ Kind.Rule side q → ⊥)
        → Left d file who path whole (heard_other file who p.place k heard) c (line_behind file r) g
    unfolding gathered_from considered_all rule_heard entry_of role_of
    left_other k e o =
        left_by (heard_other file who p.place k heard) c
        (λ es above ruled. go es above ruled k o ∙ ap (λ (l : List Entry). gathered_from d file who path heard c (l ++ es)) (told above ruled))
      where
        told : (above : ℕ) (ruled : Bool)
            → entry_of (group_at above ruled (role_of k)) (here file p h) k (role_of k)
            ≡ entry_of (group_at above ruled (role_of (kind file p h))) (here file p h) (kind file p h) (role_of (kind file p h))
        told above ruled = rw e (entry_of_lem above ruled (here file p h) (kind file p h))

        go : (es : List Entry) (above : ℕ) (ruled : Bool) (k : Kind) → ((side : Side) (q : Pattern) → k ≡ Kind.Rule side q → ⊥)
            → gathered_from d file who path (heard_other file who p.place k heard) c es
            ≡ gathered_from d file who path heard c (entry_of (group_at above ruled (role_of k)) (here file p h) k (role_of k) ++ es)
        go es above ruled Kind.Blank o = refl
        go es above ruled Kind.Noise o = refl
        go es above ruled Kind.Other o = refl
        go es above ruled (Kind.Agent a) o = refl
        go es above ruled (Kind.Rule side q) o = absurd (o side q refl)

    -- a rule line
    left_rule : (side : Side) (q : Pattern) → Kind.Rule side q ≡ kind file p h
        → Left d file who path whole (heard_as who (rule side) (line_value file p.place (Kind.Rule side q)) heard)
        (considered_all d file path c (rule_heard file heard.applies (rule side) (entry_at p (Kind.Rule side q) (rule side))))
        (line_behind file r)
        g
    unfolding gathered_from rule_heard entry_of role_of
    left_rule side q e =
        left_by (heard_as who (rule side) (line_value file p.place (Kind.Rule side q)) heard)
        (considered_all d file path c (rule_heard file heard.applies (rule side) (entry_at p (Kind.Rule side q) (rule side))))
        (λ es above ruled. rw (← e))

-- all is left at the first line
pub left_all : (d : Dialect) (file crawler : List ℕ) (a : Audience) (path : List ℕ)
    → gathered_from d file (whom a crawler) path nothing_heard none_considered (entries_from 0 false (lines_on file (first_line file))) ≡ gathered d file crawler a path
unfolding entries
left_all d file crawler a path =
    ap (λ (ls : List Line). gathered_from d file (whom a crawler) path nothing_heard none_considered (entries_from 0 false ls)) (sym (lines_all file)) ∙ gathered_all d file crawler a path

-- a line that is jumped to is asked as the one there, with its number
jumped_on : {X : Type 0} (ask : List Line → X) (file : List ℕ) (p : Position) (q : Place) (r : Position) → Jumped file p q r
    → ask (lines_at file (number_after p.number (endings (between file p.place q))) q) ≡ ask (lines_on file r)
jumped_on ask file p q r j =
    split (ltb q.offset (length file)) (λ e. rw (j.number (ltb-true q.offset (length file) e), j.place))
    (λ e.
    let end : length file ≤ q.offset = ltb-false q.offset (length file) e in
    rw j.place (ap ask (lines_end file _ q end ∙ sym (lines_end file _ q end))))

-- the first line has the number 1
pub first_at : (file : List ℕ) → line_at file (first_line file).place ≡ first_line file
first_at file =
    let start = (first_line file).place in
    let one : 1 + endings (between file start start) ≡ 1 = omega (arith, none_between file start) in
    ap (λ (n : ℕ). record { number = line_number n; place = start }) one

-- the first line that is read
pub first_whole : (file : List ℕ) (whole : Bool) (first : Place) (r : Position) → whole ≡ true → r ≡ first_line file
    → Jumped file (first_line file) (first_read file whole first) r
first_whole file whole first r w e =
    rw (w, e) (record { place = refl; counted = omega arith; number = λ i. ap (λ (x : Position). x.number) (sym (first_at file)) })

pub first_part_lem : (file : List ℕ) (whole : Bool) (first : Place) (p r : Position) → whole ≡ false → p ≡ first_line file → Jumped file p first r
    → Jumped file (first_line file) (first_read file whole first) r
first_part_lem file whole first p r w e j = rw (w, ← e) j

-- and the next one, where no other names who, or where one may
pub next_none : (file : List ℕ) (p : Position) (only : Bool) → only ≡ true → p.number.number ≤ p.place.offset + 1 → p.place.offset < length file
    → Jumped file p (next_read file p.place only) (record { number = p.number; place = place_at (length file) })
next_none file p only o few h = rw o (record { place = refl; counted = omega arith; number = λ i. absurd (omega arith) })

pub next_some : (file : List ℕ) (p : Position) (only : Bool) (q : Place) (r : Position) → only ≡ false → q ≡ next_agent file p.place → Jumped file p q r
    → Jumped file p (next_read file p.place only) r
next_some file p only q r o e j = rw (o, ← e) j

next_read_further : (file : List ℕ) (p : Place) (only : Bool) → p.offset < length file → p.offset < (next_read file p only).offset
next_read_further file p true h = h
next_read_further file p false h = agents_further file p

pub jumped_further : (file : List ℕ) (p : Position) (only : Bool) → p.place.offset < length file → (q : Position) → Jumped file p (next_read file p.place only) q
    → p.place.offset < q.place.offset
jumped_further file p only h q j = omega (arith, ap (λ (x : Place). x.offset) j.place, next_read_further file p.place only h)

-- where no group applies, what is left is told by the rules that are heard of the lines
left_told : (d : Dialect) (file who path : List ℕ) (heard : Hearing) (c : Considered) (above : ℕ) (ruled : Bool) (ls : List Line) → heard.applies ≡ false
    → told false (gathered_from d file who path heard c (entries_from above ruled ls)) ≡ record { considered = considered_all d file path c (unheard file who ls); unread = 0 }
left_told d file who path heard c above ruled ls a =
    ap (told false) (gathered_heard d file who path heard c (entries_from above ruled ls))
    ∙ ap (λ (rs : List Rule). record { considered = considered_all d file path c rs; unread = 0 }) (unheard_any file who ls heard above ruled a)

-- so lines of which no rule is heard may be passed over
left_passed : (d : Dialect) (file who path : List ℕ) (whole : Bool) (heard : Hearing) (c : Considered) (g : Gathered) → whole ≡ false → heard.applies ≡ false → (ls ms : List Line)
    → unheard file who ls ≡ unheard file who ms → (above : ℕ) (ruled : Bool)
    → told whole (gathered_from d file who path heard c (entries_from above ruled ls)) ≡ told whole g
    → told whole (gathered_from d file who path heard c (entries_from 0 false ms)) ≡ told whole g
left_passed d file who path true heard c g w a ls ms e above ruled l = absurd (false≢true (sym w))
left_passed d file who path false heard c g w a ls ms e above ruled l =
    left_told d file who path heard c 0 false ms a
    ∙ ap (λ (rs : List Rule). record { considered = considered_all d file path c rs; unread = 0 }) (sym e)
    ∙ sym (left_told d file who path heard c above ruled ls a)
    ∙ l

-- a line that begins with no space, tab or "u" is no agent line: no rule is heard of it
unheard_first : (file who : List ℕ) → Unasked agent_octet (unheard file who)
unheard_first file who n q c l ls g = unheard_line file who (line n q (line_text (c ∷ l))) ls (no_agent_named who _ (kind_of (line_text (c ∷ l))) (first_no_agent c l g))

-- up to the next line that is read none is heard
skipped_unheard : (file who : List ℕ) (p q : Position) (only : Bool) → p.place.offset < length file
    → (only ≡ true → any (line_names file who) (lines_past file p) ≡ false) → Jumped file p (next_read file p.place only) q
    → unheard file who (lines_past file p) ≡ unheard file who (lines_on file q)
unfolding rules_heard entries_from
skipped_unheard file who p q true h alone j =
    let end : length file ≤ q.place.offset = omega (arith, ap (λ (x : Place). x.offset) j.place) in
    unheard_none file who (lines_past file p) (alone refl) ∙ sym (ap (unheard file who) (lines_end file q.number q.place end))
skipped_unheard file who p q false h alone j =
    agents_on (unheard file who) (unheard_first file who) file p.number p.place h
    ∙ jumped_on (unheard file who) file p (next_agent file p.place) q j

-- after a line that is no rule line: not an agent line,
pub other_unheard : (file who : List ℕ) (p : Place) (k : Kind) (h : Hearing) → ((a : Agent) → k ≡ Kind.Agent a → ⊥) → h ≡ heard_other file who p k h
other_unheard file who p Kind.Blank h o = refl
other_unheard file who p Kind.Noise h o = refl
other_unheard file who p Kind.Other h o = refl
other_unheard file who p (Kind.Agent a) h o = absurd (o a refl)
other_unheard file who p (Kind.Rule side q) h o = refl

-- or an agent line
pub agent_heard : (file who : List ℕ) (p : Place) → p.offset ≤ length file → (k : Kind) → k ≡ entry_kind (kind_of (text_at file p)) → (a : Agent) → k ≡ Kind.Agent a
    → (v : List ℕ) → v ≡ line_value file p (Kind.Agent a) → (b : Bool) → b ≡ unreadable_kind (Kind.Agent a) → (h : Hearing)
    → after_agent who v b h ≡ heard_other file who p k h
agent_heard file who p i k e a s v t b u h = rw (s, t, u, ← agent_unread file p i k e a s)

-- a line adds at most 1 to the unread count,
other_unread : (file who : List ℕ) (p : Place) (k : Kind) (h : Hearing) → (heard_other file who p k h).unread ≤ h.unread + 1
other_unread file who p Kind.Blank h = omega arith
other_unread file who p Kind.Noise h = omega arith
other_unread file who p Kind.Other h = omega arith
other_unread file who p (Kind.Agent a) h = omega (arith, one_at_most (unreadable agent (line_value file p (Kind.Agent a))))
other_unread file who p (Kind.Rule side q) h = omega arith

-- and at most 18,426 pairs for each octet of its value to those compared
rule_compared : (d : Dialect) (file path : List ℕ) → length path ≤ 6_142 → (c : Considered) (applies : Bool) (side : Side) (e : Entry)
    → (considered_all d file path c (rule_heard file applies (rule side) e)).compared ≤ c.compared + 18_426 * e.length
unfolding considered_all rule_heard
rule_compared d file path short c applies side e =
    split (applies && readable_pattern (value_of file e))
    (λ b.
    let few : length (value_of file e) ≤ e.length = octets_most file e.place e.length in
    rw b (omega (arith, few, considered_most d (value_of file e) path short (rule_of side e) c)))
    (λ b. rw b (omega arith))

-- what holds where the loop has come to p: what is left gives the whole, the numbers are bounded by the place, and no other line names who where
-- that is known
pub record Reached (d : Dialect) (file who path scratch₀ scratch : List ℕ) (whole only : Bool) (heard : Hearing) (c : Considered) (p : Position) (g : Gathered) : Type 0 where
  pub left : Left d file who path whole heard c p g
  pub same : length scratch ≡ length scratch₀
  pub counted : p.number.number ≤ p.place.offset + 1
  pub compared : c.compared ≤ 18_426 * p.place.offset
  pub unread : heard.unread ≤ p.place.offset
  pub alone : whole ≡ false → only ≡ true → p.place.offset < length file → any (line_names file who) (lines_past file p) ≡ false

-- lines behind one of which none names who
behind_alone : (file who : List ℕ) (q : Position) → any (line_names file who) (lines_on file q) ≡ false → q.place.offset < length file
    → any (line_names file who) (lines_past file q) ≡ false
behind_alone file who q unnamed h =
    let k = kind_of (text_at file q.place) in
    or_right (role_names who (line_value file q.place k) (role_of k)) (any (line_names file who) (lines_past file q)) (sym (names_here file q h who) ∙ unnamed)

-- what is told of a line that is the only one
alone_told : (a : Audience) (others : Bool) → known_alone a others ≡ true → others ≡ false
alone_told Audience.Crawler others e = absurd (false≢true e)
alone_told Audience.Everyone others e = not-true others e
alone_told Audience.Nobody others e = not-true others e

-- at the first line that is read all is left, and no line behind it names who where that is known
module _ (d : Dialect) (file crawler path : List ℕ) (ch : Chosen) (of : ChosenOf file crawler ch.audience ch) where
  abbrev who : List ℕ
  who = whom ch.audience crawler

  abbrev all : Gathered
  all = gathered d file crawler ch.audience path

  pub left_first : (whole : Bool) (p : Position) → Jumped file (first_line file) (first_read file whole ch.first) p
      → Left d file who path whole nothing_heard none_considered p all
  left_first true p j =
      let ask : List Line → Gathered = λ ls. gathered_from d file who path nothing_heard none_considered (entries_from 0 false ls) in
      (0, false, sym (jumped_on ask file (first_line file) (first_line file).place p j) ∙ ap (λ (x : Position). ask (lines_on file x)) (first_at file) ∙ left_all d file crawler ch.audience path)
  left_first false p j =
      let start : unheard file who (lines_on file (first_line file)) ≡ unheard file who (from (line_names file who) (lines_of file))
      = ap (unheard file who) (sym (lines_all file)) ∙ unheard_from file who (lines_of file) in
      let there : unheard file who (from (line_names file who) (lines_of file)) ≡ unheard file who (lines_on file p)
      = ap (unheard file who) of.first
      ∙ jumped_on (unheard file who) file (first_line file) ch.first p j in
      (0, false, left_passed d file who path false nothing_heard none_considered all refl refl (lines_on file (first_line file)) (lines_on file p) (start ∙ there) 0 false (ap (told false) (left_all d file crawler ch.audience path)))

  pub alone_first : (whole : Bool) (p : Position) → Jumped file (first_line file) (first_read file whole ch.first) p
      → whole ≡ false → ch.only ≡ true → p.place.offset < length file → any (line_names file who) (lines_past file p) ≡ false
  alone_first true p j w o h = absurd (false≢true (sym w))
  alone_first false p j w o h =
      let there : p.place.offset ≡ ch.first.offset = ap (λ (x : Place). x.offset) j.place in
      let same : p ≡ line_at file ch.first = ap₂ (λ (n : LineNumber) (x : Place). record { number = n; place = x }) (j.number (omega (arith, h, there))) j.place in
      ap (λ (x : Position). any (line_names file who) (lines_past file x)) same ∙ alone_told ch.audience _ (sym of.only ∙ o)

module _ (d : Dialect) (file who path scratch₀ scratch : List ℕ) (whole only : Bool) (heard : Hearing) (c : Considered) (p : Position) (g : Gathered) (now : Reached d file who path scratch₀ scratch whole only heard c p g) (h : p.place.offset < length file) (r : Position) (past : PassedLine file p r) (k : Kind) (s : k ≡ entry_kind (kind_of (text_at file p.place))) where
  -- no line behind it names who, where that is known
  alone_past : whole ≡ false → only ≡ true → (line_behind file r).place.offset < length file → any (line_names file who) (lines_past file (line_behind file r)) ≡ false
  alone_past w o i = behind_alone file who (line_behind file r) (past.named who ∙ now.alone w o h) i

  -- past a line that is no rule line, to the next line,
  module _ (o : (side : Side) (q : Pattern) → k ≡ Kind.Rule side q → ⊥) (heard' : Hearing) (t : heard' ≡ heard_other file who p.place k heard) where
    left_here : Left d file who path whole heard' c (line_behind file r) g
    left_here = rw t (left_other d file who path whole heard c p g now.left h r past k s o)

    few_unread : heard'.unread ≤ p.place.offset + 1
    few_unread = rw t (omega (arith, now.unread, other_unread file who p.place k heard))

    pub reached_other : (q : Position) → q ≡ line_behind file r → Reached d file who path scratch₀ scratch whole only heard' c q g
    reached_other q e =
        rw e
        (record {
          left = left_here;
          same = now.same;
          counted = past.counted;
          compared = omega (arith, now.compared, past.further);
          unread = omega (arith, few_unread, past.further);
          alone = alone_past;
        })

    -- or to the next that is read, where no group applies
    left_skipped : whole ≡ false → heard'.applies ≡ false → (q : Position) → Jumped file p (next_read file p.place only) q → Left d file who path whole heard' c q g
    left_skipped w a q j =
        let above = left_here.0 in
        let ruled = left_here.1 in
        let same : told whole (gathered_from d file who path heard' c (entries_from above ruled (lines_past file p))) ≡ told whole g
        = ap (λ (es : List Entry). told whole (gathered_from d file who path heard' c es)) (sym (past.entries above ruled)) ∙ left_here.2 in
        (0, false, left_passed d file who path whole heard' c g w a (lines_past file p) (lines_on file q) (skipped_unheard file who p q only h (λ o. now.alone w o h) j) above ruled same)

    pub reached_skip : whole ≡ false → heard'.applies ≡ false → (q : Position) → Jumped file p (next_read file p.place only) q
        → Reached d file who path scratch₀ scratch whole only heard' c q g
    reached_skip w a q j =
        let place : q.place.offset ≡ (next_read file p.place only).offset = ap (λ (x : Place). x.offset) j.place in
        let on : p.place.offset < q.place.offset = jumped_further file p only h q j in
        record {
          left = left_skipped w a q j;
          same = now.same;
          counted = omega (arith, j.counted, place);
          compared = omega (arith, now.compared, on);
          unread = omega (arith, few_unread, on);
          alone = λ w o i. absurd (omega (arith, i, place, ap (λ (b : Bool). (next_read file p.place b).offset) o));
        }

  -- past a rule line
  module _ (side : Side) (pattern : Pattern) (m : k ≡ Kind.Rule side pattern) where
    is_rule_lem : kind_of (text_at file p.place) ≡ Kind.Rule side pattern
    is_rule_lem = entry_rule (kind_of (text_at file p.place)) side pattern (sym s ∙ m)

    rule_heard_as : (b : Bool) → b ≡ unreadable_kind (Kind.Rule side pattern)
        → after_rule b heard ≡ heard_as who (rule side) (line_value file p.place (Kind.Rule side pattern)) heard
    rule_heard_as b t = ap (λ (b : Bool). after_rule b heard) (t ∙ sym (rule_unread file p.place (omega arith) k s side pattern m))

    few_pairs : length path ≤ 6_142
        → (considered_all d file path c (rule_heard file heard.applies (rule side) (entry_at p (Kind.Rule side pattern) (rule side)))).compared
        ≤ 18_426 * (next_at file r.place).offset
    few_pairs short =
        let ends : (value_end p.place (Kind.Rule side pattern)).offset ≤ (next_at file r.place).offset = rw is_rule_lem at past.value in
        omega (arith, ends, now.compared, rule_compared d file path short c heard.applies side (entry_at p (Kind.Rule side pattern) (rule side)))

    pub reached_rule : length path ≤ 6_142 → (b : Bool) → b ≡ unreadable_kind (Kind.Rule side pattern)
        → (heard' : Hearing) → heard' ≡ after_rule b heard → (c' : Considered)
        → c' ≡ considered_all d file path c (rule_heard file heard.applies (rule side) (entry_at p (Kind.Rule side pattern) (rule side)))
        → (scratch' : List ℕ) → length scratch' ≡ length scratch → (q : Position) → q ≡ line_behind file r
        → Reached d file who path scratch₀ scratch' whole only heard' c' q g
    reached_rule short b t heard' u c' v scratch' w q e =
        rw (e, v, u)
        (record {
          left = rw (rule_heard_as b t) (left_rule d file who path whole heard c p g now.left h r past side pattern (sym is_rule_lem));
          same = w ∙ now.same;
          counted = past.counted;
          compared = few_pairs short;
          unread = omega (arith, now.unread, past.further, one_at_most b);
          alone = alone_past;
        })
