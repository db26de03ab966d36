-- The entries that are left give what is gathered of the whole file. Assumes nothing.
use Rattle.std.proofs.Common.{refl, sym, ap, ◌∙◌, arith}
use Rattle.lists.proofs.Scans.{rest_of}
use Rattle.protocol.specs.declared.Place.{Place}
use Rattle.protocol.specs.Lines.{number_after}
use Rattle.protocol.specs.Kinds.{kind_of}
use Rattle.lines.specs.Spans.{text_at}
use Rattle.kinds.specs.declared.entry.Entry.{Entry}
use Rattle.kinds.specs.Entries.{entry_told}
use Rattle.lines.proofs.Forward.{next_inside}
use Rattle.hearing.specs.Heard.{whom}
use Rattle.passes.proofs.Lines.{entry_rule}
use Rattle.passes.proofs.Turns.{left_none, left_first, alone_first, reached_other, reached_skip, reached_rule}
use Rattle.passes.proofs.gather.gather.Goals as goal

pub loop-at-init : goal.loop-at-init
loop-at-init c =
    let a = c.args in
    let j = c.first_read-at.ensures in
    rw (c.new-c.ensures, c.nothing_heard-h.ensures)
    (record {
      left = left_first a.dialect a.file.now a.name.now a.path.now a.chosen c.requires.0 a.whole c.first_read-at.result j;
      same = refl;
      counted = omega (arith, j.counted, ap (λ (x : Place). x.offset) j.place);
      compared = omega arith;
      unread = omega arith;
      alone = alone_first a.dialect a.file.now a.name.now a.path.now a.chosen c.requires.0 a.whole c.first_read-at.result j;
    })

pub pass_line-over-requires : goal.pass_line-over-requires
pass_line-over-requires c =
    (c.loop-at-test.true, c.loop-at.invariant.counted, c.entry_of-entry.ensures ∙ ap entry_told (rest_of c.loop-at.at.place.offset c.args.file.now))

pub next_line-at-requires : goal.next_line-at-requires
next_line-at-requires c =
    let past = c.pass_line-over.ensures in
    omega (arith, past.counted, next_inside c.args.file.now c.pass_line-over.result.place past.inside, c.requires.1)

pub hear_other-h-requires : goal.hear_other-h-requires
hear_other-h-requires c =
    record {
      inside = omega (arith, c.loop-at-test.true);
      told = ap (λ (e : Entry). e.kind) (c.entry_of-entry.ensures ∙ ap entry_told (rest_of c.loop-at.at.place.offset c.args.file.now));
      fits = omega (arith, c.loop-at.invariant.unread, c.loop-at-test.true, c.requires.1);
    }

pub next_group-at-requires : goal.next_group-at-requires
next_group-at-requires c = (c.loop-at.invariant.counted, c.loop-at-test.true, c.requires.1)

pub loop-at-preserved-then-not-whole : goal.loop-at-preserved-then-not-whole
loop-at-preserved-then-not-whole c =
    let a = c.args in
    let now = c.loop-at.invariant in
    reached_skip a.dialect a.file.now (whom a.chosen.audience a.name.now) _ _ _ _ _ _ _ c.loop-at.at _ now c.loop-at-test.true c.pass_line-over.result c.pass_line-over.ensures _
    (ap (λ (e : Entry). e.kind) (c.entry_of-entry.ensures ∙ ap entry_told (rest_of c.loop-at.at.place.offset a.file.now)))
    c.in_default.not-Rule _ c.hear_other-h.ensures c.if-not-whole.true c.if-not-h.true _ c.next_group-at.ensures

pub loop-at-preserved-else-not-h : goal.loop-at-preserved-else-not-h
loop-at-preserved-else-not-h c =
    let a = c.args in
    let now = c.loop-at.invariant in
    reached_other a.dialect a.file.now (whom a.chosen.audience a.name.now) _ _ _ _ _ _ _ c.loop-at.at _ now c.loop-at-test.true c.pass_line-over.result c.pass_line-over.ensures _
    (ap (λ (e : Entry). e.kind) (c.entry_of-entry.ensures ∙ ap entry_told (rest_of c.loop-at.at.place.offset a.file.now)))
    c.in_default.not-Rule _ c.hear_other-h.ensures _
    (c.next_line-at.ensures ∙ ap (λ (q : Place). record { number = number_after c.pass_line-over.result.number 1; place = q }) c.next_place.ensures)

pub consider_rule-c-requires-clause-room : goal.consider_rule-c-requires-clause-room
consider_rule-c-requires-clause-room c =
    record {
      size = c.requires.1;
      inside = omega (arith, c.loop-at-test.true);
      short = c.requires.2;
      lent = omega (arith, c.requires.3, c.loop-at.invariant.same);
      compared = c.loop-at.invariant.compared;
    }

pub consider_rule-c-requires-clause-told : goal.consider_rule-c-requires-clause-told
consider_rule-c-requires-clause-told c =
    let kind = ap (λ (e : Entry). e.kind) (c.entry_of-entry.ensures ∙ ap entry_told (rest_of c.loop-at.at.place.offset c.args.file.now)) in
    sym (entry_rule (kind_of (text_at c.args.file.now c.loop-at.at.place)) _ _ (sym kind ∙ c.in-Rule.is))

pub hear_rule-h-requires : goal.hear_rule-h-requires
hear_rule-h-requires c = omega (arith, c.loop-at.invariant.unread, c.loop-at-test.true, c.requires.1)

pub loop-at-preserved : goal.loop-at-preserved
loop-at-preserved c =
    let a = c.args in
    let now = c.loop-at.invariant in
    reached_rule a.dialect a.file.now (whom a.chosen.audience a.name.now) _ _ _ _ _ _ _ c.loop-at.at _ now c.loop-at-test.true c.pass_line-over.result c.pass_line-over.ensures _
    (ap (λ (e : Entry). e.kind) (c.entry_of-entry.ensures ∙ ap entry_told (rest_of c.loop-at.at.place.offset a.file.now)))
    c.in-Rule.side c.in-Rule.pattern c.in-Rule.is c.requires.2 _ c.is_unread_rule.ensures _ c.hear_rule-h.ensures _ c.consider_rule-c.ensures.value _ c.consider_rule-c.ensures.scratch_len_unchanged _
    (c.next_line-at.ensures ∙ ap (λ (q : Place). record { number = number_after c.pass_line-over.result.number 1; place = q }) c.next_place.ensures)

pub returns-then-whole-clause-value : goal.returns-then-whole-clause-value
returns-then-whole-clause-value c =
    let a = c.args in
    rw c.if-whole.true
    (rw c.if-whole.true at (left_none a.dialect a.file.now (whom a.chosen.audience a.name.now) a.path.now a.whole c.loop-at.h c.loop-at.c c.loop-at.at _ c.loop-at.invariant.left c.loop-at-test.false))

pub returns-else-whole-clause-value : goal.returns-else-whole-clause-value
returns-else-whole-clause-value c =
    let a = c.args in
    rw c.if-whole.false
    (rw c.if-whole.false at (left_none a.dialect a.file.now (whom a.chosen.audience a.name.now) a.path.now a.whole c.loop-at.h c.loop-at.c c.loop-at.at _ c.loop-at.invariant.left c.loop-at-test.false))
