-- A rule that applies and is readable stands behind those that were there. Assumes nothing.
use Rattle.std.proofs.Common.{◌≤◌, length, ap, ◌∙◌, arith}
use borrow.Author.Tests.{not-true, not-false}
use Rattle.protocol.specs.declared.Place.{Place}
use Rattle.protocol.specs.Lines.{number_after}
use Rattle.passes.proofs.Lines.{unapplied_here, unreadable_here, pattern_inside, rule_here}
use Rattle.collecting.proofs.Reading.{turn_none, turn_one}
use Rattle.collecting.proofs.Reader.take_rule.Goals as goal

pub returns-in_default : goal.returns-in_default
returns-in_default c =
    let a = c.args in
    let next = c.next_line.ensures ∙ ap (λ (p : Place). record { number = number_after a.c.pass.at.number 1; place = p }) c.requires.behind in
    turn_none a.self.file.now a.c c.requires.counted a.side a.pattern c.requires.told _ next a.table.now
    (unreadable_here a.self.file.now a.c.pass.at a.side a.pattern c.requires.told (omega (arith, c.requires.counted.inside)) a.c.pass.applies c.in_default.not-Readable)

pub returns-then-not-pass : goal.returns-then-not-pass
returns-then-not-pass c =
    let a = c.args in
    let next = c.next_line.ensures ∙ ap (λ (p : Place). record { number = number_after a.c.pass.at.number 1; place = p }) c.requires.behind in
    turn_none a.self.file.now a.c c.requires.counted a.side a.pattern c.requires.told _ next a.table.now
    (unapplied_here a.self.file.now a.c.pass.at a.side a.pattern c.requires.told (omega (arith, c.requires.counted.inside)) a.c.pass.applies (not-true _ c.if-not-pass.true))

pub rule_of-rule-requires : goal.rule_of-rule-requires
rule_of-rule-requires c =
    let a = c.args in
    omega (
      arith,
      pattern_inside a.self.file.now a.c.pass.at a.side a.pattern c.requires.told (omega (arith, c.requires.counted.inside)) a.c.pass.applies c.in-Readable.place c.in-Readable.length c.in-Readable.is,
      c.requires.counted.size,
    )

pub pattern_of-requires : goal.pattern_of-requires
pattern_of-requires c =
    let a = c.args in
    rw c.rule_of-rule.ensures
    (pattern_inside a.self.file.now a.c.pass.at a.side a.pattern c.requires.told (omega (arith, c.requires.counted.inside)) a.c.pass.applies c.in-Readable.place c.in-Readable.length c.in-Readable.is)

pub returns : goal.returns
returns c =
    let a = c.args in
    let inside : a.c.pass.at.place.offset ≤ length a.self.file.now = omega (arith, c.requires.counted.inside) in
    let next = c.next_line.ensures ∙ ap (λ (p : Place). record { number = number_after a.c.pass.at.number 1; place = p }) c.requires.behind in
    let same = c.rule_of-rule.ensures in
    turn_one a.self.file.now a.c c.requires.counted a.side a.pattern c.requires.told _ next a.table.now c.rule_of-rule.result c.pattern_of.result.now c.requires.room
    (rw same (pattern_inside a.self.file.now a.c.pass.at a.side a.pattern c.requires.told inside a.c.pass.applies c.in-Readable.place c.in-Readable.length c.in-Readable.is))
    c.pattern_of.ensures
    (rule_here a.self.file.now a.c.pass.at a.side a.pattern c.requires.told inside a.c.pass.applies c.in-Readable.place c.in-Readable.length c.in-Readable.is (not-false _ c.if-not-pass.false) ∙ rw same)
    _ (rw c.new.ensures)
