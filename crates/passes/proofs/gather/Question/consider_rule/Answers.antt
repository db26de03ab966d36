-- The pattern stands inside of the file, and its rule is the one that is heard. Assumes nothing.
use Rattle.std.proofs.Common.{refl, ap, ◌∙◌, arith}
use Rattle.protocol.specs.Decision.{pattern_of}
use Rattle.passes.proofs.Lines.{rule_unheard, rule_not_readable, pattern_inside, pattern_room, rule_heard_lem}
use Rattle.passes.proofs.gather.Question.consider_rule.Goals as goal

pub returns-in_default : goal.returns-in_default
returns-in_default c =
    let a = c.args in
    record {
      value = rule_not_readable a.self.dialect a.self.file.now a.self.path.now a.at a.side a.pattern c.requires.told c.requires.room.inside a.c a.applies c.in_default.not-Readable;
      scratch_len_unchanged = refl;
    }

pub returns-then-not-applies-clause-value : goal.returns-then-not-applies-clause-value
returns-then-not-applies-clause-value c =
    let a = c.args in
    rule_unheard a.self.dialect a.self.file.now a.self.path.now a.at a.side a.pattern c.requires.told c.requires.room.inside a.c a.applies c.if-not-applies.true

pub rule_of-rule-requires : goal.rule_of-rule-requires
rule_of-rule-requires c =
    let a = c.args in
    omega (arith, pattern_inside a.self.file.now a.at a.side a.pattern c.requires.told c.requires.room.inside a.applies c.in-Readable.place c.in-Readable.length c.in-Readable.is, c.requires.room.size)

pub pattern_of-octets-requires : goal.pattern_of-octets-requires
pattern_of-octets-requires c =
    let a = c.args in
    rw c.rule_of-rule.ensures
    (pattern_inside a.self.file.now a.at a.side a.pattern c.requires.told c.requires.room.inside a.applies c.in-Readable.place c.in-Readable.length c.in-Readable.is)

pub consider-requires : goal.consider-requires
consider-requires c =
    let a = c.args in
    pattern_room a.self.dialect a.self.file.now a.self.path.now a.at a.side a.pattern c.requires.told c.requires.room.inside a.c a.applies c.in-Readable.place c.in-Readable.length c.in-Readable.is _
    (c.pattern_of-octets.ensures ∙ ap (pattern_of a.self.file.now) c.rule_of-rule.ensures) a.scratch.now c.requires.room

pub returns-clause-value : goal.returns-clause-value
returns-clause-value c =
    let a = c.args in
    c.consider.ensures.value
    ∙ rw c.rule_of-rule.ensures
    (rule_heard_lem a.self.dialect a.self.file.now a.self.path.now a.at a.side a.pattern c.requires.told c.requires.room.inside a.c a.applies c.in-Readable.place c.in-Readable.length c.in-Readable.is c.if-not-applies.false _
    (c.pattern_of-octets.ensures ∙ ap (pattern_of a.self.file.now) c.rule_of-rule.ensures))
