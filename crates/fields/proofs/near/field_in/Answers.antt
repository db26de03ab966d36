-- The first eight octets tell of a rule's name whether the text begins with it. Assumes nothing.
use Rattle.std.proofs.Common.{sym, ◌∙◌, arith}
use Rattle.protocol.specs.declared.Side.{Side}
use Rattle.fields.specs.Names.{field_at}
use Rattle.fields.proofs.Folds.{rule_begins}
use Rattle.fields.proofs.near.field_in.Goals as goal

pub returns-then-begins_word : goal.returns-then-begins_word
unfolding field_at
returns-then-begins_word c =
    let rule = rule_begins c.args.s.now c.folded_word-w.result c.folded_word-w.ensures (λ i. omega (arith, c.type_inv.s i)) in
    rw (sym (rule Side.Disallow c.requires) ∙ sym c.begins_word.ensures ∙ c.if-begins_word.true)

pub returns-then-begins_word-2 : goal.returns-then-begins_word-2
unfolding field_at
returns-then-begins_word-2 c =
    let rule = rule_begins c.args.s.now c.folded_word-w.result c.folded_word-w.ensures (λ i. omega (arith, c.type_inv.s i)) in
    rw (sym (rule Side.Disallow c.requires) ∙ sym c.begins_word.ensures ∙ c.if-begins_word.false, sym (rule Side.Allow c.requires) ∙ sym c.begins_word-2.ensures ∙ c.if-begins_word-2.true)

pub returns-then-begins_agent : goal.returns-then-begins_agent
unfolding field_at
returns-then-begins_agent c =
    let rule = rule_begins c.args.s.now c.folded_word-w.result c.folded_word-w.ensures (λ i. omega (arith, c.type_inv.s i)) in
    rw (
      sym (rule Side.Disallow c.requires) ∙ sym c.begins_word.ensures ∙ c.if-begins_word.false,
      sym (rule Side.Allow c.requires) ∙ sym c.begins_word-2.ensures ∙ c.if-begins_word-2.false,
      sym c.begins_agent.ensures ∙ c.if-begins_agent.true,
    )

pub returns : goal.returns
unfolding field_at
returns c =
    let rule = rule_begins c.args.s.now c.folded_word-w.result c.folded_word-w.ensures (λ i. omega (arith, c.type_inv.s i)) in
    rw (
      sym (rule Side.Disallow c.requires) ∙ sym c.begins_word.ensures ∙ c.if-begins_word.false,
      sym (rule Side.Allow c.requires) ∙ sym c.begins_word-2.ensures ∙ c.if-begins_word-2.false,
      sym c.begins_agent.ensures ∙ c.if-begins_agent.false,
    )
