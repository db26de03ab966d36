-- The rule at the front of those that are left is the next one. Assumes nothing.
use Rattle.std.proofs.Common.{◌+◌, drop, ap, sym, ◌∙◌}
use Rattle.tables.specs.Tables.{rules_of}
use Rattle.leading.specs.declared.Leader.{Leader}
use Rattle.leading.specs.Leading.{led_all}
use Rattle.leading.proofs.Rules.{led_next, led_end, led_settled}
use Rattle.leading.proofs.lead_all.Goals as goal

pub loop-kept-preserved : goal.loop-kept-preserved
loop-kept-preserved c =
    let a = c.args in
    let i = c.loop-kept.kept-index in
    record {
      scratch_same = c.lead-leader.ensures.scratch_len_unchanged ∙ c.loop-kept.invariant.scratch_same;
      leads =
          ap (λ (l : Leader). led_all a.dialect a.file.now a.path.now l (rules_of (drop (i + 1) a.rules.now))) c.lead-leader.ensures.value
          ∙ led_next a.dialect a.file.now a.path.now c.loop-kept.leader a.rules.now i _ c.loop-kept-test.true
          ∙ c.loop-kept.invariant.leads;
    }

pub returns-after-loop-kept-clause-value : goal.returns-after-loop-kept-clause-value
returns-after-loop-kept-clause-value c =
    let a = c.args in
    sym (led_end a.dialect a.file.now a.path.now c.loop-kept.leader a.rules.now c.loop-kept.kept-index c.loop-kept-test.false)
    ∙ c.loop-kept.invariant.leads

pub returns-then-is_settled-clause-value : goal.returns-then-is_settled-clause-value
returns-then-is_settled-clause-value c =
    let a = c.args in
    sym (led_settled a.dialect a.file.now a.path.now c.loop-kept.leader _ (sym c.is_settled.ensures ∙ c.if-is_settled.true))
    ∙ c.loop-kept.invariant.leads
