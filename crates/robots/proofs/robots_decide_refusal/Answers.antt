-- The number is the table's. Assumes nothing.
use Rattle.std.proofs.Common.{◌∙◌, sym}
use Rattle.protocol.proofs.Demands.{decide_refusal_lem, decide_by_table}
use Rattle.robots.proofs.robots_decide_refusal.Goals as goal

pub returns-clause-by_table : goal.returns-clause-by_table
returns-clause-by_table c =
    let a = c.args in
    rw (c.number_of.ensures ∙ c.check_question.ensures.refusal ∙ sym (decide_refusal_lem a.dialect a.file.now a.name.now a.path.now)) (decide_by_table a.dialect a.file.now a.name.now a.path.now)
