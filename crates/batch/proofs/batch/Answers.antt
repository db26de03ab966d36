-- A refused call writes nothing, and any other's memory holds the answers. Assumes nothing.
use Rattle.std.proofs.Common.{◌∙◌, rules}
use Rattle.std.proofs.lemmas.Result.{err_from_is_err_and}
use Rattle.batch.specs.Asked.{asked}
use Rattle.batch.proofs.Answering.{call_told, kept, good_ends, short_file, all_fit, refusals_known, sides_known, lines_known}
use Rattle.batch.proofs.batch.Goals as goal

pub returns-in_err-known-clause-value : goal.returns-in_err-known-clause-value
returns-in_err-known-clause-value c =
    let p = err_from_is_err_and c.from_residual.result c.from_residual.ensures.1 in
    rw (p.1, p.2) (c.in_err-known.ensures.refusal ∙ call_told _ c.is_short-short.ensures)

pub returns-in_err-known-clause-refusals_after : goal.returns-in_err-known-clause-refusals_after
returns-in_err-known-clause-refusals_after c = (kept _ c.is_short-short.ensures _ c.in_err-known.ensures.refusal).0

pub returns-in_err-known-clause-sides_after : goal.returns-in_err-known-clause-sides_after
returns-in_err-known-clause-sides_after c = (kept _ c.is_short-short.ensures _ c.in_err-known.ensures.refusal).1

pub returns-in_err-known-clause-lines_after : goal.returns-in_err-known-clause-lines_after
returns-in_err-known-clause-lines_after c = (kept _ c.is_short-short.ensures _ c.in_err-known.ensures.refusal).2

pub invariant_of-paths : goal.invariant_of-paths
invariant_of-paths c =
    let a = c.args in
    let b = asked a.dialect a.file.now a.name.now a.paths.now a.ends.now a.refusals.now a.sides.now a.lines.now in
    record { good = good_ends b c.is_short-short.ensures c.in_ok-known.ensures.refusal }

pub answer-requires-clause-short : goal.answer-requires-clause-short
answer-requires-clause-short c =
    let a = c.args in
    let b = asked a.dialect a.file.now a.name.now a.paths.now a.ends.now a.refusals.now a.sides.now a.lines.now in
    short_file b c.is_short-short.ensures c.in_ok-known.ensures.refusal

pub answer-requires-clause-fits : goal.answer-requires-clause-fits
answer-requires-clause-fits c =
    let a = c.args in
    let b = asked a.dialect a.file.now a.name.now a.paths.now a.ends.now a.refusals.now a.sides.now a.lines.now in
    all_fit b c.is_short-short.ensures c.in_ok-known.ensures.refusal

pub returns-clause-value : goal.returns-clause-value
returns-clause-value c = c.in_ok-known.ensures.refusal ∙ call_told _ c.is_short-short.ensures

pub returns-clause-refusals_after : goal.returns-clause-refusals_after
returns-clause-refusals_after c =
    (search rules)
    ∙ refusals_known _ c.is_short-short.ensures c.in_ok-known.ensures.refusal _ c.in_ok-known.ensures.dialect _ c.answer.ensures.answered

pub returns-clause-sides_after : goal.returns-clause-sides_after
returns-clause-sides_after c =
    (search rules)
    ∙ sides_known _ c.is_short-short.ensures c.in_ok-known.ensures.refusal _ c.in_ok-known.ensures.dialect _ c.answer.ensures.answered

pub returns-clause-lines_after : goal.returns-clause-lines_after
returns-clause-lines_after c =
    (search rules)
    ∙ lines_known _ c.is_short-short.ensures c.in_ok-known.ensures.refusal _ c.in_ok-known.ensures.dialect _ c.answer.ensures.answered
