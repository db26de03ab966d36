-- What the dialect, the file or the name refuses, and then what the path does. Assumes nothing.
use Rattle.std.proofs.Common.{◌∙◌, sym}
use Rattle.std.proofs.lemmas.Result.{err_from_is_err_and}
use Rattle.protocol.specs.Refusals.{decide_refusal, path_rows}
use Rattle.readable.proofs.Asking.{asked_first, asked_later}
use Rattle.decide.proofs.answers.check_question.Goals as goal

pub returns-in_err-chosen-clause-refusal : goal.returns-in_err-chosen-clause-refusal
unfolding decide_refusal
returns-in_err-chosen-clause-refusal c =
    let a = c.args in
    let p = err_from_is_err_and c.from_residual.result c.from_residual.ensures.1 in
    rw (p.1, p.2) (asked_first a.dialect a.file.now a.name.now (path_rows a.path.now) _ c.in_err-chosen.ensures.refusal)

pub returns-in_err-check_path-clause-refusal : goal.returns-in_err-check_path-clause-refusal
unfolding decide_refusal
returns-in_err-check_path-clause-refusal c =
    let a = c.args in
    let p = err_from_is_err_and c.from_residual-in_err-check_path.result c.from_residual-in_err-check_path.ensures.1 in
    rw (p.1, p.2)
    (c.in_err-check_path.ensures ∙ sym (asked_later a.dialect a.file.now a.name.now (path_rows a.path.now) (sym c.in_ok-chosen.ensures.refusal)))
