-- A refused decision fails shut, and any other is the answer, as it is told. Assumes nothing.
use Rattle.std.proofs.Common.{◌∙◌, ap, sym}
use Rattle.std.proofs.lemmas.Result.{err_from_is_err_and}
use Rattle.protocol.proofs.Demands.{decide_refused, decide_answered}
use Rattle.protocol.proofs.Outcomes.{refused_number}
use Rattle.decide.specs.Telling.{told}
use Rattle.decide.proofs.Refusing.{short_file, short_path, path_fits}
use Rattle.decide.proofs.Telling.{refused_told}
use Rattle.decide.proofs.answers.decide.Goals as goal

pub returns-in_err-dialect : goal.returns-in_err-dialect
returns-in_err-dialect c =
    let a = c.args in
    let p = err_from_is_err_and c.from_residual.result c.from_residual.ensures.1 in
    let e = c.in_err-dialect.ensures.refusal in
    rw (p.1, p.2)
    (refused_told a.whole _
    ∙ ap (told a.whole) (rw e (sym (decide_refused a.dialect a.file.now a.name.now a.path.now (refused_number _ _ e)))))

pub invariant_of-question : goal.invariant_of-question
invariant_of-question c =
    let a = c.args in
    record { file_fits = short_file a.dialect a.file.now a.name.now a.path.now (sym c.in_ok-dialect.ensures.refusal) }

pub answer-requires-clause-short : goal.answer-requires-clause-short
answer-requires-clause-short c =
    let a = c.args in
    short_path a.dialect a.file.now a.name.now a.path.now (sym c.in_ok-dialect.ensures.refusal)

pub answer-requires-clause-fits : goal.answer-requires-clause-fits
answer-requires-clause-fits c =
    let a = c.args in
    path_fits a.dialect a.file.now a.name.now a.path.now (sym c.in_ok-dialect.ensures.refusal)

pub returns : goal.returns
returns c =
    let a = c.args in
    c.answer.ensures
    ∙ rw c.in_ok-dialect.ensures.dialect
    (ap (told a.whole) (sym (decide_answered a.dialect a.file.now a.name.now a.path.now (sym c.in_ok-dialect.ensures.refusal))))
