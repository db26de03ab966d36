-- A refused match is "no" with count 0, and any other that of the walk. Assumes nothing.
use Rattle.std.proofs.Common.{◌∙◌, ap, sym}
use Rattle.std.proofs.lemmas.Result.{err_from_is_err_and}
use Rattle.protocol.specs.Answers.{refused_match, matched_by}
use Rattle.protocol.proofs.MatchAnswer.{match_refused, match_answered}
use Rattle.protocol.proofs.Outcomes.{refused_number}
use Rattle.matching.proofs.match_pattern.Goals as goal

pub returns-in_err-check_match-clause-value : goal.returns-in_err-check_match-clause-value
returns-in_err-check_match-clause-value c =
    let p = err_from_is_err_and c.from_residual.result c.from_residual.ensures.1 in
    let e = c.in_err-check_match.ensures in
    rw (p.1, p.2) (ap refused_match e ∙ sym (match_refused c.args.pattern.now c.args.path.now (refused_number _ _ e)))

pub returns-clause-value : goal.returns-clause-value
returns-clause-value c = ap matched_by c.walk_path.ensures ∙ sym (match_answered c.args.pattern.now c.args.path.now (sym c.in_ok-check_match.ensures))
