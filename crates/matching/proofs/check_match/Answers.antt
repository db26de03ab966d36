-- Why a match is refused, row by row. Assumes nothing.
use Rattle.std.proofs.Common.{◌∙◌, sym}
use Rattle.std.proofs.lemmas.Result.{err_from_is_err_and}
use Rattle.protocol.proofs.Limits.{pattern_too_long}
use Rattle.protocol.proofs.Outcomes.{refused_number}
use Rattle.matching.proofs.Refusing.{path_refuses, pattern_refuses, none_refuses}
use Rattle.matching.proofs.check_match.Goals as goal

pub returns-then-pattern-gt512000 : goal.returns-then-pattern-gt512000
returns-then-pattern-gt512000 c = sym (pattern_too_long c.args.pattern.now c.args.path.now c.if-pattern-gt512000.true)

pub returns-in_err-check_path : goal.returns-in_err-check_path
returns-in_err-check_path c =
    let p = err_from_is_err_and c.from_residual.result c.from_residual.ensures.1 in
    let e = c.in_err-check_path.ensures in
    rw (p.1, p.2) (e ∙ sym (path_refuses c.args.pattern.now c.args.path.now c.if-pattern-gt512000.false (refused_number _ _ e)))

pub returns-then-readable_pattern : goal.returns-then-readable_pattern
returns-then-readable_pattern c =
    sym (none_refuses c.args.pattern.now c.args.path.now c.if-pattern-gt512000.false (sym c.in_ok-check_path.ensures) (sym c.readable_pattern.ensures ∙ c.if-readable_pattern.true))

pub returns-else-readable_pattern : goal.returns-else-readable_pattern
returns-else-readable_pattern c =
    sym (pattern_refuses c.args.pattern.now c.args.path.now c.if-pattern-gt512000.false (sym c.in_ok-check_path.ensures) (sym c.readable_pattern.ensures ∙ c.if-readable_pattern.false))
