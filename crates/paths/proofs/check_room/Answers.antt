-- Why a path is refused for a buffer: for itself, or for want of room. Assumes nothing.
use mathlib.Core.Path.{sym, ◌∙◌}
use borrow.Author.Tests.{leb-true, leb-false}
use Rattle.std.proofs.lemmas.Result.{err_from_is_err_and}
use Rattle.protocol.specs.Normal.{normal_path}
use Rattle.protocol.proofs.Outcomes.{refused_number}
use Rattle.paths.proofs.Refused.{room_else, room_fits, room_short}
use Rattle.paths.proofs.check_room.Goals as goal

pub returns-in_err-check_path : goal.returns-in_err-check_path
returns-in_err-check_path c =
    let p = err_from_is_err_and c.from_residual.result c.from_residual.ensures.1 in
    let e = c.in_err-check_path.ensures in
    rw (p.1, p.2) (e ∙ sym (room_else c.args.room c.args.path.now (refused_number _ _ e)))

pub returns-then-fits : goal.returns-then-fits
unfolding normal_path
returns-then-fits c =
    sym (room_fits c.args.room c.args.path.now (sym (c.in_ok-check_path.ensures)) (leb-true _ _ (sym c.fits.ensures ∙ c.if-fits.true)))

pub returns-else-fits : goal.returns-else-fits
unfolding normal_path
returns-else-fits c =
    sym (room_short c.args.room c.args.path.now (sym (c.in_ok-check_path.ensures)) (leb-false _ _ (sym c.fits.ensures ∙ c.if-fits.false)))
