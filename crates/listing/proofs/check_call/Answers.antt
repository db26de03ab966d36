-- What the dialect, the file or the name refuses. Assumes nothing.
use Rattle.std.proofs.lemmas.Result.{err_from_is_err_and}
use Rattle.readable.proofs.Asking.{asked_first}
use Rattle.listing.proofs.check_call.Goals as goal

pub returns-in_err-known-clause-refusal : goal.returns-in_err-known-clause-refusal
returns-in_err-known-clause-refusal c =
    let p = err_from_is_err_and c.from_residual.result c.from_residual.ensures.1 in
    rw (p.1, p.2) (asked_first c.args.dialect c.args.file.now c.args.name.now _ _ c.in_err-known.ensures.refusal)
