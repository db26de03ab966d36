-- An octet past all stops is none. Assumes nothing.
use Rattle.std.proofs.Common.{◌∙◌, sym, arith}
use borrow.Author.Tests.{lt-leb}
use Rattle.fields.proofs.Sorts.{past_stop}
use Rattle.kinds.proofs.Fronts.{ended_here}
use Rattle.kinds.proofs.line.ends_at.Goals as goal

pub returns-else-octet-le35 : goal.returns-else-octet-le35
returns-else-octet-le35 c =
    let found = c.in-Some.ensures.lookup.3 in
    lt-leb c.in-Some.octet.now 35 (omega arith) ∙ sym (ended_here c.args.s.now c.args.at.offset found.0 ∙ past_stop _ (omega (arith, found.1 0)))
