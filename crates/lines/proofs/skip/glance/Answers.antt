-- Nothing is left.
use Rattle.std.proofs.Common.{arith, ap, not, sym}
use Rattle.lists.specs.Lists.{any, total}
use Rattle.lines.proofs.Pairs.{zip_over}
use Rattle.lines.proofs.skip.glance.Goals as goal

pub returns-else-found : goal.returns-else-found
unfolding any total
returns-else-found c =
    let none = zip_over c.loop-x.x-iterator c.next.new.self c.next.result c.next.ensures.steps c.in-None.is in
    let whole = rw none at c.loop-x.invariant.whole in
    let seen = rw (none, c.if-found.false) at c.loop-x.invariant.seen in
    (ap not (sym seen), omega arith)
