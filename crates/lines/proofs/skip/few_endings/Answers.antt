-- Nothing is left.
use Rattle.std.proofs.Common.{arith}
use Rattle.lists.specs.Lists.{total}
use Rattle.lines.proofs.Pairs.{zip_over}
use Rattle.lines.proofs.skip.few_endings.Goals as goal

pub returns : goal.returns
unfolding total
returns c =
    let none = zip_over c.loop-x.x-iterator c.next.new.self c.next.result c.next.ensures.steps c.in-None.is in
    let whole = rw none at c.loop-x.invariant.whole in
    omega arith
