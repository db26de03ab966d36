-- What is told of a line with a head is its kind, and where its value ends. Assumes nothing.
use Rattle.kinds.proofs.Kinding.{some_told}
use Rattle.kinds.proofs.entry.entry_of.Goals as goal

pub returns-in-Some : goal.returns-in-Some
returns-in-Some c = some_told c.args.r.now c.in-Some.head c.entry_at.result c.in-Some.ensures c.entry_at.ensures.kind c.entry_at.ensures.end
