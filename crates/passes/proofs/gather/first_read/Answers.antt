-- Assumes nothing.
use Rattle.passes.proofs.Turns.{first_whole}
use Rattle.passes.proofs.gather.first_read.Goals as goal

pub returns-then-whole : goal.returns-then-whole
returns-then-whole c = first_whole _ _ _ _ c.if-whole.true c.first_line-at.ensures
