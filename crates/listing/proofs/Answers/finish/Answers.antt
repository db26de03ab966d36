-- A turn is one place more. Assumes nothing.
use Rattle.listing.proofs.Finishing.{finishing_on}
use Rattle.listing.proofs.Answers.finish.Goals as goal

pub loop-i-preserved : goal.loop-i-preserved
loop-i-preserved c =
    finishing_on c.loop-i.invariant c.loop-i-test.true c.requires.refusals c.requires.sides c.path.ensures c.finish_path.ensures.refused c.finish_path.ensures.side
