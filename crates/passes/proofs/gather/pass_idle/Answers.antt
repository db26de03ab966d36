-- Assumes nothing.
use Rattle.lines.proofs.Skips.{over_none}
use Rattle.passes.proofs.gather.pass_idle.Goals as goal

pub returns-then-at-soonest : goal.returns-then-at-soonest
returns-then-at-soonest c = over_none c.args.file.now c.args.at
