-- Assumes nothing.
use Rattle.collecting.proofs.Rounds.{reached_first, reached_on}
use Rattle.collecting.proofs.collect.Goals as goal

pub loop-c-init : goal.loop-c-init
loop-c-init c = reached_first c.args.file.now c.args.who.now c.args.pass c.args.table.now c.requires.1

pub loop-c-preserved : goal.loop-c-preserved
loop-c-preserved c =
    let a = c.args in reached_on a.file.now a.who.now a.pass a.table.now c.loop-c.table c.loop-c.c c.loop-c.invariant _ _ c.read_line-c.ensures
