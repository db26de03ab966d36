-- What is in the table and what is left are all rules from the first line on. Assumes nothing.
use Rattle.std.proofs.Common.{◌-◌, length}
use Rattle.collecting.proofs.Rounds.{Reached}
use Rattle.collecting.proofs.collect.Given as goal

abbrev pub invariant-loop-c : goal.invariant-loop-c
invariant-loop-c l = Reached l.file l.who l.fn.pass l.initial.table l.table l.c

abbrev pub decreases-loop-c : goal.decreases-loop-c
decreases-loop-c l = length l.file - l.c.pass.at.place.offset
