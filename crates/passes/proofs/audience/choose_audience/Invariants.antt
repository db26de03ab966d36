-- The lines that are left tell whose groups apply. Assumes nothing.
use Rattle.std.proofs.Common.{◌-◌, length}
use Rattle.passes.proofs.Choices.{Looked}
use Rattle.passes.proofs.audience.choose_audience.Given as goal

abbrev pub invariant-loop-at : goal.invariant-loop-at
invariant-loop-at l = Looked l.file l.name l.chosen l.at

abbrev pub decreases-loop-at : goal.decreases-loop-at
decreases-loop-at l = length l.file - l.at.offset
