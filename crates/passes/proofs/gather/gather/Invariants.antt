-- The entries that are left give what is gathered of the whole file. Assumes nothing.
use Rattle.std.proofs.Common.{◌-◌, length}
use Rattle.hearing.specs.Heard.{whom}
use Rattle.passes.specs.Entries.{gathered}
use Rattle.passes.proofs.Turns.{Reached}
use Rattle.passes.proofs.gather.gather.Given as goal

abbrev pub invariant-loop-at : goal.invariant-loop-at
invariant-loop-at l =
    Reached l.fn.dialect l.file (whom l.chosen.audience l.name) l.path l.initial.scratch l.scratch l.whole l.chosen.only l.h l.c l.at
    (gathered l.fn.dialect l.file l.name l.chosen.audience l.path)

abbrev pub decreases-loop-at : goal.decreases-loop-at
decreases-loop-at l = length l.file - l.at.place.offset
