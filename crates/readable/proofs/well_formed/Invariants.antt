-- What is due and the octets that are left give the whole text's answer. Assumes nothing.
use Rattle.std.proofs.Common.{◌≡◌, [], drop}
use Rattle.protocol.specs.Readable.{well_formed}
use Rattle.readable.specs.Due.{due_ranges}
use Rattle.readable.proofs.well_formed.Given as goal

abbrev pub invariant-loop-x : goal.invariant-loop-x
invariant-loop-x l = well_formed (due_ranges l.due) (drop l.x-index l.x-items) ≡ well_formed [] l.s
