-- The places passed hold what they should, and the others what they held. Assumes nothing.
use Rattle.listing.specs.Memory.{memory}
use Rattle.listing.proofs.Finishing.{Finishing}
use Rattle.listing.proofs.Answers.finish.Given as goal

abbrev pub invariant-loop-i : goal.invariant-loop-i
invariant-loop-i l =
    let lines = l.fn.self.lines.now in
    Finishing l.paths.joined.now l.paths.ends.now (memory l.initial.refusals l.initial.sides lines) (memory l.refusals l.sides lines) l.i
