-- What is counted are the octets behind the last block, and so many blocks.
use Rattle.std.proofs.Common.{◌≡◌, ◌+◌, ◌*◌, ◌-◌, ◌/◌, length, take, drop}
use Rattle.lines.specs.Skips.{endings, between}
use Rattle.lines.proofs.skip.count_endings.Given as goal

abbrev pub invariant-loop-b : goal.invariant-loop-b
invariant-loop-b l =
    let z = between l.s l.fn.from l.fn.to in
    l.n ≡ endings (drop (64 * ((l.fn.to.offset - l.fn.from.offset) / 64)) z) + endings (take (64 * length l.yielded) z)
