-- The ends that are left tell what the whole list does. Assumes nothing.
use Rattle.std.proofs.Common.{◌≡◌, drop}
use Rattle.protocol.specs.Refusals.{decrease, last_end}
use Rattle.listing.proofs.are_bad.Given as goal

abbrev pub invariant-loop-end : goal.invariant-loop-end
invariant-loop-end l =
    record {
      rising : decrease l.last (drop l.end-index l.ends) ≡ decrease 0 l.ends;
      reached : last_end l.last (drop l.end-index l.ends) ≡ last_end 0 l.ends;
    }
