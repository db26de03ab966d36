-- A turn is one path more. Assumes nothing.
use Rattle.listing.proofs.Tails.{same_trans}
use Rattle.rounds.proofs.Rounding.{rounding_on}
use Rattle.rounds.proofs.Table.round.Goals as goal

pub loop-i-preserved : goal.loop-i-preserved
loop-i-preserved c =
    record {
      same = same_trans c.loop-i.invariant.same c.lead_place.ensures.same;
      rounding = rounding_on c.loop-i.invariant.rounding c.loop-i-test.true c.requires c.path.ensures c.lead_place.ensures.placed;
    }
