-- What is passed over so far are whole quiet blocks, and their lines are counted.
use Rattle.std.proofs.Common.{◌≡◌, ◌+◌, ◌*◌, length}
use Rattle.protocol.specs.Lines.{line_number, place_at}
use Rattle.lines.specs.Skips.{PassedOver}
use Rattle.lines.proofs.skip.pass.Given as goal

abbrev pub invariant-loop-b : goal.invariant-loop-b
invariant-loop-b l =
    record {
      place : l.offset ≡ l.fn.at.place.offset + 64 * length l.yielded;
      over : PassedOver l.s l.fn.at (record { number = line_number l.number; place = place_at l.offset });
    }
