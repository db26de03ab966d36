-- `output::parts::first_part` meets its contract. Assumes nothing.
use mathlib.Core.Path.{sym}
use native.Mathlib.Omega.{arith}
use lib.Seq.{length-take-le}
use Rattle.lists.proofs.Scans.{up_to_fits, take_up_to}
use Rattle.text.specs.Parts.{equals}
use Rattle.protocol.specs.Program.{first_part}
use Rattle.output.proofs.parts.first_part.Statement.{statement}
use Rattle.output.proofs.parts.first_part.Tie as tie

find-end-requires : tie.Need-find-end-requires
find-end-requires c κs = tt

slice_bounds-result-end : tie.Need-slice_bounds-result-end
slice_bounds-result-end c =
    sym (length-take-le _ _ (omega (arith, c.find-end.ensures, up_to_fits (equals 10) c.before.before.args.s.now)))

returns : tie.Need-returns
unfolding first_part
returns c = rw c.find-end.ensures (take_up_to (equals 10) c.before.before.args.s.now)

pub first_part_spec : {M : Type 1} → statement M
first_part_spec = tie.close (tie.spec find-end-requires slice_bounds-result-end returns)
