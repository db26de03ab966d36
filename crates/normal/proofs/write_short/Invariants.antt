-- To store what is left of the front leaves what to store the whole would. Assumes nothing.
use Rattle.std.proofs.Common.{drop}
use Rattle.lists.specs.Lists.{up_to}
use Rattle.protocol.specs.Normal.{is_encoded}
use Rattle.normal.proofs.Steps.{Stores}
use Rattle.normal.proofs.write_short.Given as goal

abbrev pub invariant-loop-i : goal.invariant-loop-i
invariant-loop-i l = Stores l.initial.out (up_to (is_encoded l.stars) l.s) 0 l.out (up_to (is_encoded l.stars) (drop l.i l.s)) l.i
