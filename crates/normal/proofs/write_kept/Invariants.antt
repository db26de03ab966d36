-- To store what is left of the front leaves what to store the whole would. Assumes nothing.
use Rattle.std.proofs.Common.{drop, take}
use Rattle.normal.proofs.Steps.{Stores}
use Rattle.normal.proofs.write_kept.Given as goal

abbrev pub invariant-loop-i : goal.invariant-loop-i
invariant-loop-i l = Stores l.initial.out (take l.n l.s) 0 l.out (drop l.i (take l.n l.s)) l.i
