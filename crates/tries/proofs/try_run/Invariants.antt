-- So far every pair is equal, and what is left to compare gives the whole try's outcome.
use Rattle.std.proofs.Common.{◌≡◌, true, drop}
use Rattle.protocol.specs.Walk.{tried}
use Rattle.tries.proofs.try_run.Given as goal

abbrev pub invariant-loop-i : goal.invariant-loop-i
invariant-loop-i l = record {
  stood : l.t.stood ≡ true;
  left : tried (drop l.i l.run) (drop l.i l.rest) l.t.count ≡ tried l.run l.rest l.before;
}
