-- The search from `at` on gives the whole search's outcome.
use Rattle.std.proofs.Common.{◌≡◌, ◌≤◌, ◌-◌, length, drop}
use Rattle.protocol.specs.Walk.{seek}
use Rattle.runs.proofs.seek_run.Given as goal

abbrev pub invariant-loop-at : goal.invariant-loop-at
invariant-loop-at l = record {
  inside : l.at ≤ length l.path;
  left : seek l.run l.at l.count (drop l.at l.path) ≡ seek l.run l.from l.before (drop l.from l.path);
}

abbrev pub decreases-loop-at : goal.decreases-loop-at
decreases-loop-at l = length l.path - l.at
