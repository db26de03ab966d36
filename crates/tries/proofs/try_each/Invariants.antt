-- So far no place stands, and the places that are left give the whole outcome.
use Rattle.std.proofs.Common.{◌≡◌, false, drop}
use Rattle.tries.specs.Tries.{tried_first}
use Rattle.tries.proofs.try_each.Given as goal

abbrev pub invariant-loop-b : goal.invariant-loop-b
invariant-loop-b l = record {
  stood : l.t.stood ≡ false;
  left : tried_first l.first (drop l.b-index l.places) l.t.count ≡ tried_first l.first l.places l.before;
}
