-- The places that are left give the whole outcome.
use Rattle.std.proofs.Common.{◌≡◌, ◌*◌, drop}
use Rattle.tries.specs.Tries.{tried_first}
use Rattle.tries.proofs.try_first.Given as goal

abbrev pub invariant-loop-eight : goal.invariant-loop-eight
invariant-loop-eight l = tried_first l.first (drop (l.eight-index * 8) l.places) l.count ≡ tried_first l.first l.places l.before
