use Prim.Native.Nat.{◌+◌, ◌≤◌}
use mathlib.Core.Path.{◌≡◌}
use lib.ListN.{length}
use Rattle.protocol.specs.Normal.{normal}
use Rattle.normal.proofs.size_within.Given as goal

-- what is measured and what is left come to the whole
abbrev pub invariant-loop-rest : goal.invariant-loop-rest
invariant-loop-rest l = (l.size ≤ l.room) × (l.size + length (normal l.stars 0 l.rest) ≡ length (normal l.stars 0 l.s))

abbrev pub decreases-loop-rest : goal.decreases-loop-rest
decreases-loop-rest l = length l.rest
