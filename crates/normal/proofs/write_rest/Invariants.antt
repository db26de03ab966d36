use Prim.Native.Nat.{◌+◌}
use mathlib.Core.Path.{◌≡◌}
use lib.ListN.{length}
use Rattle.std.proofs.lemmas.List.Edits.{sets}
use Rattle.protocol.specs.Normal.{normal}
use Rattle.normal.proofs.write_rest.Given as goal

-- to write what is left leaves what to write the whole would
abbrev pub invariant-loop-rest : goal.invariant-loop-rest
invariant-loop-rest l =
    (l.end + length (normal l.stars 0 l.rest) ≡ l.at + length (normal l.stars 0 l.s))
    × (sets l.out l.end (normal l.stars 0 l.rest) ≡ sets l.initial.out l.at (normal l.stars 0 l.s))

abbrev pub decreases-loop-rest : goal.decreases-loop-rest
decreases-loop-rest l = length l.rest
