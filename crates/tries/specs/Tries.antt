-- Tries that end at a run's first octet. Assumes nothing.
use Rattle.std.specs.Prelude.{ℕ, ◌+◌, true, false, List, [], ◌∷◌, eqb, if◌then◌else◌}
use Rattle.protocol.specs.declared.Tried.{Tried}

-- the run's first octet a, compared with those of the places up to the first that is equal
unfoldable pub tried_first : ℕ → List ℕ → ℕ → Tried
tried_first a [] n = record { stood = false; count = n }
tried_first a (b ∷ t) n = if eqb a b then record { stood = true; count = n + 1 } else tried_first a t (n + 1)
