-- A walk with the pattern's weight. Assumes nothing.
use Rattle.std.specs.Prelude.{ℕ, ◌*◌, ◌<◌, ◌^◌, List, length, if◌then◌else◌}
use Rattle.protocol.specs.declared.Dialect.{Dialect}
use Rattle.protocol.specs.declared.Walked.{Walked}
use Rattle.protocol.specs.Pattern.{Shape, shape_in, weight}
use Rattle.protocol.specs.Walk.{walk}
use Rattle.walk.specs.declared.Weighed.{Weighed}

-- the most that a pattern's walk over a normalised path can count is a number of 64 bits
abbrev pub CountFits : Shape → List ℕ → Type 0
CountFits s path = weight s * length path < 2 ^ 64

-- a walk with the pattern's weight: 0 where it is no match
abbrev pub weighed_walk : Walked → ℕ → Weighed
weighed_walk w n = record { weight = if w.stood then n else 0; compared = w.count }

-- the same of a raw pattern's walk over a normalised path, in a dialect
unfoldable pub weighed : Dialect → List ℕ → List ℕ → Weighed
weighed d pattern path = weighed_walk (walk (shape_in d pattern) path) (weight (shape_in d pattern))
