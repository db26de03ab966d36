-- Numbers that ascend. Assumes nothing.
use Rattle.std.specs.Prelude.{ℕ, ◌<◌, List, [], ◌∷◌}

-- each number is greater than the one before it, and the first is greater than k
abbrev pub Ascending : ℕ → List ℕ → Type 0
Ascending k [] = Unit {0}
Ascending k (n ∷ l) = (k < n) × Ascending n l
