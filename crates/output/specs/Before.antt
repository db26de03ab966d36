-- A list into which a text is put, in front of a place. Assumes nothing.
use Rattle.std.specs.Prelude.{ℕ, ◌-◌, List, ◌++◌, length, take, drop}

-- what stands in front of the text, and from the place on, stays
unfoldable pub before : List ℕ → ℕ → List ℕ → List ℕ
before text at l = take (at - length text) l ++ (text ++ drop at l)
