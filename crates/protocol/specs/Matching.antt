-- What it means that a pattern matches a normalised path. No walk is in it. Assumes nothing.
use Rattle.std.specs.Prelude.{ℕ, ◌≡◌, true, if◌then◌else◌}
use mathlib.Core.List.{List, [], ◌∷◌, ◌++◌, tail}
use Rattle.protocol.specs.Pattern.{Shape, is_star}

-- what fills the next star: nothing where no filling is given
abbrev pub next_filling : List (List ℕ) → List ℕ
next_filling [] = []
next_filling (f ∷ fillings) = f

-- the octets of a pattern with its stars filled, the first star by the first filling. "A star stands for any number of octets"
unfoldable pub filled : List ℕ → List (List ℕ) → List ℕ
filled [] fillings = []
filled (c ∷ text) fillings =
    (if is_star c then next_filling fillings else c ∷ []) ++ filled text (if is_star c then tail fillings else fillings)

-- "A pattern matches if some filling of its stars gives a beginning of the path, or all of it where there is an end mark"
pub record Matches (s : Shape) (path : List ℕ) : Type 0 where
  pub fillings : List (List ℕ)
  pub rest : List ℕ
  pub gives : filled s.text fillings ++ rest ≡ path
  pub whole : s.end_mark ≡ true → rest ≡ []
