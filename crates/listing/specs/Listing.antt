-- A list of paths: where each stands. Assumes nothing.
use Rattle.std.specs.Prelude.{ℕ, ◌-◌, ◌≡◌, false, List, ◌∷◌, eqb, length, get_or, if◌then◌else◌}
use Rattle.protocol.specs.Lines.{place_at}
use Rattle.protocol.specs.Text.{octets_at}
use Rattle.protocol.specs.Refusals.{decrease, last_end}

-- the ends never decrease, and the last is the joined length
abbrev pub GoodEnds : List ℕ → List ℕ → Type 0
GoodEnds paths ends = (decrease 0 ends ≡ false) × (last_end 0 ends ≡ length paths)

-- the end in front of path j, and the path
abbrev pub start_at : List ℕ → ℕ → ℕ
start_at ends j = get_or (0 ∷ ends) j 0

abbrev pub path_at : List ℕ → List ℕ → ℕ → List ℕ
path_at paths ends j = octets_at paths (place_at (start_at ends j)) (get_or ends j 0 - start_at ends j)

-- the decision about a path, as a number: a refused one is disallow
abbrev pub side_for : ℕ → ℕ → ℕ
side_for refused side = if eqb refused 0 then side else 1
