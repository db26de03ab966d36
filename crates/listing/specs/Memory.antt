-- What the memory lent for the answers to a list of paths holds. Assumes nothing.
use Rattle.std.specs.Prelude.{ℕ, ◌<◌, ◌≤◌, ◌≡◌, List, length, drop, get_or}
use Rattle.protocol.specs.Refusals.{path_rows, refusal}
use Rattle.listing.specs.declared.Answers.{Answers}
use Rattle.listing.specs.Listing.{path_at, side_for}

-- the memory lent for the answers
pub record Memory : Type 0 where
  pub refusals : List ℕ
  pub sides : List ℕ
  pub lines : List ℕ

abbrev pub memory : List ℕ → List ℕ → List ℕ → Memory
memory refusals sides lines = record { refusals = refusals; sides = sides; lines = lines }

-- what it holds
abbrev pub held : Answers → Memory
held a = memory a.refusals.now a.sides.now a.lines.now

-- the same slices
pub record Same (a b : Answers) : Type 0 where
  pub refusals : b.refusals.ghost_name ≡ a.refusals.ghost_name
  pub sides : b.sides.ghost_name ≡ a.sides.ghost_name
  pub lines : b.lines.ghost_name ≡ a.lines.ghost_name

-- there are n places in each slice
pub record Fits (n : ℕ) (m : Memory) : Type 0 where
  pub refusals : n ≤ length m.refusals
  pub sides : n ≤ length m.sides
  pub lines : n ≤ length m.lines

-- places from n on stay
pub record Tail (n : ℕ) (before after : List ℕ) : Type 0 where
  pub same : length after ≡ length before
  pub stays : drop n after ≡ drop n before

pub record Stays (n : ℕ) (m m' : Memory) : Type 0 where
  pub refusals : Tail n m.refusals m'.refusals
  pub sides : Tail n m.sides m'.sides
  pub lines : Tail n m.lines m'.lines

-- the first n places hold 0
pub record Cleared (n : ℕ) (before after : List ℕ) : Type 0 where
  pub stays : Tail n before after
  pub zero : (j : ℕ) → j < n → get_or after j 0 ≡ 0

-- after the last round: each path's own refusal takes the place of the weight
pub record Finished (paths ends : List ℕ) (m m' : Memory) : Type 0 where
  pub refusals_stay : Tail (length ends) m.refusals m'.refusals
  pub sides_stay : Tail (length ends) m.sides m'.sides
  pub lines_stay : m'.lines ≡ m.lines
  pub refused : (j : ℕ) → j < length ends → get_or m'.refusals j 0 ≡ refusal (path_rows (path_at paths ends j))
  pub sided : (j : ℕ) → j < length ends → get_or m'.sides j 0 ≡ side_for (refusal (path_rows (path_at paths ends j))) (get_or m.sides j 0)
