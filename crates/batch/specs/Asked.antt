-- What is asked of a list of paths, and what the lent memory holds of its answers. Assumes nothing.
use Rattle.std.specs.Prelude.{ℕ, ◌<◌, ◌≡◌, List, length, get_or}
use Rattle.protocol.specs.declared.Dialect.{Dialect}
use Rattle.protocol.specs.Refusals.{path_rows, refusal}
use Rattle.protocol.specs.Batch.{Batch}
use Rattle.protocol.specs.Meaning.{readable_for}
use Rattle.listing.specs.Listing.{path_at, side_for}
use Rattle.listing.specs.Memory.{Memory, Stays}
use Rattle.leading.specs.Leading.{no_leader}
use Rattle.rounds.specs.Rounds.{led_over}

-- what is asked, with the memory that is lent
abbrev pub asked : ℕ → List ℕ → List ℕ → List ℕ → List ℕ → List ℕ → List ℕ → List ℕ → Batch
asked dialect file name paths ends refusals sides lines =
    record { dialect = dialect; file = file; name = name; paths = paths; ends = ends; refusals = refusals; sides = sides; lines = lines }

-- the answers: of each path its refusal, and the side and line of the rule that leads after all rules that apply
pub record Answered (d : Dialect) (file name paths ends : List ℕ) (m m' : Memory) : Type 0 where
  pub stays : Stays (length ends) m m'
  pub refused : (j : ℕ) → j < length ends → get_or m'.refusals j 0 ≡ refusal (path_rows (path_at paths ends j))
  pub sided : (j : ℕ) → j < length ends
      → get_or m'.sides j 0 ≡ side_for (refusal (path_rows (path_at paths ends j))) (led_over d file (readable_for file name) (path_at paths ends j) no_leader).side
  pub lined : (j : ℕ) → j < length ends → get_or m'.lines j 0 ≡ (led_over d file (readable_for file name) (path_at paths ends j) no_leader).line.number
