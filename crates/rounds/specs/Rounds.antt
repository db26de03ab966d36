-- What the lent memory holds of each path, from round to round. Assumes nothing.
use Rattle.std.specs.Prelude.{ℕ, ◌<◌, ◌≡◌, List, eqb, length, get_or, set, if◌then◌else◌}
use Rattle.protocol.specs.declared.Dialect.{Dialect}
use Rattle.protocol.specs.declared.Rule.{Rule}
use Rattle.protocol.specs.Lines.{line_number}
use Rattle.protocol.specs.Normal.{normal_path}
use Rattle.protocol.specs.Refusals.{path_rows, refusal}
use Rattle.protocol.specs.Decision.{is_robots_file}
use Rattle.listing.specs.Listing.{path_at}
use Rattle.listing.specs.Memory.{Memory, Stays}
use Rattle.leading.specs.declared.Leader.{Leader}
use Rattle.leading.specs.Leading.{led_all}

-- Between the rounds the memory holds the leader of each path: its weight stands among the refusals, which are written last
abbrev pub leader_in : Memory → ℕ → Leader
leader_in m j = record { weight = get_or m.refusals j 0; side = get_or m.sides j 0; line = line_number (get_or m.lines j 0) }

-- the leader for a normalised path, after some rules more: none leads for /robots.txt
abbrev pub led_for : Dialect → List ℕ → List Rule → List ℕ → Leader → Leader
led_for d file rs path l = if is_robots_file path then l else led_all d file path l rs

-- for a raw path: none leads for one that is refused
unfoldable pub led_over : Dialect → List ℕ → List Rule → List ℕ → Leader → Leader
led_over d file rs path l = if eqb (refusal (path_rows path)) 0 then led_for d file rs (normal_path path) l else l

-- after some rules more for one path, at place i
pub record Placed (d : Dialect) (file : List ℕ) (rs : List Rule) (path : List ℕ) (i : ℕ) (m m' : Memory) : Type 0 where
  pub refusals : m'.refusals ≡ set m.refusals i (led_over d file rs path (leader_in m i)).weight
  pub sides : m'.sides ≡ set m.sides i (led_over d file rs path (leader_in m i)).side
  pub lines : m'.lines ≡ set m.lines i (led_over d file rs path (leader_in m i)).line.number

-- after a round with some rules more, for each path
pub record Round (d : Dialect) (file : List ℕ) (rs : List Rule) (paths ends : List ℕ) (m m' : Memory) : Type 0 where
  pub stays : Stays (length ends) m m'
  pub led : (j : ℕ) → j < length ends → leader_in m' j ≡ led_over d file rs (path_at paths ends j) (leader_in m j)
