-- Whom an agent's value names. Assumes nothing.
use Prim.Native.Nat.{ℕ}
use mathlib.Core.Path.{◌≡◌, refl}
use mathlib.Core.Bool.{false, ◌&&◌, not}
use mathlib.Core.List.{List, [], ◌∷◌}
use Rattle.lists.specs.Lists.{empty, same}
use Rattle.protocol.specs.Text.{same_ignoring_case}
use Rattle.protocol.specs.Readable.{agent_name, readable_agent, names}

some_other : (n : List ℕ) → (not (empty n) && same_ignoring_case n []) ≡ false
unfolding same_ignoring_case same
some_other [] = refl
some_other (x ∷ n) = refl

-- no value names nobody
pub names_nobody : (v : List ℕ) → names v [] ≡ false
unfolding names readable_agent
names_nobody v = some_other (agent_name v)
