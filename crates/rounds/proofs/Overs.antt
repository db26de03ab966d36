-- Rules one behind the other, for a path that may be refused or always allowed. Assumes nothing.
use mathlib.Core.Path.{◌≡◌, sym}
use mathlib.Core.List.{List, [], ◌++◌}
use Prim.Native.Nat.{ℕ}
use lib.Dec.{eqb}
use Rattle.lists.proofs.Bools.{split}
use Rattle.protocol.specs.declared.Dialect.{Dialect}
use Rattle.protocol.specs.declared.Rule.{Rule}
use Rattle.protocol.specs.Normal.{normal_path}
use Rattle.protocol.specs.Refusals.{path_rows, refusal}
use Rattle.protocol.specs.Decision.{is_robots_file}
use Rattle.leading.specs.declared.Leader.{Leader}
use Rattle.leading.proofs.Leaders.{led_none, led_append}
use Rattle.rounds.specs.Rounds.{led_over}

module _ (d : Dialect) (file path : List ℕ) (l : Leader) where
  -- no rules change nothing,
  pub over_none : led_over d file [] path l ≡ l
  unfolding led_over
  over_none =
      split (eqb (refusal (path_rows path)) 0)
      (λ e. rw e (split (is_robots_file (normal_path path)) (λ r. rw r) (λ r. rw r (led_none d file (normal_path path) l))))
      (λ e. rw e)

  -- and rules in two parts are those one behind the other
  pub over_append : (rs ss : List Rule) → led_over d file ss path (led_over d file rs path l) ≡ led_over d file (rs ++ ss) path l
  unfolding led_over
  over_append rs ss =
      split (eqb (refusal (path_rows path)) 0)
      (λ e. rw e (split (is_robots_file (normal_path path)) (λ r. rw r) (λ r. rw r (sym (led_append d file (normal_path path) l rs ss)))))
      (λ e. rw e)
