-- How much one rule can add to the pairs compared, and that its numbers fit. Assumes nothing.
use Prim.Native.Nat.{ℕ, ◌+◌, ◌*◌, ◌≤◌, ◌<◌, ◌^◌}
use mathlib.Core.List.{List}
use native.Mathlib.Omega.{arith}
use native.Mathlib.Nat.{mul-le-mul}
use lib.ListN.{length}
use Rattle.lists.proofs.Bools.{split}
use Rattle.protocol.specs.declared.Dialect.{Dialect}
use Rattle.protocol.specs.declared.Rule.{Rule}
use Rattle.protocol.specs.Pattern.{shape_in, weight}
use Rattle.protocol.proofs.Counted.{walk_bound}
use Rattle.protocol.proofs.Sizes.{weight_in_size}
use Rattle.walk.specs.Weights.{CountFits, weighed}
use Rattle.considering.specs.declared.Considered.{Considered}
use Rattle.considering.specs.Considering.{best_with, settled, walked_once, considered, Room}
use Rattle.considering.proofs.Leads.{added_count}

module _ (d : Dialect) (pattern path : List ℕ) (short : length path ≤ 6_142) where
  -- An octet of a pattern adds at most 18,426 pairs.
  weighed_most : (weighed d pattern path).compared ≤ 18_426 * length pattern
  unfolding weighed
  weighed_most =
      let w : weight (shape_in d pattern) ≤ 3 * length pattern = weight_in_size d pattern in
      omega (arith, walk_bound (shape_in d pattern) path, mul-le-mul w short)

  pub considered_most : (r : Rule) (c : Considered) → (considered d pattern path r c).compared ≤ c.compared + 18_426 * length pattern
  unfolding considered walked_once
  considered_most r c =
      split (settled d c)
      (λ e. rw e (omega arith))
      (λ e. rw e (omega (arith, added_count r.side (best_with r (weighed d pattern path).weight) (weighed d pattern path).compared c, weighed_most)))

module _ (d : Dialect) (pattern path scratch : List ℕ) (c : Considered) (room : Room pattern path scratch c) where
  pub weight_fits : weight (shape_in d pattern) < 2 ^ 64
  weight_fits = omega (arith, weight_in_size d pattern, room.size)

  pub count_fits : CountFits (shape_in d pattern) path
  count_fits =
      let w : weight (shape_in d pattern) ≤ 1_536_000 = omega (arith, weight_in_size d pattern, room.size) in
      omega (arith, mul-le-mul w room.short)

  pub sum_fits : c.compared + (weighed d pattern path).compared < 2 ^ 64
  sum_fits = omega (arith, weighed_most d pattern path room.short, room.compared)
