-- Nothing is refused, so the path fits the room, and the count a number. Assumes nothing.
use Rattle.std.proofs.Common.{◌≤◌, ◌*◌, ◌∙◌, ℕ, List, false, length, sym, arith}
use Rattle.protocol.specs.Normal.{normal_path}
use Rattle.protocol.proofs.Sizes.{normal_size}
use Rattle.normal.proofs.Literal.{kept_path}
use Rattle.matching.proofs.Refusing.{count_fits}
use Rattle.matching.proofs.walk_path.Goals as goal

three-each : (path : List ℕ) → length (normal_path path) ≤ 3 * length path
unfolding normal_path
three-each path = normal_size false 0 path

pub walk_unchanged-requires-clause-count_fits : goal.walk_unchanged-requires-clause-count_fits
walk_unchanged-requires-clause-count_fits c =
    let path = c.args.path.now in
    rw (kept_path path (sym c.may_change.ensures ∙ c.if-not-may_change.true)) at (count_fits c.args.pattern.now path c.requires)

pub walk_unchanged-requires-else-short-clause-count_fits : goal.walk_unchanged-requires-else-short-clause-count_fits
walk_unchanged-requires-else-short-clause-count_fits c =
    let path = c.args.path.now in
    rw (kept_path path (sym c.may_change.ensures ∙ c.if-not-may_change.true)) at (count_fits c.args.pattern.now path c.requires)

pub walk_in_room-requires-clause-fits : goal.walk_in_room-requires-clause-fits
walk_in_room-requires-clause-fits c = omega (arith, three-each c.args.path.now)

pub walk_in_room-requires-then-path-le512-clause-fits : goal.walk_in_room-requires-then-path-le512-clause-fits
walk_in_room-requires-then-path-le512-clause-fits c = omega (arith, three-each c.args.path.now)
