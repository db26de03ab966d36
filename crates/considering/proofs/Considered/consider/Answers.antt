-- There is room for the numbers of the walk. Assumes nothing.
use Rattle.std.proofs.Common.{ap, arith}
use Rattle.considering.proofs.Rooms.{weight_fits, count_fits, sum_fits}
use Rattle.considering.proofs.Considered.consider.Goals as goal

pub weigh-requires : goal.weigh-requires
weigh-requires c =
    let a = c.args in
    (c.requires.lent, weight_fits a.dialect a.pattern.now a.path.now a.scratch.now a.self c.requires, count_fits a.dialect a.pattern.now a.path.now a.scratch.now a.self c.requires)

pub add-requires : goal.add-requires
add-requires c =
    let a = c.args in
    omega (arith, ap (λ w. w.compared) c.weigh.ensures.value, sum_fits a.dialect a.pattern.now a.path.now a.scratch.now a.self c.requires)
