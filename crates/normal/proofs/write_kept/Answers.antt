-- Behind the last of them nothing is left to copy. Assumes nothing.
use Rattle.std.proofs.Common.{◌≤◌, ◌∙◌, ap, length, take, arith}
use lib.ListN.{drop_of_length-le}
use lib.Seq.{sets, length-take-le}
use Rattle.lists.proofs.Scans.{take_up_to}
use Rattle.protocol.specs.Normal.{is_encoded}
use Rattle.normal.proofs.Steps.{all_stored}
use Rattle.normal.proofs.write_kept.Goals as goal

pub returns-clause-written : goal.returns-clause-written
returns-clause-written c =
    let s = c.args.s.now in
    let n = c.kept_front-n.result in
    let kept = c.kept_front-n.ensures.kept in
    let last : length (take n s) ≤ c.loop-i.i = omega (arith, length-take-le n s c.kept_front-n.ensures.inside) in
    (all_stored c.loop-i.invariant (drop_of_length-le (take n s) last)).1
    ∙ ap (λ l. sets c.args.out.now 0 l) (ap (λ k. take k s) kept ∙ take_up_to (is_encoded c.args.stars) s)
