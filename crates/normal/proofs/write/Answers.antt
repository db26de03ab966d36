-- What is left is written behind the octets in front that stay. Assumes nothing.
use Rattle.std.proofs.Common.{refl, arith}
use Rattle.lists.proofs.Scans.{rest_of}
use Rattle.normal.proofs.Steps.{kept_shorter, normal_end, front_stored, rest_stored}
use Rattle.normal.proofs.write.Goals as goal

pub write_kept-n-requires : goal.write_kept-n-requires
write_kept-n-requires c = omega (arith, kept_shorter c.args.stars c.args.s.now, c.requires)

pub returns-then-n-s : goal.returns-then-n-s
returns-then-n-s c =
    let a = c.args in
    rest_stored a.stars a.s.now a.out.now _ _ (c.write_kept-n.ensures.kept, c.write_kept-n.ensures.written) c.requires
    (rw (normal_end a.stars a.s.now c.write_kept-n.result (omega arith)) (omega arith, refl))

pub write_rest-requires : goal.write_rest-requires
write_rest-requires c =
    let a = c.args in
    rw rest_of (omega (arith, front_stored a.stars a.s.now a.out.now _ _ (c.write_kept-n.ensures.kept, c.write_kept-n.ensures.written), c.requires))

pub returns : goal.returns
returns c =
    let a = c.args in
    rest_stored a.stars a.s.now a.out.now _ _ (c.write_kept-n.ensures.kept, c.write_kept-n.ensures.written) c.requires
    (rw rest_of at c.write_rest.ensures.past, rw rest_of at c.write_rest.ensures.written)
