-- A path that stays as it is, and one that is written. Assumes nothing.
use Rattle.std.proofs.Common.{◌∙◌, ap, sym, arith}
use Rattle.protocol.specs.Normal.{normal_path}
use Rattle.protocol.proofs.Limits.{path_room}
use Rattle.normal.proofs.Literal.{kept_path}
use Rattle.walk.proofs.Scratch.{front_read}
use Rattle.rounds.specs.Rounds.{led_for}
use Rattle.rounds.specs.Tabled.{rules_in}
use Rattle.rounds.proofs.Table.lead_path.Goals as goal

pub lead_normal-requires : goal.lead_normal-requires
lead_normal-requires c =
    let path = c.args.path.now in
    rw (kept_path path (sym c.may_change.ensures ∙ c.if-not-may_change.true)) at (path_room path c.requires)

pub returns-then-not-may_change : goal.returns-then-not-may_change
returns-then-not-may_change c =
    let path = c.args.path.now in
    rw (kept_path path (sym c.may_change.ensures ∙ c.if-not-may_change.true)) c.lead_normal.ensures

pub write-n-requires : goal.write-n-requires
unfolding normal_path
write-n-requires c = omega (arith, path_room c.args.path.now c.requires)

pub lead_normal-requires-2 : goal.lead_normal-requires-2
unfolding normal_path
lead_normal-requires-2 c =
    rw (front_read (normal_path c.args.path.now) _ _ _ c.write-n.ensures.0 c.write-n.ensures.1) (path_room c.args.path.now c.requires)

pub returns : goal.returns
unfolding normal_path
returns c =
    c.lead_normal-2.ensures
    ∙ ap (λ p. led_for c.args.self.now.dialect c.args.self.now.file.now (rules_in c.args.self.now) p c.args.leader) (front_read (normal_path c.args.path.now) _ _ _ c.write-n.ensures.0 c.write-n.ensures.1)
