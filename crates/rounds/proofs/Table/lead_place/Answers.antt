-- A refused path is passed over, and any other's leader is stored. Assumes nothing.
use Rattle.std.proofs.Common.{◌∙◌, sym}
use Rattle.rounds.specs.Tabled.{rules_in}
use Rattle.listing.specs.Memory.{held}
use Rattle.rounds.proofs.Rounding.{refused_known, answered_known, placed_refused, placed_led}
use Rattle.rounds.proofs.Table.lead_place.Goals as goal

pub returns-then-is_err-clause-placed : goal.returns-then-is_err-clause-placed
returns-then-is_err-clause-placed c =
    let t = c.args.self.now in
    placed_refused t.dialect t.file.now (rules_in t) c.args.path.now c.args.i (held c.args.answers.now)
    (refused_known c.check_path.result c.check_path.ensures (sym c.is_err.ensures.value ∙ c.if-is_err.true))

pub lead_path-leader-requires : goal.lead_path-leader-requires
lead_path-leader-requires c = answered_known c.check_path.result c.check_path.ensures (sym c.is_err.ensures.value ∙ c.if-is_err.false)

pub returns-clause-placed : goal.returns-clause-placed
returns-clause-placed c =
    let t = c.args.self.now in
    rw c.store.ensures.stored
    (placed_led t.dialect t.file.now (rules_in t) c.args.path.now c.args.i (held c.args.answers.now)
    (answered_known c.check_path.result c.check_path.ensures (sym c.is_err.ensures.value ∙ c.if-is_err.false)) _ (rw c.leader_at-before.ensures at c.lead_path-leader.ensures))
