-- A round is a table of rules more, and at the file's end none is left. Assumes nothing.
use Rattle.std.proofs.Common.{refl, arith, rules}
use Rattle.listing.specs.Memory.{held}
use Rattle.listing.proofs.Tails.{same_trans}
use Rattle.collecting.specs.Left.{first_pass}
use Rattle.collecting.proofs.Rounds.{left_none}
use Rattle.rounds.proofs.Rounding.{gone_none, gone_on, gone_end}
use Rattle.rounds.proofs.rounds.Goals as goal

pub loop-pass-init : goal.loop-pass-init
loop-pass-init c =
    let a = c.args in
    record {
      same = search rules;
      gone =
          rw c.first_pass-pass.ensures
          (gone_none a.dialect a.file.now a.who.now a.paths.joined.now a.paths.ends.now (first_pass a.file.now) (held a.answers.now) (omega arith));
      room = refl;
    }

pub loop-pass-preserved : goal.loop-pass-preserved
loop-pass-preserved c =
    record {
      same = same_trans c.loop-pass.invariant.same c.round.ensures.same;
      gone = gone_on c.loop-pass.invariant.gone c.collect-collected.ensures c.round.ensures.round;
      room = omega (arith, c.collect-collected.ensures.same, c.loop-pass.invariant.room);
    }

pub returns-clause-round : goal.returns-clause-round
returns-clause-round c =
    gone_end c.loop-pass.invariant.gone (left_none c.args.file.now c.args.who.now c.loop-pass.pass (omega (arith, c.loop-pass-test.false)))
