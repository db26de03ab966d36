-- The digits that are left, in front of those that stand, are the whole number's, of at most 20. Assumes nothing.
use Rattle.std.proofs.Common.{◌∙◌, arith}
use Rattle.output.proofs.Decimals.{digit_moved, last_moved, digits_left}
use Rattle.output.proofs.line.Line.put_decimal.Goals as goal

pub put_text-requires : goal.put_text-requires
put_text-requires c = let l = c.loop-rest in omega (arith, digits_left c.args.n l.rest l.self c.args.self.now l.invariant, c.requires)

pub loop-rest-preserved : goal.loop-rest-preserved
loop-rest-preserved c =
    let l = c.loop-rest in rw c.put_text.ensures.value (digit_moved l.rest l.self c.loop-rest-test.true (omega arith) ∙ l.invariant)

pub put_text-requires-2 : goal.put_text-requires-2
put_text-requires-2 c = let l = c.loop-rest in omega (arith, digits_left c.args.n l.rest l.self c.args.self.now l.invariant, c.requires)

pub returns : goal.returns
returns c =
    let l = c.loop-rest in
    record {
      value = c.put_text-2.ensures.value ∙ last_moved l.rest l.self (omega arith) ∙ l.invariant;
      size = omega (arith, c.put_text-2.ensures.size, digits_left c.args.n l.rest l.self c.args.self.now l.invariant);
    }
