-- No more lines begin than there are octets. Assumes nothing.
use Rattle.std.proofs.Common.{◌+◌, refl, ap, arith}
use Rattle.lines.proofs.Skips.{few_between}
use Rattle.protocol.specs.Lines.{line_number}
use Rattle.passes.proofs.gather.jump.Goals as goal

pub overflow_add-count : goal.overflow_add-count
overflow_add-count c =
    let a = c.args in
    omega (arith, c.count_endings.ensures, few_between a.file.now a.at.place a.to, c.requires, c.if-file-to.false)

pub returns : goal.returns
returns c =
    let a = c.args in
    record {
      place = refl;
      counted = omega (arith, c.count_endings.ensures, few_between a.file.now a.at.place a.to, c.requires);
      number = λ i. ap (λ k. line_number (a.at.number.number + k)) c.count_endings.ensures;
    }
