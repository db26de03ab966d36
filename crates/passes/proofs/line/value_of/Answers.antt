-- Assumes nothing.
use Rattle.std.proofs.Common.{ap, arith}
use Rattle.passes.proofs.Lines.{value_fits, value_read}
use Rattle.passes.proofs.line.value_of.Goals as goal

pub slice_bounds-result-end : goal.slice_bounds-result-end
slice_bounds-result-end c =
    let a = c.args in
    omega (arith, ap (λ p. p.offset) c.value_end-end.ensures, value_fits a.file.now a.at c.requires.0 a.kind c.requires.1)

pub returns : goal.returns
returns c =
    let a = c.args in
    value_read a.file.now a.at c.requires.0 a.kind c.requires.1 _ _ (ap (λ p. p.offset) c.value_end-end.ensures) c.length_of.ensures
