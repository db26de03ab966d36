-- A value ends inside of the file. Assumes nothing.
use Rattle.std.proofs.Common.{ap, arith}
use Rattle.passes.proofs.Lines.{value_fits}
use Rattle.passes.proofs.line.value_end.Goals as goal

pub overflow_add-result : goal.overflow_add-result
overflow_add-result c =
    let a = c.args in
    omega (arith, ap (λ p. p.offset) c.place_of-place.ensures, value_fits a.file.now a.at c.requires.0 a.kind c.requires.1)

pub overflow_add-result-2 : goal.overflow_add-result-2
overflow_add-result-2 c =
    let a = c.args in
    omega (arith, ap (λ p. p.offset) c.place_of-place.ensures, c.length_of.ensures, value_fits a.file.now a.at c.requires.0 a.kind c.requires.1)
