-- A value is what is left without spaces and tabs at the end, in front of the first stop. Assumes nothing.
use Rattle.std.proofs.Common.{ℕ, List, ◌∙◌, ap, sym, arith, length, take}
use lib.Seq.{length-take-le}
use Rattle.lists.proofs.Scans.{take_up_to, up_to_fits}
use Rattle.protocol.specs.Text.{trim_end}
use Rattle.protocol.specs.Classes.{stop}
use Rattle.kinds.proofs.line.value_length.Goals as goal

pub slice_bounds-trimmed_length-end : goal.slice_bounds-trimmed_length-end
slice_bounds-trimmed_length-end c = sym (length-take-le c.scan-end.result c.args.s.now (omega (arith, c.scan-end.ensures, up_to_fits stop c.args.s.now)))

pub returns : goal.returns
returns c =
    c.trimmed_length.ensures
    ∙ ap (λ (l : List ℕ). length (trim_end l)) (ap (λ (n : ℕ). take n c.args.s.now) c.scan-end.ensures ∙ take_up_to stop c.args.s.now)
