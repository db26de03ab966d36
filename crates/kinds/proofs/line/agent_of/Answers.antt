-- The agent's value is the one that begins at its place. Assumes nothing.
use Rattle.std.proofs.Common.{◌-◌, ◌∙◌, ap, sym, length, take, drop, arith}
use lib.Seq.{length-take-le}
use Rattle.protocol.specs.Kinds.{agent_at}
use Rattle.kinds.proofs.Fronts.{value_fits, value_at_lem}
use Rattle.kinds.proofs.line.agent_of.Goals as goal

pub slice_bounds-agent_at-end : goal.slice_bounds-agent_at-end
slice_bounds-agent_at-end c =
    let r = c.args.r.now in
    let at = c.args.value.offset in
    sym (length-take-le _ _ (omega (arith, c.value_length.ensures, value_fits (take (length r - at) (drop at r)))))

pub returns : goal.returns
returns c = c.agent_at.ensures ∙ ap (agent_at c.args.value) (value_at_lem c.args.r.now c.args.value c.value_length.result c.value_length.ensures)
