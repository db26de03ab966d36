-- The octet behind the field's place, and whether anything stands there, tell. Assumes nothing.
use Rattle.std.proofs.Common.{◌∙◌, sym, arith}
use Rattle.text.proofs.Trims.{trim_fits}
use Rattle.kinds.proofs.Idle.{idle_other, idle_blank, idle_noise}
use Rattle.kinds.proofs.line.idle_kind.Goals as goal

pub slice_bounds-rest-count : goal.slice_bounds-rest-count
slice_bounds-rest-count c = omega (arith, c.lead-start.ensures, trim_fits c.args.r.now)

pub slice_bounds-rest-start : goal.slice_bounds-rest-start
slice_bounds-rest-start c = omega (arith, c.lead-start.ensures, trim_fits c.args.r.now)

pub returns-then-colon_at : goal.returns-then-colon_at
returns-then-colon_at c =
    idle_other c.args.r.now c.lead-start.result c.scan-n.result c.lead-start.ensures c.scan-n.ensures (sym c.colon_at.ensures ∙ c.if-colon_at.true) c.requires

pub returns-then-n-eq0 : goal.returns-then-n-eq0
returns-then-n-eq0 c =
    idle_blank c.args.r.now c.lead-start.result c.scan-n.result c.lead-start.ensures c.scan-n.ensures (sym c.colon_at.ensures ∙ c.if-colon_at.false) c.if-n-eq0.true

pub returns : goal.returns
returns c =
    idle_noise c.args.r.now c.lead-start.result c.scan-n.result c.lead-start.ensures c.scan-n.ensures (sym c.colon_at.ensures ∙ c.if-colon_at.false) c.if-n-eq0.false
