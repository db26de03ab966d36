-- Where the field's name, the colon and the value stand is inside of the text. Assumes nothing.
use Rattle.std.proofs.Common.{◌+◌, sym, ◌∙◌, arith}
use Rattle.text.proofs.Trims.{trim_fits}
use Rattle.fields.proofs.Heads.{colon_below, lead_inside, name_inside, colon_inside, head_other, head_none, head_some}
use Rattle.fields.proofs.head_of.Goals as goal

pub slice_bounds-field_at-count : goal.slice_bounds-field_at-count
slice_bounds-field_at-count c = omega (arith, c.lead-start.ensures, trim_fits c.args.r.now)

pub slice_bounds-field_at-start : goal.slice_bounds-field_at-start
slice_bounds-field_at-start c = omega (arith, c.lead-start.ensures, trim_fits c.args.r.now)

pub returns-in_err-field : goal.returns-in_err-field
returns-in_err-field c = rw c.from_residual.ensures (head_other c.args.r.now c.lead-start.result c.lead-start.ensures c.in_err-field.ensures)

pub overflow_add-after : goal.overflow_add-after
overflow_add-after c = omega (arith, c.name_length.ensures, name_inside c.args.r.now c.lead-start.result c.lead-start.ensures _ c.in_ok-field.ensures)

pub slice_bounds-lead-count : goal.slice_bounds-lead-count
slice_bounds-lead-count c = omega (arith, c.name_length.ensures, name_inside c.args.r.now c.lead-start.result c.lead-start.ensures _ c.in_ok-field.ensures)

pub slice_bounds-lead-start : goal.slice_bounds-lead-start
slice_bounds-lead-start c = omega (arith, c.name_length.ensures, name_inside c.args.r.now c.lead-start.result c.lead-start.ensures _ c.in_ok-field.ensures)

pub overflow_add-colon : goal.overflow_add-colon
overflow_add-colon c = omega (arith, colon_inside c.args.r.now c.lead-start.result c.lead-start.ensures c.in_ok-field.field c.in_ok-field.ensures (c.lead-start.result + c.name_length.result) (c.lead-start.result + c.name_length.result + c.lead.result) (omega arith) (omega arith))

pub returns-then-not-colon_at : goal.returns-then-not-colon_at
returns-then-not-colon_at c = head_none c.args.r.now c.lead-start.result c.lead-start.ensures c.in_ok-field.field c.in_ok-field.ensures (c.lead-start.result + c.name_length.result) (c.lead-start.result + c.name_length.result + c.lead.result) (omega arith) (omega arith) (sym c.colon_at.ensures ∙ c.if-not-colon_at.true)

pub overflow_add-behind : goal.overflow_add-behind
overflow_add-behind c = omega (arith, colon_below c.args.r.now (c.lead-start.result + c.name_length.result + c.lead.result) (sym c.colon_at.ensures ∙ c.if-not-colon_at.false))

pub slice_bounds-lead-count-2 : goal.slice_bounds-lead-count-2
slice_bounds-lead-count-2 c = omega (arith, colon_below c.args.r.now (c.lead-start.result + c.name_length.result + c.lead.result) (sym c.colon_at.ensures ∙ c.if-not-colon_at.false))

pub slice_bounds-lead-start-2 : goal.slice_bounds-lead-start-2
slice_bounds-lead-start-2 c = omega (arith, colon_below c.args.r.now (c.lead-start.result + c.name_length.result + c.lead.result) (sym c.colon_at.ensures ∙ c.if-not-colon_at.false))

pub overflow_add-value : goal.overflow_add-value
overflow_add-value c = let below = colon_below c.args.r.now (c.lead-start.result + c.name_length.result + c.lead.result) (sym c.colon_at.ensures ∙ c.if-not-colon_at.false) in omega (arith, below, c.lead-2.ensures, lead_inside c.args.r.now ((c.lead-start.result + c.name_length.result + c.lead.result) + 1) (omega arith))

pub returns : goal.returns
returns c = head_some c.args.r.now c.lead-start.result c.lead-start.ensures c.in_ok-field.field c.in_ok-field.ensures (c.lead-start.result + c.name_length.result) (c.lead-start.result + c.name_length.result + c.lead.result) (omega arith) (omega arith) ((c.lead-start.result + c.name_length.result + c.lead.result) + 1 + c.lead-2.result) (sym c.colon_at.ensures ∙ c.if-not-colon_at.false) (omega arith)
