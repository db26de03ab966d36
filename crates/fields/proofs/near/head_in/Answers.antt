-- A known field's value begins inside of the text. Assumes nothing.
use Rattle.std.proofs.Common.{sym, ◌∙◌, arith}
use Rattle.fields.proofs.Rows.{name_most}
use Rattle.fields.proofs.Nears.{near_other, near_head}
use Rattle.fields.proofs.near.head_in.Goals as goal

pub returns-then-start-eq0 : goal.returns-then-start-eq0
returns-then-start-eq0 c = near_other c.args.r.now c.in_default.ensures (sym c.lead-start.ensures ∙ c.if-start-eq0.true)

pub near_value-requires : goal.near_value-requires
near_value-requires c = omega (arith, c.name_length.ensures, name_most c.in-Some.field)

pub returns-in-Some-near_value : goal.returns-in-Some-near_value
returns-in-Some-near_value c = near_head c.args.r.now c.in-Some.field c.name_length.result c.in-Some-near_value.value c.in-Some.ensures c.name_length.ensures c.in-Some-near_value.ensures
