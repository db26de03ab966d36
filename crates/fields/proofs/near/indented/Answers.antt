-- What stands behind the spaces and tabs tells the head. Assumes nothing.
use Rattle.std.proofs.Common.{◌+◌, ap, refl, length, length-drop, arith}
use Rattle.lists.proofs.Scans.{rest_of}
use Rattle.text.proofs.Trims.{trim_fits}
use Rattle.fields.proofs.Heads.{head_other}
use Rattle.fields.proofs.Rows.{name_most}
use Rattle.fields.proofs.Nears.{near_from, near_most}
use Rattle.fields.proofs.near.indented.Goals as goal

pub slice_bounds-rest-count : goal.slice_bounds-rest-count
slice_bounds-rest-count c = omega (arith, c.requires, trim_fits c.args.r.now)

pub slice_bounds-rest-start : goal.slice_bounds-rest-start
slice_bounds-rest-start c = omega (arith, c.requires, trim_fits c.args.r.now)

pub returns-in_default : goal.returns-in_default
returns-in_default c = head_other c.args.r.now c.args.start c.requires c.in_default.ensures

pub near_value-requires : goal.near_value-requires
near_value-requires c = omega (arith, c.name_length.ensures, name_most c.in-Some.field)

pub overflow_add-place : goal.overflow_add-place
overflow_add-place c =
    omega (
      arith,
      c.requires,
      trim_fits c.args.r.now,
      near_most c.name_length.result c.in_ok-value.value _ c.in_ok-value.ensures,
      c.name_length.ensures,
      name_most c.in-Some.field,
      ap length (rest_of c.args.start c.args.r.now),
      length-drop c.args.start c.args.r.now,
    )

pub returns : goal.returns
returns c =
    near_from c.args.r.now c.args.start _ c.in-Some.field c.name_length.result c.in_ok-value.value (c.args.start + c.in_ok-value.value) c.requires (rest_of c.args.start c.args.r.now)
    c.in-Some.ensures c.name_length.ensures c.in_ok-value.ensures refl
