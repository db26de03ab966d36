-- The row is one of the table's, and the name no longer than a row. Assumes nothing.
use Rattle.std.proofs.Common.{◌∙◌, sym}
use lib.Seq.{length-take-le}
use Rattle.protocol.specs.Text.{octets}
use Rattle.fields.proofs.Rows.{name_in_row, begins_row}
use Rattle.fields.proofs.Field.begins.Goals as goal

pub slice_bounds-name-end : goal.slice_bounds-name-end
unfolding octets
slice_bounds-name-end c = name_in_row c.args.self c.row.result c.name_length.result c.row.ensures c.name_length.ensures

pub slice_bounds-begins_with-end : goal.slice_bounds-begins_with-end
unfolding octets
slice_bounds-begins_with-end c =
    sym (length-take-le c.name_length.result _ (name_in_row c.args.self c.row.result c.name_length.result c.row.ensures c.name_length.ensures))

pub returns : goal.returns
unfolding octets
returns c = c.begins_with.ensures ∙ begins_row c.args.s.now c.args.self c.row.result c.name_length.result c.row.ensures c.name_length.ensures
