-- The value that a head tells is inside of the text. Assumes nothing.
use Rattle.std.proofs.Common.{ℕ, List, ◌≡◌, ◌+◌, ◌∙◌, ap, length, arith}
use Rattle.lists.proofs.Scans.{up_to_fits}
use Rattle.protocol.specs.Octets.{line_end}
use Rattle.protocol.specs.Lines.{place_at}
use Rattle.fields.specs.Fields.{value_at, kind_as}
use Rattle.fields.proofs.Heads.{head_inside, head_within, kind_head}
use Rattle.kinds.proofs.Fronts.{value_of}
use Rattle.kinds.proofs.entry.entry_at.Goals as goal

-- the value's octets, as they are told
read : (c : goal.After-kind_with-kind) → c.value_in-value.result.octets.now ≡ value_at c.args.head.value c.args.r.now
read c = c.value_in-value.ensures ∙ value_of c.args.r.now c.args.head.value

pub slice_bounds-value_in-count : goal.slice_bounds-value_in-count
slice_bounds-value_in-count c = head_inside c.args.r.now c.args.head c.requires

pub slice_bounds-value_in-start : goal.slice_bounds-value_in-start
slice_bounds-value_in-start c = head_inside c.args.r.now c.args.head c.requires

pub overflow_add-end : goal.overflow_add-end
overflow_add-end c =
    omega (arith, ap length (read c), head_within c.args.r.now c.args.head c.requires, up_to_fits line_end c.args.r.now)

pub returns-clause-kind : goal.returns-clause-kind
returns-clause-kind c =
    c.kind_with-kind.ensures ∙ ap (kind_as c.args.head.field c.args.head.value) (read c) ∙ kind_head c.args.r.now c.args.head c.requires

pub returns-clause-end : goal.returns-clause-end
returns-clause-end c = ap (λ (v : List ℕ). place_at (c.args.head.value.offset + length v)) (read c)
