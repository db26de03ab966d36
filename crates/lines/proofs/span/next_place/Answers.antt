-- The line's text ends near its place, or where the text's end is looked for.
use Rattle.std.proofs.Common.{arith, drop, length-drop, ◌∙◌}
use Rattle.lists.proofs.Scans.{rest_of}
use Rattle.protocol.proofs.FrontToBack.{line_fits}
use Rattle.lines.proofs.Forward.{next_of, ends_there}
use Rattle.lines.proofs.span.next_place.Goals as goal

pub behind_end-requires : goal.behind_end-requires
behind_end-requires c = ends_there c.args.file.now c.args.from c.line_end.result c.line_end.ensures

pub returns : goal.returns
returns c = c.behind_end.ensures ∙ next_of c.args.file.now c.args.from c.line_end.result c.line_end.ensures

pub overflow_add-result : goal.overflow_add-result
overflow_add-result c = let k = rw (rest_of c.args.from.offset c.args.file.now) at c.in-Some.ensures in omega (arith, k, line_fits (drop c.args.from.offset c.args.file.now), length-drop c.args.from.offset c.args.file.now)
