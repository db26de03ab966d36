-- `text::holds_line_end` meets its contract. Assumes nothing.
use Rattle.std.proofs.Common.{◌∙◌, drop, rules, tests}
use Rattle.std.proofs.lemmas.Iterator.{YieldsList-from_slice}
use Rattle.std.proofs.lemmas.Iterator.Search.{any_from_yields_List}
use Rattle.lists.proofs.Scans.{rest_of}
use Rattle.protocol.specs.Octets.{line_end}
use Rattle.text.proofs.Seeks.{end_behind}
use Rattle.text.proofs.holds_line_end.Goals as goal

pub returns : goal.returns
returns c =
    let s = c.args.s.now in
    any_from_yields_List line_end c.any.new.self _ c.any.result c.any.ensures.ran (YieldsList-from_slice (drop c.front.result s) (c.iter.ensures.rest ∙ rest_of c.front.result s)) (λ x b q k. search (rules, tests))
    ∙ end_behind s c.front.result c.front.ensures
