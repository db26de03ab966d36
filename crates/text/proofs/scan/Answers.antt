-- `text::scan` meets its contract. Assumes nothing.
use Rattle.std.proofs.Common.{◌≡◌, ◌∙◌, rules, tests}
use Rattle.std.specs.List.{position}
use Rattle.std.proofs.lemmas.Iterator.{YieldsList-from_slice}
use Rattle.std.proofs.lemmas.Iterator.Search.{position_from_yields_List}
use Rattle.text.specs.Parts.{sought}
use Rattle.text.proofs.Seeks.{as_sought, front_position}
use Rattle.text.proofs.scan.Goals as goal

pub returns : goal.returns
returns c =
    let a = c.args in
    let place : c.position.result ≡ position (sought a.sort a.inside) a.s.now
    = position_from_yields_List (sought a.sort a.inside) _ _ c.position.result c.position.ensures.ran (YieldsList-from_slice a.s.now cc)
    (λ x b q k. search (rules, tests, as_sought)) in
    c.unwrap_or.ensures ∙ rw place (front_position (sought a.sort a.inside) a.s.now)
