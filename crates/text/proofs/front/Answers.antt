-- `text::front` meets its contract. Assumes nothing.
use Rattle.std.proofs.Common.{◌≡◌, ◌∙◌, rules, tests}
use Rattle.std.specs.List.{position}
use Rattle.std.proofs.lemmas.Iterator.{YieldsList-from_slice}
use Rattle.std.proofs.lemmas.Iterator.Search.{position_from_yields_List}
use Rattle.words.specs.Words.{among}
use Rattle.text.proofs.Seeks.{front_position}
use Rattle.text.proofs.front.Goals as goal

pub returns-then-s-lt8 : goal.returns-then-s-lt8
returns-then-s-lt8 c =
    let a = c.args in
    let place : c.position.result ≡ position (among a.low a.high a.inside) a.s.now
    = position_from_yields_List (among a.low a.high a.inside) _ _ c.position.result c.position.ensures.ran (YieldsList-from_slice a.s.now cc)
    (λ x b q k. search (rules, tests)) in
    c.unwrap_or.ensures ∙ rw place (front_position (among a.low a.high a.inside) a.s.now)
