-- The literal octets are among those in front. Assumes nothing.
use Rattle.std.proofs.Common.{◌≡◌, ◌+◌, drop, ap, ◌∙◌, rules, tests}
use Rattle.std.specs.List.{position}
use Rattle.std.proofs.lemmas.Iterator.{YieldsList-from_slice}
use Rattle.std.proofs.lemmas.Iterator.Search.{position_from_yields_List}
use Rattle.lists.proofs.Scans.{rest_of}
use Rattle.protocol.specs.Normal.{is_encoded}
use Rattle.normal.proofs.Literal.{as_encoded, front_position, kept_behind}
use Rattle.normal.proofs.kept_front.Goals as goal

pub returns-clause-kept : goal.returns-clause-kept
returns-clause-kept c =
    let stars = c.args.stars in
    let s = c.args.s.now in
    let n = c.literal_front-front.result in
    let place : c.position.result ≡ position (is_encoded stars) (drop n s)
    = position_from_yields_List (is_encoded stars) _ _ c.position.result c.position.ensures.ran (YieldsList-from_slice (drop n s) (c.iter.ensures.rest ∙ rest_of n s))
    (λ x b q k. search (rules, tests, as_encoded)) in
    ap (λ k. n + k) (c.unwrap_or.ensures ∙ rw (place, rest_of n s) (front_position (is_encoded stars) (drop n s)))
    ∙ kept_behind stars s n c.literal_front-front.ensures
