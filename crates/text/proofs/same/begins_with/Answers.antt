-- `text::same::begins_with` meets its contract. Assumes nothing.
use Rattle.std.proofs.Common.{ℕ, ◌≡◌, ◌<◌, ◌≤◌, ◌∙◌, length, take, eqb, rules, tests}
use Rattle.std.proofs.lemmas.Iterator.{YieldsList-from_slice, YieldsList-from_zip}
use Rattle.std.proofs.lemmas.Iterator.Search.{all_from_yields_List}
use Rattle.protocol.specs.Octets.{lower_case}
use Rattle.text.proofs.Comparing.{case_short, case_pairs}
use Rattle.text.proofs.same.begins_with.Goals as goal

pub returns-in-Some : goal.returns-in-Some
returns-in-Some c =
    let s = c.args.s.now in
    let w = c.args.word.now in
    let front : c.in-Some.front.now ≡ take (length w) s = search rules in
    let fits : length w ≤ length s = search rules in
    all_from_yields_List (λ (p : ℕ × ℕ). eqb (lower_case p.0) (lower_case p.1)) c.all.new.self _ c.all.result c.all.ensures.ran
    (YieldsList-from_zip (YieldsList-from_slice (take (length w) s) cc) (YieldsList-from_slice w cc)) (λ x b q k. search (rules, tests))
    ∙ case_pairs s w fits

pub returns-in-None : goal.returns-in-None
returns-in-None c =
    let short : length c.args.s.now < length c.args.word.now = search rules in
    case_short c.args.s.now c.args.word.now short
