-- What the fold finds is whether any opens an agent line.
use Rattle.std.proofs.Common.{rules, tests, Bool, false, ◌||◌, ℕ, not, ap, ◌∙◌}
use Rattle.std.specs.List.{zip}
use Rattle.std.proofs.lemmas.Iterator.{YieldsList-from_slice, YieldsList-from_zip}
use Rattle.std.proofs.lemmas.Iterator.Consumers.{fold_from_yields_List}
use Rattle.lines.specs.Skips.{agent_octet, opens}
use Rattle.lines.proofs.Pairs.{any_fold}
use Rattle.lines.proofs.skip.is_quiet.Goals as goal

pub returns : goal.returns
returns c =
    let b = c.args.b.now in
    let behind = c.args.behind.now in
    let found = fold_from_yields_List _ (λ (f : Bool) (x : ℕ × ℕ). f || opens agent_octet x) false c.fold.result c.fold.ensures.ran
    (YieldsList-from_zip (YieldsList-from_slice b cc) (YieldsList-from_slice behind cc)) (λ f x r q k. search (rules, tests)) in
    ap not (found ∙ any_fold (opens agent_octet) false (zip b behind))
