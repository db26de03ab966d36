-- What is left behind the front holds such an octet exactly if the whole does. Assumes nothing.
use Rattle.std.proofs.Common.{rules, tests, drop}
use mathlib.Core.Path.{◌∙◌}
use Rattle.std.proofs.lemmas.Iterator.{YieldsList-from_slice}
use Rattle.std.proofs.lemmas.Iterator.Search.{any_from_yields_List}
use Rattle.lists.proofs.Library.{any_is}
use Rattle.lists.proofs.Scans.{rest_of}
use Rattle.protocol.specs.Refusals.{outside_path}
use Rattle.paths.proofs.Refused.{front_passed}
use Rattle.paths.proofs.holds_outside.Goals as goal

pub returns : goal.returns
returns c =
    let whole = c.args.path.now in
    let front = c.fit_front-front.result in
    any_from_yields_List outside_path _ _ _ c.any.ensures.ran (YieldsList-from_slice (drop front whole) (c.iter.ensures.rest ∙ rest_of front whole)) (λ x b q k. search (rules, tests))
    ∙ any_is outside_path _
    ∙ front_passed whole front c.fit_front-front.ensures.clear
