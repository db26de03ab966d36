-- The number says what the demands do. Assumes nothing.
use Rattle.std.proofs.Common.{◌≡◌, rules}
use Rattle.protocol.specs.Answers.{decide, side_number}
use Rattle.protocol.proofs.Demands.{decide_number}
use Rattle.robots.proofs.robots_decide_disallow.Goals as goal

pub returns-clause-variant : goal.returns-clause-variant
returns-clause-variant c =
    let a = c.args in
    let value : c.map_or.result ≡ side_number (decide a.dialect a.file.now a.name.now a.path.now).side = search rules in
    rw value (decide_number a.dialect a.file.now a.name.now a.path.now)
