-- The number says whether some filling of the stars gives a beginning of the path. Assumes nothing.
use Rattle.std.proofs.Common.{◌≡◌, rules}
use Rattle.protocol.specs.Answers.{match_of, found_number}
use Rattle.protocol.proofs.MatchAnswer.{match_number}
use Rattle.robots.proofs.robots_match_found.Goals as goal

pub returns-clause-variant : goal.returns-clause-variant
returns-clause-variant c =
    let a = c.args in
    let value : c.map_or.result ≡ found_number (match_of a.pattern.now a.path.now).found = search rules in
    λ h. rw value (match_number a.pattern.now a.path.now h)
