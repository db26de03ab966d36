-- The octet there is the first of the text from there on. Assumes nothing.
use Rattle.std.proofs.Common.{◌∙◌, arith}
use Rattle.lists.proofs.Scans.{drop_one}
use Rattle.protocol.specs.Octets.{upper, lower_case}
use Rattle.fields.proofs.near.may_be_agent.Goals as goal

pub returns-in-Some : goal.returns-in-Some
unfolding lower_case upper
returns-in-Some c =
    let found = c.in-Some.ensures.lookup in
    c.is_same.ensures ∙ rw (drop_one c.args.r.now c.args.start 0 (omega arith), found.3.1 0)
