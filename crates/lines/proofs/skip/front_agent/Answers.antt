-- Each octet is found, or not, and goes in front of the rest.
use Rattle.std.proofs.Common.{arith, sym, ◌∙◌}
use Rattle.std.specs.List.{zip}
use Rattle.lists.proofs.Scans.{up_to_fits}
use Rattle.lines.specs.Skips.{agent_octet, opens}
use Rattle.lines.proofs.Pairs.{zip_length, zip_next}
use Rattle.lines.proofs.Skips.{least, front_here, front_on, front_found, front_missed}
use Rattle.lines.proofs.skip.front_agent.Goals as goal
use Rattle.lines.proofs.skip.front_agent.Goals.{then-opens_agent, else-opens_agent}

pub loop-i-init : goal.loop-i-init
loop-i-init c =
    let l = zip c.args.b.now c.args.behind.now in
    omega (arith, up_to_fits (opens agent_octet) l, zip_length c.args.b.now c.args.behind.now)

pub loop-i-preserved : goal.loop-i-preserved
loop-i-preserved c =
    let next = zip_next c.args.b.now c.args.behind.now c.loop-i.i (omega arith) (omega arith) in
    let told = rw c.from-at.ensures at (sym c.opens_agent.ensures) in
    elim c.if-opens_agent.branch [
      | then-opens_agent w ↦ omega (arith, c.min-first.ensures, least c.loop-i.first c.if-opens_agent.here, w.here-is, front_here next (told ∙ w.if-opens_agent.true))
      | else-opens_agent w ↦ omega (arith, c.min-first.ensures, least c.loop-i.first c.if-opens_agent.here, w.here-is, front_on next (told ∙ w.if-opens_agent.false))
    ]

pub returns-then-first-lt64 : goal.returns-then-first-lt64
returns-then-first-lt64 c =
    let l = zip c.args.b.now c.args.behind.now in
    front_found l c.from.result (omega arith) (omega (arith, zip_length c.args.b.now c.args.behind.now))

pub returns-else-first-lt64 : goal.returns-else-first-lt64
returns-else-first-lt64 c =
    let l = zip c.args.b.now c.args.behind.now in
    front_missed l (omega (arith, zip_length c.args.b.now c.args.behind.now))
