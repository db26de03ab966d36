-- Assumes nothing.
use Rattle.std.proofs.Common.{◌≡◌, rules, tests}
use Rattle.protocol.specs.declared.Audience.{Audience}
use Rattle.passes.proofs.Choices.{looked_first, looked_crawler, looked_on, looked_end}
use Rattle.passes.proofs.audience.choose_audience.Goals as goal

pub loop-at-init : goal.loop-at-init
loop-at-init c = looked_first c.args.file.now c.args.name.now _ c.first_place-at.ensures

pub returns-then-eq : goal.returns-then-eq
returns-then-eq c =
    let file = c.args.file.now in
    let now = c.loop-at.invariant in
    let crawler : c.line_audience-here.result ≡ Audience.Crawler = search (rules, tests) in
    looked_crawler file c.args.name.now c.loop-at.at now.further c.loop-at-test.true _ now _ c.line_audience-here.ensures crawler

pub loop-at-preserved : goal.loop-at-preserved
loop-at-preserved c =
    let file = c.args.file.now in
    let now = c.loop-at.invariant in
    let other : c.line_audience-here.result ≡ Audience.Crawler → ⊥ = search (rules, tests) in
    looked_on file c.args.name.now c.loop-at.at now.further c.loop-at-test.true _ c.line_audience-here.ensures other _ now _ c.after_line-chosen.ensures _ c.next_agent-at.ensures

pub returns : goal.returns
returns c = looked_end c.args.file.now c.args.name.now c.loop-at.chosen c.loop-at.at c.loop-at.invariant c.loop-at-test.false
