-- Assumes nothing.
use Rattle.std.proofs.Common.{sym, ap, ◌∙◌}
use Rattle.protocol.specs.declared.Place.{Place}
use Rattle.protocol.specs.Lines.{number_after}
use Rattle.protocol.specs.Entries.{role_of}
use Rattle.collecting.proofs.Reading.{idle_role, idle_next, agent_next}
use Rattle.collecting.proofs.Reader.hear_other.Goals as goal

pub returns-in_default : goal.returns-in_default
returns-in_default c =
    let a = c.args in
    let idle = ap role_of (sym c.requires.told) ∙ idle_role a.kind c.in_default.not-Agent c.requires.idle in
    idle_next a.self.file.now a.self.who.now a.pass c.requires.counted idle _ c.pass_idle.ensures

pub returns : goal.returns
returns c =
    let a = c.args in
    let next = c.next_line.ensures ∙ ap (λ (p : Place). record { number = number_after a.pass.at.number 1; place = p }) c.requires.behind in
    agent_next a.self.file.now a.self.who.now a.pass c.requires.counted a.kind c.requires.told _ c.in-Agent.is _ c.value_of-value.ensures _ c.group_applies-applies.ensures _ next
