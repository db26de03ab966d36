-- Assumes nothing.
use Rattle.std.proofs.Common.{◌∙◌}
use Rattle.hearing.specs.Heard.{whom}
use Rattle.passes.proofs.Turns.{other_unheard, agent_heard}
use Rattle.passes.proofs.gather.Question.hear_other.Goals as goal

pub returns-in_default : goal.returns-in_default
returns-in_default c =
    let a = c.args in
    other_unheard a.self.file.now (whom a.self.audience a.self.name.now) a.at a.kind a.h c.in_default.not-Agent

pub returns : goal.returns
returns c =
    let a = c.args in
    c.hear_agent.ensures
    ∙ agent_heard a.self.file.now (whom a.self.audience a.self.name.now) a.at c.requires.inside a.kind c.requires.told c.in-Agent.agent c.in-Agent.is _ c.value_of-value.ensures _ c.is_unread_agent.ensures a.h
