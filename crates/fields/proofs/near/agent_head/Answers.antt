-- The agent's name, or the first octet behind the spaces and tabs, tells. Assumes nothing.
use Rattle.std.proofs.Common.{sym, ◌∙◌}
use Rattle.fields.proofs.Nears.{near_agent, not_agent_head, not_agent_first}
use Rattle.fields.proofs.near.agent_head.Goals as goal

pub returns-in-Some : goal.returns-in-Some
returns-in-Some c = near_agent c.args.r.now c.in-Some.value (sym c.begins_agent.ensures ∙ c.if-begins_agent.true) c.in-Some.ensures

pub returns-then-not-is_of : goal.returns-then-not-is_of
returns-then-not-is_of c =
    not_agent_head c.args.r.now (sym c.begins_agent.ensures ∙ c.if-begins_agent.false) (sym c.is_of.ensures ∙ c.if-not-is_of.true)

pub returns-then-not-may_be_agent : goal.returns-then-not-may_be_agent
returns-then-not-may_be_agent c =
    not_agent_first c.args.r.now c.lead-start.result c.lead-start.ensures (sym c.may_be_agent.ensures ∙ c.if-not-may_be_agent.true)
