-- The number of an answer, by the numbers of the table of refusals. Assumes nothing.
use Rattle.std.proofs.Common.{◌∙◌, ap}
use Rattle.protocol.specs.Answers.{value_place}
use Rattle.protocol.specs.Outcomes.{refusal_number}
use Rattle.protocol.proofs.Outcomes.{by_number}
use Rattle.robots.proofs.robots_line_place.Goals as goal

pub returns : goal.returns
returns c = ap (λ p. p.offset) (c.value_place.ensures refusal_number) ∙ ap (λ a. (value_place a).offset) (by_number c.line_answer-answer.result ∙ c.line_answer-answer.ensures)
