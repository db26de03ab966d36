-- The number of an answer, by the numbers of the table of refusals. Assumes nothing.
use Rattle.std.proofs.Common.{◌∙◌, ap}
use Rattle.protocol.specs.Answers.{value_length}
use Rattle.protocol.specs.Outcomes.{refusal_number}
use Rattle.protocol.proofs.Outcomes.{by_number}
use Rattle.robots.proofs.robots_line_length.Goals as goal

pub returns : goal.returns
returns c = c.value_length.ensures refusal_number ∙ ap value_length (by_number c.line_answer-answer.result ∙ c.line_answer-answer.ensures)
