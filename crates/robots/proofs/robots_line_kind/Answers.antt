-- The number of an answer, by the numbers of the table of refusals. Assumes nothing.
use Rattle.std.proofs.Common.{◌∙◌, ap}
use Rattle.protocol.specs.Answers.{kind_number_of}
use Rattle.protocol.specs.Outcomes.{refusal_number}
use Rattle.protocol.proofs.Outcomes.{by_number}
use Rattle.robots.proofs.robots_line_kind.Goals as goal

pub returns : goal.returns
returns c = c.kind_number_of.ensures refusal_number ∙ ap kind_number_of (by_number c.line_answer-answer.result ∙ c.line_answer-answer.ensures)
