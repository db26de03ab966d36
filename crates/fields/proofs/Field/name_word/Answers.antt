-- A word of the table's row holds the first eight octets of the name. Assumes nothing.
use Rattle.std.proofs.Common.{◌≡◌, ◌∙◌}
use Rattle.protocol.specs.declared.Side.{Side}
use Rattle.protocol.specs.Text.{octets}
use Rattle.fields.proofs.Field.name_word.Goals as goal

pub returns-in-Agent : goal.returns-in-Agent
unfolding octets
returns-in-Agent c = c.word_at.ensures ∙ rw c.in-Agent.is

pub returns-in-Rule-Allow : goal.returns-in-Rule-Allow
unfolding octets
returns-in-Rule-Allow c =
    let arm = c.in-Rule-Allow in
    let side : arm.field-0 ≡ Side.Allow = rw arm.is at arm.field-0-is in c.word_at-in-Rule-Allow.ensures ∙ rw (arm.is, side)

pub returns-in-Rule-Disallow : goal.returns-in-Rule-Disallow
unfolding octets
returns-in-Rule-Disallow c =
    let arm = c.in-Rule-Disallow in
    let side : arm.field-0 ≡ Side.Disallow = rw arm.is at arm.field-0-is in c.word_at-in-Rule-Disallow.ensures ∙ rw (arm.is, side)
