-- Each name's word keeps as many octets as the name has. Assumes nothing.
use Rattle.std.proofs.Common.{◌≡◌}
use Rattle.protocol.specs.declared.Side.{Side}
use Rattle.protocol.specs.Text.{octets}
use Rattle.words.specs.Words.{octets_of}
use Rattle.fields.proofs.Field.kept_word.Goals as goal

pub returns-in-Agent : goal.returns-in-Agent
unfolding octets octets_of
returns-in-Agent c = rw c.in-Agent.is

pub returns-in-Rule-Allow : goal.returns-in-Rule-Allow
unfolding octets octets_of
returns-in-Rule-Allow c =
    let arm = c.in-Rule-Allow in
    let side : arm.field-0 ≡ Side.Allow = rw arm.is at arm.field-0-is in rw (arm.is, side)

pub returns-in-Rule-Disallow : goal.returns-in-Rule-Disallow
unfolding octets octets_of
returns-in-Rule-Disallow c =
    let arm = c.in-Rule-Disallow in
    let side : arm.field-0 ≡ Side.Disallow = rw arm.is at arm.field-0-is in rw (arm.is, side)
