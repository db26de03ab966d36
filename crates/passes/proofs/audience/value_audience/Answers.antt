-- Assumes nothing.
use Rattle.std.proofs.Common.{sym, ◌∙◌}
use Rattle.lists.specs.Lists.{same}
use Rattle.protocol.specs.Text.{octets}
use Rattle.protocol.specs.Readable.{everyone}
use Rattle.protocol.proofs.Agents.{star_names}
use Rattle.kinds.specs.Entries.{value_front}
use Rattle.passes.proofs.Named.{text_names, not_everyone}
use Rattle.passes.proofs.audience.value_audience.Goals as goal

pub returns-then-is_everyone : goal.returns-then-is_everyone
returns-then-is_everyone c =
    let v = value_front c.args.s.now in
    let star = sym c.is_star.ensures ∙ c.if-is_star.true in
    rw (sym (star_names v c.args.name.now star) ∙ sym c.is_everyone.ensures ∙ c.if-is_everyone.true)

pub returns-else-is_everyone : goal.returns-else-is_everyone
unfolding octets same
returns-else-is_everyone c =
    let v = value_front c.args.s.now in
    let star = sym c.is_star.ensures ∙ c.if-is_star.true in
    rw (sym (star_names v c.args.name.now star) ∙ sym c.is_everyone.ensures ∙ c.if-is_everyone.false, sym (star_names v everyone star))

pub returns-then-names : goal.returns-then-names
returns-then-names c =
    let other = sym c.is_star.ensures ∙ c.if-is_star.false in
    rw (sym (text_names c.args.s.now other c.args.name.now) ∙ sym c.names.ensures ∙ c.if-names.true)

pub returns-else-names : goal.returns-else-names
returns-else-names c =
    let other = sym c.is_star.ensures ∙ c.if-is_star.false in
    rw (sym (text_names c.args.s.now other c.args.name.now) ∙ sym c.names.ensures ∙ c.if-names.false, not_everyone c.args.s.now other)
