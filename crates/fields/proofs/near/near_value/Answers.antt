-- Three octets tell where the value begins. Assumes nothing.
use Rattle.std.proofs.Common.{sym, ◌∙◌}
use borrow.Author.Tests.{eq-eqb, ne_eqb}
use Rattle.fields.proofs.Nears.{near_read}
use Rattle.fields.proofs.near.near_value.Goals as goal

pub returns-then-r-colon-ne58 : goal.returns-then-r-colon-ne58
returns-then-r-colon-ne58 c = sym (near_read c.args.r.now c.args.colon c.requires ∙ rw (ne_eqb _ 58 c.if-r-colon-ne58.true))

pub returns-then-not-is_of : goal.returns-then-not-is_of
returns-then-not-is_of c =
    sym (near_read c.args.r.now c.args.colon c.requires ∙ rw (eq-eqb _ 58 c.if-r-colon-ne58.false, sym c.is_of.ensures ∙ c.if-not-is_of.true))

pub returns-then-not-is_of-2 : goal.returns-then-not-is_of-2
returns-then-not-is_of-2 c =
    sym (near_read c.args.r.now c.args.colon c.requires
    ∙ rw (eq-eqb _ 58 c.if-r-colon-ne58.false, sym c.is_of.ensures ∙ c.if-not-is_of.false, sym c.is_of-2.ensures ∙ c.if-not-is_of-2.true))

pub returns : goal.returns
returns c =
    sym (near_read c.args.r.now c.args.colon c.requires
    ∙ rw (eq-eqb _ 58 c.if-r-colon-ne58.false, sym c.is_of.ensures ∙ c.if-not-is_of.false, sym c.is_of-2.ensures ∙ c.if-not-is_of-2.false))
