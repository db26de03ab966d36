-- What stands behind the star. Assumes nothing.
use Rattle.std.proofs.Common.{ℕ, sym, ap, drop, ◌∙◌, arith}
use Rattle.lists.proofs.Scans.{rest_of, drop_up_to}
use Rattle.protocol.specs.Text.{solid, lead}
use Rattle.fields.specs.Fields.{ended}
use Rattle.passes.proofs.Named.{star_none, star_other, star_here}
use Rattle.passes.proofs.audience.is_star.Goals as goal

pub returns-in_default : goal.returns-in_default
returns-in_default c = sym (star_none c.args.s.now (omega (arith, c.in_default.len_below)))

pub returns-then-first-ne42 : goal.returns-then-first-ne42
returns-then-first-ne42 c = sym (star_other c.args.s.now c.in-len1-up.len_at_least c.if-first-ne42.true)

pub returns : goal.returns
unfolding lead
returns c =
    let s = c.args.s.now in
    rw (rest_of 1 s) at c.ends_at.ensures
    ∙ ap (λ (n : ℕ). ended (drop n (drop 1 s))) (rw (rest_of 1 s) at c.lead-end.ensures)
    ∙ ap ended (drop_up_to solid (drop 1 s))
    ∙ sym (star_here s c.in-len1-up.len_at_least c.if-first-ne42.false)
