-- An octet that stays is written, or else what stands for it, and then what is left. Assumes nothing.
use Rattle.std.proofs.Common.{◌<◌, ◌∙◌, sym, ap, length, arith, rules}
use Rattle.escapes.proofs.Forms.{changed_is}
use Rattle.normal.proofs.Steps.{first_kept, first_length, first_least, first_written}
use Rattle.normal.proofs.write_rest.Goals as goal

-- what is left is a text with a first octet
pub bounds-out-end : goal.bounds-out-end
bounds-out-end c =
    let stars = c.args.stars in
    let s = c.loop-rest.rest.now in
    let some : 0 < length s = search rules in
    let k = first_kept stars s (sym c.is_kept.ensures ∙ c.if-is_kept.true) in
    omega (arith, ap length k.0, first_least stars s some, c.loop-rest.invariant.0, c.requires, c.loop-rest.auto.out)

pub loop-rest-preserved-then-is_kept : goal.loop-rest-preserved-then-is_kept
loop-rest-preserved-then-is_kept c =
    let stars = c.args.stars in
    let s = c.loop-rest.rest.now in
    let some : 0 < length s = search rules in
    let k = first_kept stars s (sym c.is_kept.ensures ∙ c.if-is_kept.true) in (
      omega (arith, ap length k.0, first_length stars s 1 some k.1, c.loop-rest.invariant.0),
      (rw k.0 at (first_written stars s 1 c.loop-rest.out c.loop-rest.end some k.1)) ∙ c.loop-rest.invariant.1,
    )

pub write-end-requires : goal.write-end-requires
write-end-requires c =
    let stars = c.args.stars in
    let s = c.loop-rest.rest.now in
    let some : 0 < length s = search rules in
    let e = c.changed_first-replacement.ensures.octets ∙ changed_is stars _ _ (sym c.is_kept.ensures ∙ c.if-is_kept.false) in
    omega (arith, ap length e, first_least stars s some, c.loop-rest.invariant.0, c.requires, c.loop-rest.auto.out)
