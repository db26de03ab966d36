-- The name's first eight octets, its hyphen, and then one at a time. Assumes nothing.
use Rattle.std.proofs.Common.{◌≡◌, ◌&&◌, sym, ◌∙◌, arith}
use Prim.Native.Char.{code}
use lib.Dec.{eqb}
use lib.ListN.{get_or}
use Rattle.protocol.specs.Octets.{lower_case}
use Rattle.words.specs.Words.{octets_of}
use Rattle.fields.specs.declared.Field.{Field}
use Rattle.fields.specs.Near.{word_begins}
use Rattle.fields.proofs.Folds.{agent_begins}
use Rattle.fields.proofs.near.begins_agent.Goals as goal
use Rattle.fields.proofs.near.begins_agent.Goals.{then-begins_word, else-begins_word, then-s, else-s}

pub returns-then-is_same : goal.returns-then-is_same
returns-then-is_same c =
    let s = c.args.s.now in
    let whole = agent_begins s c.args.w c.requires.front (λ i. omega (arith, c.type_inv.s i)) c.requires.long in
    let two : c.if-begins_word.value ≡ (word_begins Field.Agent (octets_of 8 c.args.w) && eqb (get_or s 4 0) (code "-")) =
    elim c.if-begins_word.branch [
      | then-begins_word w ↦ w.value-is ∙ rw (sym c.begins_word.ensures ∙ w.if-begins_word.true)
      | else-begins_word w ↦ w.value-is ∙ w.if-begins_word.false ∙ rw (sym c.begins_word.ensures ∙ w.if-begins_word.false)
    ] in
    let three : c.if-s.value ≡ ((word_begins Field.Agent (octets_of 8 c.args.w) && eqb (get_or s 4 0) (code "-")) && eqb (lower_case (get_or s 8 0)) (lower_case (code "n"))) =
    elim c.if-s.branch [
      | then-s w ↦ w.value-is ∙ w.is_same.ensures ∙ rw (sym two ∙ w.if-s.true)
      | else-s w ↦ w.value-is ∙ w.if-s.false ∙ rw (sym two ∙ w.if-s.false)
    ] in
    sym (whole ∙ rw (sym three ∙ c.if-is_same.true) (sym c.is_same-then-is_same.ensures))

pub returns-else-is_same : goal.returns-else-is_same
returns-else-is_same c =
    let s = c.args.s.now in
    let whole = agent_begins s c.args.w c.requires.front (λ i. omega (arith, c.type_inv.s i)) c.requires.long in
    let two : c.if-begins_word.value ≡ (word_begins Field.Agent (octets_of 8 c.args.w) && eqb (get_or s 4 0) (code "-")) =
    elim c.if-begins_word.branch [
      | then-begins_word w ↦ w.value-is ∙ rw (sym c.begins_word.ensures ∙ w.if-begins_word.true)
      | else-begins_word w ↦ w.value-is ∙ w.if-begins_word.false ∙ rw (sym c.begins_word.ensures ∙ w.if-begins_word.false)
    ] in
    let three : c.if-s.value ≡ ((word_begins Field.Agent (octets_of 8 c.args.w) && eqb (get_or s 4 0) (code "-")) && eqb (lower_case (get_or s 8 0)) (lower_case (code "n"))) =
    elim c.if-s.branch [
      | then-s w ↦ w.value-is ∙ w.is_same.ensures ∙ rw (sym two ∙ w.if-s.true)
      | else-s w ↦ w.value-is ∙ w.if-s.false ∙ rw (sym two ∙ w.if-s.false)
    ] in
    c.if-is_same.false ∙ sym (whole ∙ rw (sym three ∙ c.if-is_same.false))
