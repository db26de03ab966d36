-- Why a line is refused, row by row, and what it answers. Assumes nothing.
use Prim.Native.Nat.{ℕ, ◌≤◌, ◌<◌}
use mathlib.Core.Path.{◌≡◌, sym, ◌∙◌}
use mathlib.Core.Bool.{true, false}
use mathlib.Core.List.{List, [], ◌∷◌}
use native.Mathlib.Omega.{arith}
use lib.Dec.{ltb}
use lib.ListN.{length}
use borrow.Author.Tests.{ltb-true, ltb-false}
use Rattle.lists.specs.Lists.{any}
use Rattle.lists.proofs.Bools.{split}
use Rattle.lists.proofs.Cuts.{up_to_none}
use Rattle.protocol.specs.declared.Kind.{Kind}
use Rattle.protocol.specs.declared.Refusal.{Refusal}
use Rattle.protocol.specs.Forms.{LineAnswer}
use Rattle.protocol.specs.Octets.{line_end}
use Rattle.protocol.specs.Lines.{line_text}
use Rattle.protocol.specs.Kinds.{kind_of}
use Rattle.protocol.specs.Refusals.{several_lines, refusal, line_refusal}
use Rattle.protocol.specs.Answers.{line_answer, refusal_of}
use Rattle.protocol.specs.Outcomes.{refusal_number}
use Rattle.protocol.proofs.Outcomes.{refused_number}
use Rattle.protocol.proofs.KindAnswer.{line_refusal_lem, line_refused, line_answered}
use Rattle.protocol.proofs.Limits.{not_too_long, line_too_long}

module _ (l : List ℕ) where
  pub line_long : 512_000 < length l → 1 ≡ refusal_of (line_answer l)
  line_long h = sym (line_refusal_lem l ∙ line_too_long l h)

  module _ (h : length l ≤ 512_000) where
    pub line_several : any line_end l ≡ true → 9 ≡ refusal_of (line_answer l)
    unfolding line_refusal refusal
    line_several e = sym (line_refusal_lem l ∙ not_too_long l (several_lines l ∷ []) h ∙ rw e)

    pub one_line : any line_end l ≡ false → line_refusal l ≡ 0
    unfolding line_refusal refusal
    one_line e = not_too_long l (several_lines l ∷ []) h ∙ rw e

    pub line_good : any line_end l ≡ false → 0 ≡ refusal_of (line_answer l)
    line_good e = sym (line_refusal_lem l ∙ one_line e)

  -- a line that isn't refused holds no line ending
  whole_line : 0 ≡ refusal_of (line_answer l) → line_text l ≡ l
  whole_line z =
      up_to_none line_end l
      (split (any line_end l)
      (λ e.
      absurd
      (split (ltb 512_000 (length l)) (λ k. omega (arith, z, line_long (ltb-true 512_000 (length l) k)))
      (λ k. omega (arith, z, line_several (ltb-false 512_000 (length l) k) e))))
      (λ e. e))

  -- the answer of a refused line, and of any other
  pub refused_answer : (r : Refusal) → refusal_number r ≡ refusal_of (line_answer l) → LineAnswer.Refused (refusal_number r) ≡ line_answer l
  refused_answer r e = let k = e ∙ line_refusal_lem l in rw k (sym (line_refused l (λ z. refused_number r _ k z)))

  pub kind_answer : (k : Kind) → 0 ≡ refusal_of (line_answer l) → k ≡ kind_of (line_text l) → LineAnswer.Kind k ≡ line_answer l
  kind_answer k z e = rw (e, whole_line z) (sym (line_answered l (sym (z ∙ line_refusal_lem l))))
