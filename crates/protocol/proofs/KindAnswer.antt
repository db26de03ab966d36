-- What the answer to "Tell the kind of one line" says. Assumes nothing.
use Prim.Native.Nat.{ℕ}
use mathlib.Core.Path.{◌≡◌, refl, sym}
use mathlib.Core.List.{List}
use Rattle.protocol.specs.Forms.{LineAnswer}
use Rattle.protocol.specs.Kinds.{kind_of}
use Rattle.protocol.specs.Refusals.{line_rows, line_refusal}
use Rattle.protocol.specs.Answers.{line_answer, refusal_of}
use Rattle.protocol.specs.Meaning.{ByTable}
use Rattle.protocol.proofs.Refused.{unless_either, unless_answered, unless_refused_lem, line_refusal_by_table}

module _ (line : List ℕ) where
  -- the number that the answer holds is the table's
  pub line_refusal_lem : refusal_of (line_answer line) ≡ line_refusal line
  unfolding line_answer
  line_refusal_lem = unless_either (line_refusal line) _ _ (λ a. refusal_of a ≡ line_refusal line) (λ z. sym z) (λ h. refl)

  pub line_by_table : ByTable (line_rows line) (refusal_of (line_answer line))
  line_by_table = rw line_refusal_lem (line_refusal_by_table line)

  -- "a refused line has no kind"
  pub line_refused : (line_refusal line ≡ 0 → ⊥) → line_answer line ≡ LineAnswer.Refused (line_refusal line)
  unfolding line_answer
  line_refused h = unless_refused_lem (line_refusal line) _ _ h

  pub line_answered : line_refusal line ≡ 0 → line_answer line ≡ LineAnswer.Kind (kind_of line)
  unfolding line_answer
  line_answered e = unless_answered (line_refusal line) _ _ e
