-- The program's output, from the decision on the parts that were read of its input. Assumes nothing.
use Prim.Native.Nat.{ℕ, ◌≤◌}
use mathlib.Core.Path.{◌≡◌}
use mathlib.Core.List.{List}
use lib.ListN.{length}
use Rattle.protocol.specs.Forms.{Decision}
use Rattle.protocol.specs.Refusals.{unless_refused}
use Rattle.protocol.specs.Answers.{decide}
use Rattle.protocol.specs.Program.{refused_text, answer_text, first_part, behind, output}
use Rattle.protocol.proofs.Limits.{output_answered}

pub output_decided : (input : List ℕ) → length input ≤ 65_536 → {name rest path file : List ℕ} {d : Decision} → name ≡ first_part input → rest ≡ behind input
    → path ≡ first_part rest → file ≡ behind rest → d ≡ decide 0 file name path → output input ≡ unless_refused d.refusal refused_text (answer_text d)
output_decided input h n r p f e = output_answered input h (rw (p, f, n, r) at e)
