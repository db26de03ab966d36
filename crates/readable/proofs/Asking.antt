-- Rows behind those of the dialect, the file and the name: what these refuse is refused, and else it is up to those. Assumes nothing.
use Prim.Native.Nat.{ℕ}
use mathlib.Core.Path.{◌≡◌, sym, ◌∙◌}
use mathlib.Core.List.{List, [], ◌∷◌}
use native.Mathlib.Omega.{arith}
use Rattle.protocol.specs.declared.Refusal.{Refusal}
use Rattle.protocol.specs.Refusals.{Row, unknown_dialect, too_long, bad_name, refusal}
use Rattle.protocol.specs.Outcomes.{refusal_number}
use Rattle.protocol.proofs.Refused.{refused_first, refused_later}
use Rattle.protocol.proofs.Outcomes.{refused_number}

module _ (n : ℕ) (file name : List ℕ) (rows : List Row) where
  abbrev asker_rows : List Row
  asker_rows = unknown_dialect n ∷ too_long file ∷ bad_name name ∷ []

  pub asked_first : (r : Refusal) → refusal_number r ≡ refusal asker_rows → refusal_number r ≡ refusal (unknown_dialect n ∷ too_long file ∷ bad_name name ∷ rows)
  asked_first r e = e ∙ sym (refused_first asker_rows rows (refused_number r _ e))

  pub asked_later : refusal asker_rows ≡ 0 → refusal (unknown_dialect n ∷ too_long file ∷ bad_name name ∷ rows) ≡ refusal rows
  asked_later h = refused_later asker_rows rows (omega arith) h
