-- What the answer to "Normalise a path into a lent buffer" says, and what the buffer then holds. Assumes nothing.
use Prim.Native.Nat.{ℕ}
use mathlib.Core.Path.{◌≡◌}
use mathlib.Core.List.{List, []}
use lib.ListN.{length}
use Rattle.protocol.specs.Normal.{normal_path}
use Rattle.protocol.specs.Refusals.{normalise_refusal}
use Rattle.protocol.specs.Answers.{normal_written, normalise_of, at_front, normalise_buffer}
use Rattle.protocol.proofs.Refused.{unless_answered, unless_refused_lem}

module _ (path buffer : List ℕ) (refused : normalise_refusal (length buffer) path ≡ 0 → ⊥) where
  written_none : normal_written path buffer ≡ []
  unfolding normal_written
  written_none = unless_refused_lem (normalise_refusal (length buffer) path) _ _ refused

  -- "a refused normalising writes nothing and reports 0"
  pub normalise_refused : normalise_of path buffer ≡ record { refusal = normalise_refusal (length buffer) path; written = 0 }
  unfolding normalise_of
  normalise_refused = rw written_none

  -- Demand 1: "no refusal writes into memory lent to it": the buffer is as it was.
  pub normalise_keeps : normalise_buffer path buffer ≡ buffer
  unfolding normalise_buffer
  normalise_keeps = rw written_none

module _ (path buffer : List ℕ) (unrefused : normalise_refusal (length buffer) path ≡ 0) where
  written_all : normal_written path buffer ≡ normal_path path
  unfolding normal_written
  written_all = unless_answered (normalise_refusal (length buffer) path) _ _ unrefused

  -- "octets written"
  pub normalise_answered : normalise_of path buffer ≡ record { refusal = 0; written = length (normal_path path) }
  unfolding normalise_of
  normalise_answered = rw (written_all, unrefused)

  -- "the rest of the buffer stays"
  pub normalise_fills : normalise_buffer path buffer ≡ at_front (normal_path path) buffer
  unfolding normalise_buffer
  normalise_fills = rw written_all
