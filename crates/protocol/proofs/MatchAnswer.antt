-- What the answer to "Match one pattern against one path" says. Assumes nothing.
use Prim.Native.Nat.{ℕ, ◌*◌, ◌≤◌}
use mathlib.Core.Path.{◌≡◌, refl, ap}
use mathlib.Core.Bool.{Bool, true, false}
use mathlib.Core.Logic.{◌↔◌}
use mathlib.Core.List.{List}
use native.Mathlib.Omega.{arith}
use lib.ListN.{length}
use Rattle.protocol.specs.Forms.{Matched}
use Rattle.protocol.specs.Normal.{normal_path}
use Rattle.protocol.specs.Pattern.{shape_of, weight}
use Rattle.protocol.specs.Matching.{Matches}
use Rattle.protocol.specs.Walk.{walk}
use Rattle.protocol.specs.Refusals.{match_refusal}
use Rattle.protocol.specs.Answers.{refused_match, matched_by, match_of, found_number}
use Rattle.protocol.proofs.Refused.{unless_either, unless_answered, unless_refused_lem}
use Rattle.protocol.proofs.Counted.{walk_bound}
use Rattle.protocol.proofs.Found.{walk_finds}

number_one : (b : Bool) → found_number b ≡ 1 → b ≡ true
number_one true h = refl
number_one false h = absurd (omega arith)

module _ (pattern path : List ℕ) where
  -- "A refused match is "no" with count 0"
  pub match_refused : (match_refusal pattern path ≡ 0 → ⊥)
      → match_of pattern path ≡ refused_match (match_refusal pattern path)
  unfolding match_of
  match_refused h = unless_refused_lem (match_refusal pattern path) _ _ h

  -- "yes or no, with the count of that walk"
  pub match_answered : match_refusal pattern path ≡ 0 → match_of pattern path ≡ matched_by (walk (shape_of pattern) (normal_path path))
  unfolding match_of
  match_answered e = unless_answered (match_refusal pattern path) _ _ e

  -- yes exactly when the pattern matches the normalised path
  pub match_found : match_refusal pattern path ≡ 0 → ((match_of pattern path).found ≡ true) ↔ Matches (shape_of pattern) (normal_path path)
  match_found e = rw (match_answered e) (walk_finds (shape_of pattern) (normal_path path))

  -- as a number
  pub match_number : match_refusal pattern path ≡ 0 → (found_number (match_of pattern path).found ≡ 1) ↔ Matches (shape_of pattern) (normal_path path)
  match_number e =
      let (there, back) = match_found e in
      (λ h. there (number_one (match_of pattern path).found h), λ m. ap found_number (back m))

  -- the count is at most the pattern's weight times the octets of the normalised path
  pub match_bound : (match_of pattern path).compared ≤ weight (shape_of pattern) * length (normal_path path)
  unfolding match_of
  match_bound =
      unless_either (match_refusal pattern path) _ _ (λ (m : Matched). m.compared ≤ weight (shape_of pattern) * length (normal_path path))
      (λ z. walk_bound (shape_of pattern) (normal_path path))
      (λ h. omega arith)
