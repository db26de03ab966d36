-- Why a match is refused, row by row, and what is known where it isn't. Assumes nothing.
use Prim.Native.Nat.{ℕ, ◌≤◌}
use mathlib.Core.Path.{◌≡◌, sym, ◌∙◌}
use mathlib.Core.Bool.{true, false}
use mathlib.Core.List.{List, [], ◌∷◌, ◌++◌}
use native.Mathlib.Omega.{arith}
use native.Mathlib.Nat.{mul-le-mul}
use lib.ListN.{length}
use Rattle.protocol.specs.Readable.{readable_pattern}
use Rattle.protocol.specs.Normal.{normal_path}
use Rattle.protocol.specs.Pattern.{shape_of, weight}
use Rattle.protocol.specs.Refusals.{bad_pattern, path_rows, refusal, match_refusal}
use Rattle.protocol.proofs.Sizes.{weight_size}
use Rattle.protocol.proofs.Refused.{path_numbered, refused_first, refused_later, none_refused}
use Rattle.protocol.proofs.Limits.{not_too_long, short_known, path_room}
use Rattle.walk.specs.Weights.{CountFits}

module _ (pattern path : List ℕ) where
  pub path_refuses : length pattern ≤ 512_000 → (refusal (path_rows path) ≡ 0 → ⊥) → match_refusal pattern path ≡ refusal (path_rows path)
  unfolding match_refusal
  path_refuses l h = not_too_long pattern (path_rows path ++ (bad_pattern pattern ∷ [])) l ∙ refused_first (path_rows path) (bad_pattern pattern ∷ []) h

  module _ (l : length pattern ≤ 512_000) (h : refusal (path_rows path) ≡ 0) where
    up_to_pattern : match_refusal pattern path ≡ refusal (bad_pattern pattern ∷ [])
    unfolding match_refusal
    up_to_pattern =
        not_too_long pattern (path_rows path ++ (bad_pattern pattern ∷ [])) l
        ∙ refused_later (path_rows path) (bad_pattern pattern ∷ []) (path_numbered path) h

    pub pattern_refuses : readable_pattern pattern ≡ false → match_refusal pattern path ≡ 8
    unfolding refusal
    pattern_refuses e = up_to_pattern ∙ rw e

    pub none_refuses : readable_pattern pattern ≡ true → match_refusal pattern path ≡ 0
    unfolding refusal
    none_refuses e = up_to_pattern ∙ rw e

  -- what is known where nothing is refused
  module _ (h : match_refusal pattern path ≡ 0) where
    short_pattern : length pattern ≤ 512_000
    unfolding match_refusal
    short_pattern = short_known pattern (path_rows path ++ (bad_pattern pattern ∷ [])) h

    pub good_path : refusal (path_rows path) ≡ 0
    unfolding match_refusal
    good_path =
        none_refused (path_rows path) (bad_pattern pattern ∷ []) (sym (not_too_long pattern (path_rows path ++ (bad_pattern pattern ∷ [])) short_pattern) ∙ h)

    -- the count fits: it is at most 3 * 512,000 * 6,142
    pub count_fits : CountFits (shape_of pattern) (normal_path path)
    count_fits =
        let w : weight (shape_of pattern) ≤ 1_536_000 = omega (arith, weight_size pattern, short_pattern) in
        omega (arith, mul-le-mul w (path_room path good_path))
