-- A raw pattern's end mark: where it stands, and what is left without it. Assumes nothing.
use Prim.Native.Nat.{ℕ, ◌+◌, ◌-◌, ◌≤◌, ◌<◌}
use Prim.Native.Char.{Char}
use mathlib.Core.Path.{◌≡◌, refl, sym, ◌∙◌}
use mathlib.Core.Bool.{true, false}
use mathlib.Core.List.{List, [], ◌∷◌}
use native.Mathlib.Omega.{arith}
use native.Mathlib.Numerals.{unary_clauses}
use lib.Dec.{ltb}
use lib.ListN.{length, take, get_or}
use lib.Seq.{take-length}
use borrow.Author.Tests.{lt-ltb, le-ltb, eq-eqb, ne_eqb}
use Rattle.lists.proofs.Bools.{split}
use Rattle.lists.proofs.Fronts.{drop_last_take}
use Rattle.protocol.specs.Octets.{is}
use Rattle.protocol.specs.Text.{ends}
use Rattle.protocol.specs.Normal.{normal}
use Rattle.protocol.specs.Pattern.{raw_text, shape_of, weight}
use Rattle.protocol.proofs.Sizes.{end_mark_length}

-- the last octet, by its index
ends_last : (c : Char) (l : List ℕ) → 0 < length l → ends c l ≡ is c (get_or l (length l - 1) 0)
unfolding ends
ends_last c [] h = absurd (omega arith)
ends_last c (x ∷ []) h = refl
ends_last c (x ∷ y ∷ l) h = simp unary_clauses (simp unary_clauses at (ends_last c (y ∷ l) (omega arith)))

module _ (raw : List ℕ) where
  text_end_marked : ends "$" raw ≡ true → length (raw_text raw) ≡ length raw - 1
  text_end_marked h = omega (arith, rw h at (end_mark_length raw))

  text_without_end_mark : ends "$" raw ≡ false → length (raw_text raw) ≡ length raw
  text_without_end_mark h = omega (arith, rw h at (end_mark_length raw))

  -- the last octet is the end mark if it is "$"
  pub marked : 1 ≤ length raw → get_or raw (length raw - 1) 0 ≡ 36 → length raw - 1 ≡ length (raw_text raw)
  marked h e = sym (text_end_marked (ends_last "$" raw h ∙ eq-eqb (get_or raw (length raw - 1) 0) 36 e))

  pub unmarked : 1 ≤ length raw → (get_or raw (length raw - 1) 0 ≡ 36 → ⊥) → length raw ≡ length (raw_text raw)
  unmarked h e = sym (text_without_end_mark (ends_last "$" raw h ∙ ne_eqb (get_or raw (length raw - 1) 0) 36 e))

  pub none_marked : length raw < 1 → length raw ≡ length (raw_text raw)
  none_marked h = omega (arith, end_mark_length raw)

  pub text_inside : length (raw_text raw) ≤ length raw
  text_inside = omega (arith, end_mark_length raw)

  -- it is the raw pattern's front
  pub text_front : take (length (raw_text raw)) raw ≡ raw_text raw
  unfolding raw_text
  text_front =
      split (ends "$" raw)
      (λ h. rw (text_end_marked h) (rw (h, drop_last_take raw)))
      (λ h. rw (text_without_end_mark h) (rw h (take-length raw)))

  pub end_mark_test : ends "$" raw ≡ ltb (length (raw_text raw)) (length raw)
  end_mark_test =
      split (ends "$" raw)
      (λ h. h ∙ sym (lt-ltb (length (raw_text raw)) (length raw) (omega (arith, rw h at (end_mark_length raw)))))
      (λ h. h ∙ sym (le-ltb (length (raw_text raw)) (length raw) (omega (arith, text_without_end_mark h))))

  pub weight_parts : weight (shape_of raw) ≡ length (normal true 0 (raw_text raw)) + (length raw - length (raw_text raw))
  unfolding weight shape_of
  weight_parts = omega (arith, end_mark_length raw)
