-- A search by words of marks: where it stops, and what it passes. Assumes nothing.
use Prim.Native.Nat.{ℕ, zero, suc, ◌+◌, ◌/◌, ◌^◌, ◌≤◌, ◌<◌}
use mathlib.Core.Path.{◌≡◌, refl, ap, ◌∙◌}
use mathlib.Core.Bool.{Bool, true, false}
use mathlib.Core.Logic.{◌↔◌}
use mathlib.Core.List.{List, map}
use native.Mathlib.Omega.{arith}
use lib.ListN.{length, take, drop, length-drop}
use Rattle.lists.specs.Lists.{any, up_to}
use Rattle.lists.proofs.Bools.{split}
use Rattle.lists.proofs.Scans.{up_to_fits}
use Rattle.lists.proofs.Cuts.{up_to_within, up_to_over}
use Rattle.words.specs.Words.{octets_of, mark, marked}
use Rattle.words.proofs.Markings.{first_found, no_marks}
use Rattle.text.proofs.Seeks.{up_to_behind}

octet_count : (n m : ℕ) → length (octets_of n m) ≡ n
unfolding octets_of
octet_count zero m = refl
octet_count (suc n) m = ap suc (octet_count n (m / 256))

-- the first mark stands in the word, or behind it
pub mark_fits : (m : ℕ) → length (up_to marked (octets_of 8 m)) ≤ 8
mark_fits m = omega (arith, up_to_fits marked (octets_of 8 m), octet_count 8 m)

-- a search of s for what f passes, where nothing in the first k octets does: w is the word behind them, and m its marks
module _ (f : ℕ → Bool) (s : List ℕ) (k w m : ℕ) (clear : k ≤ length (up_to f s)) (there : octets_of 8 w ≡ take 8 (drop k s))
    (marks : octets_of 8 m ≡ map (mark f) (octets_of 8 w)) (fits : m < 256 ^ 8) where
  behind : k + length (up_to f (drop k s)) ≡ length (up_to f s)
  behind = up_to_behind f k s clear

  unmarked : (m ≡ 0) ↔ (any f (take 8 (drop k s)) ≡ false)
  unmarked = no_marks f 8 m (take 8 (drop k s)) fits (marks ∙ ap (map (mark f)) there)

  -- it goes on behind a word with no mark,
  pub goes_on : m ≡ 0 → k + 8 ≤ length s → k + 8 ≤ length (up_to f s)
  goes_on none h = omega (arith, up_to_over f 8 (drop k s) (simp length-drop (omega arith)) (unmarked.0 none), behind)

  module _ (n : ℕ) (front : n ≡ length (up_to marked (octets_of 8 m))) where
    first : n ≡ length (up_to f (take 8 (drop k s)))
    first = front ∙ first_found f 8 w m (take 8 (drop k s)) there marks

    -- and ends at the first mark of another
    pub ends : (m ≡ 0 → ⊥) → k + n ≡ length (up_to f s)
    ends some =
        let holds : any f (take 8 (drop k s)) ≡ true = split (any f (take 8 (drop k s))) (λ t. t) (λ t. absurd (some (unmarked.1 t))) in
        omega (arith, first, up_to_within f 8 (drop k s) holds, behind)
