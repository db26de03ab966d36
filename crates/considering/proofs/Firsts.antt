-- In the draft's dialect, what rules come to, one after the other, is the first that matches. Assumes nothing.
use Prim.Native.Nat.{ℕ, ◌+◌, ◌≤◌}
use mathlib.Core.Path.{◌≡◌, refl, ap, ◌∙◌}
use mathlib.Core.Bool.{true, false}
use mathlib.Core.List.{List, [], ◌∷◌}
use mathlib.Core.Option.{none, some}
use native.Mathlib.Omega.{arith}
use borrow.Author.Tests.{lt-ltb, le-ltb}
use Rattle.lists.specs.Lists.{kept, through, total}
use Rattle.lists.specs.Each.{Each}
use Rattle.lists.proofs.Bools.{split}
use Rattle.protocol.specs.declared.Dialect.{Dialect}
use Rattle.protocol.specs.declared.Side.{Side}
use Rattle.protocol.specs.declared.Rule.{Rule}
use Rattle.protocol.specs.Forms.{Decision}
use Rattle.protocol.specs.Decision.{pattern_of, weight_in, walk_of, is_match, matching, earliest, deciding, walked, compared_by, decided_by, decided_among}
use Rattle.walk.specs.Weights.{weighed}
use Rattle.considering.specs.declared.Best.{Best}
use Rattle.considering.specs.declared.Considered.{Considered}
use Rattle.considering.specs.Considering.{no_best, none_considered, added, best_with, matched, walked_once, considered, considered_all, decided_as, concluded}
use Rattle.considering.proofs.Leads.{better_later, better_earlier, concluded_heaviest}
use Rattle.considering.proofs.Weighs.{Weighs}

abbrev draft : Dialect
draft = Dialect.Draft1996

-- n pairs were compared, and no rule has matched
abbrev unmatched : ℕ → Considered
unmatched n = record { allow = no_best; disallow = no_best; compared = n }

-- the first match: further rules are passed over, and it decides
module _ (b : Best) (some : 1 ≤ b.weight) (k n : ℕ) where
  first_matched : (side : Side) → matched (added side b k (unmatched n)) ≡ true
  unfolding added
  first_matched Side.Allow = rw (better_later no_best b (omega arith), lt-ltb 0 b.weight (omega arith))
  first_matched Side.Disallow = rw (better_later no_best b (omega arith), lt-ltb 0 b.weight (omega arith))

  first_concluded : (side : Side) (u : ℕ) → concluded (added side b k (unmatched n)) u ≡ decided_as side b u (n + k)
  unfolding added concluded
  first_concluded Side.Allow u = rw (better_later no_best b (omega arith), le-ltb b.weight 0 (omega arith))
  first_concluded Side.Disallow u = rw (better_later no_best b (omega arith), lt-ltb 0 b.weight (omega arith))

-- a rule that doesn't match adds its pairs
none_matched : (side : Side) (b : Best) (k n : ℕ) → b.weight ≡ 0 → added side b k (unmatched n) ≡ unmatched (n + k)
unfolding added
none_matched Side.Allow b k n z = rw (better_earlier no_best b (omega arith))
none_matched Side.Disallow b k n z = rw (better_earlier no_best b (omega arith))

said : (r : Rule) (w u c : ℕ) → decided_as r.side (best_with r w) u c ≡ decided_by (some r) u c
unfolding decided_by
said r w u c = refl

none_left : (n u : ℕ) → concluded (unmatched n) u ≡ decided_by none u (n + 0)
unfolding concluded decided_by
none_left n u = let sum : n + 0 ≡ n = omega arith in rw sum

module _ (file path : List ℕ) where
  passed_over : (c : Considered) (rs : List Rule) → matched c ≡ true → considered_all draft file path c rs ≡ c
  unfolding considered_all considered
  passed_over c [] e = refl
  passed_over c (r ∷ rs) e = rw e (passed_over c rs e)

  abbrev pairs : Rule → ℕ
  pairs r = (walk_of draft file path r).count

  -- one rule more, where none has matched
  walked_match : (n : ℕ) (r : Rule) → is_match draft file path r ≡ true
      → considered draft (pattern_of file r) path r (unmatched n) ≡ added r.side (best_with r (weight_in draft file r)) (pairs r) (unmatched n)
  unfolding considered walked_once weighed walk_of weight_in
  walked_match n r e = rw e

  walked_past : (n : ℕ) (r : Rule) → is_match draft file path r ≡ false → considered draft (pattern_of file r) path r (unmatched n) ≡ unmatched (n + pairs r)
  unfolding considered walked_once weighed walk_of
  walked_past n r e = rw e (none_matched r.side (best_with r 0) (pairs r) n refl)

  abbrev result : ℕ → List Rule → ℕ → Decision
  result n rs u = decided_by (earliest (matching draft file path rs)) u (n + total pairs (through (is_match draft file path) rs))

  result_here : (n : ℕ) (r : Rule) (rs : List Rule) (u : ℕ) → is_match draft file path r ≡ true → decided_by (some r) u (n + pairs r) ≡ result n (r ∷ rs) u
  unfolding matching kept earliest through total
  result_here n r rs u e =
      let sum : n + pairs r ≡ n + (pairs r + 0) = omega arith in rw (e, sum)

  result_past : (n : ℕ) (r : Rule) (rs : List Rule) (u : ℕ) → is_match draft file path r ≡ false → result (n + pairs r) rs u ≡ result n (r ∷ rs) u
  unfolding matching kept through total
  result_past n r rs u e =
      let t = total pairs (through (is_match draft file path) rs) in
      let sum : n + pairs r + t ≡ n + (pairs r + t) = omega arith in rw (e, sum)

  concluded_from : (n : ℕ) (rs : List Rule) (u : ℕ) → Each (Weighs draft file) rs → concluded (considered_all draft file path (unmatched n) rs) u ≡ result n rs u
  unfolding considered_all matching kept earliest through total
  concluded_from n [] u h = none_left n u
  concluded_from n (r ∷ rs) u h =
      split (is_match draft file path r)
      (λ e.
      let b = best_with r (weight_in draft file r) in
      rw (walked_match n r e, passed_over (added r.side b (pairs r) (unmatched n)) rs (first_matched b h.0 (pairs r) n r.side))
      (first_concluded b h.0 (pairs r) n r.side u ∙ said r (weight_in draft file r) u (n + pairs r) ∙ result_here n r rs u e))
      (λ e. rw (walked_past n r e) (concluded_from (n + pairs r) rs u h.1 ∙ result_past n r rs u e))

  -- What rules that all weigh something come to gives the decision among them.
  concluded_first : (rs : List Rule) (s : Considered) (u : ℕ) → Each (Weighs draft file) rs → s ≡ considered_all draft file path none_considered rs
      → concluded s u ≡ decided_among draft file path rs u
  unfolding decided_among deciding walked compared_by
  concluded_first rs s u w e =
      let sum : 0 + total pairs (through (is_match draft file path) rs) ≡ total pairs (through (is_match draft file path) rs) = omega arith in
      rw e (concluded_from 0 rs u w ∙ ap (decided_by (earliest (matching draft file path rs)) u) sum)

-- in either dialect
pub concluded_among : (d : Dialect) (file path : List ℕ) (rs : List Rule) (s : Considered) (u : ℕ) → Each (Weighs d file) rs
    → s ≡ considered_all d file path none_considered rs → concluded s u ≡ decided_among d file path rs u
concluded_among Dialect.Rfc9309 file path = concluded_heaviest file path
concluded_among Dialect.Draft1996 file path = concluded_first file path
