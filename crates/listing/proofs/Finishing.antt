-- A pass over the places of a list's answers, after the last round: each path's own refusal in each place passed. Assumes nothing.
use Prim.Native.Nat.{ℕ, ◌+◌, ◌≤◌, ◌<◌}
use mathlib.Core.Path.{◌≡◌, ap, ap₂, ◌∙◌}
use mathlib.Core.List.{List}
use native.Mathlib.Omega.{arith}
use lib.Dec.{eqb}
use lib.ListN.{length, get_or, set}
use lib.Seq.{get_or-set_same}
use borrow.Author.Tests.{eqb-true, eqb-false}
use Rattle.lists.proofs.Bools.{split}
use Rattle.protocol.specs.Refusals.{path_rows, refusal}
use Rattle.listing.specs.Listing.{path_at, side_for}
use Rattle.listing.specs.Memory.{Memory, memory, Tail, Finished}
use Rattle.listing.proofs.Tails.{tail_set, set_other}

-- why path j is refused
abbrev pub refusal_at : List ℕ → List ℕ → ℕ → ℕ
refusal_at paths ends j = refusal (path_rows (path_at paths ends j))

module _ (paths ends : List ℕ) (m₀ m : Memory) (i : ℕ) where
  -- the first i places are passed
  pub record Finishing : Type 0 where
    pub refusals_stay : Tail (length ends) m₀.refusals m.refusals
    pub sides_stay : Tail (length ends) m₀.sides m.sides
    pub lines_stay : m.lines ≡ m₀.lines
    pub refused : (j : ℕ) → j < i → get_or m.refusals j 0 ≡ refusal_at paths ends j
    pub sided : (j : ℕ) → j < i → get_or m.sides j 0 ≡ side_for (refusal_at paths ends j) (get_or m₀.sides j 0)
    pub left : (j : ℕ) → i ≤ j → get_or m.sides j 0 ≡ get_or m₀.sides j 0

module _ {paths ends : List ℕ} {m₀ m : Memory} {i : ℕ} (f : Finishing paths ends m₀ m i) where
  -- a turn: the refusal r of the path there, and what it makes of the decision
  pub finishing_on : {path : List ℕ} {r s : ℕ} → i < length ends → length ends ≤ length m₀.refusals → length ends ≤ length m₀.sides → path ≡ path_at paths ends i
      → r ≡ refusal (path_rows path) → s ≡ side_for (refusal (path_rows path)) (get_or m.sides i 0)
      → Finishing paths ends m₀ (memory (set m.refusals i r) (set m.sides i s) m.lines) (i + 1)
  finishing_on {path} {r} {s} h room room' there known made =
      let own : refusal (path_rows path) ≡ refusal_at paths ends i = ap (λ (p : List ℕ). refusal (path_rows p)) there in
      record {
        refusals_stay = tail_set i r h f.refusals_stay;
        sides_stay = tail_set i s h f.sides_stay;
        lines_stay = f.lines_stay;
        refused = λ j l.
            split (eqb j i)
            (λ e. rw (eqb-true j i e) (get_or-set_same m.refusals i r 0 (omega (arith, h, room, f.refusals_stay.same)) ∙ known ∙ own))
            (λ e.
            let other : j ≡ i → ⊥ = eqb-false j i e in
            set_other m.refusals i j r other ∙ f.refused j (omega (arith, l, other)));
        sided = λ j l.
            split (eqb j i)
            (λ e.
            rw (eqb-true j i e)
            (get_or-set_same m.sides i s 0 (omega (arith, h, room', f.sides_stay.same)) ∙ made ∙ ap₂ side_for own (f.left i (omega arith))))
            (λ e.
            let other : j ≡ i → ⊥ = eqb-false j i e in
            set_other m.sides i j s other ∙ f.sided j (omega (arith, l, other)));
        left = λ j l. set_other m.sides i j s (λ e. omega (arith, l, e)) ∙ f.left j (omega (arith, l));
      }

  -- all places are passed
  pub finishing_end : length ends ≤ i → Finished paths ends m₀ m
  finishing_end h =
      record {
        refusals_stay = f.refusals_stay;
        sides_stay = f.sides_stay;
        lines_stay = f.lines_stay;
        refused = λ j l. f.refused j (omega (arith, h, l));
        sided = λ j l. f.sided j (omega (arith, h, l));
      }
