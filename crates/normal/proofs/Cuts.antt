-- To cut a pattern at its stars and to normalise it: the order doesn't matter, since a star is in no escape and only a star gives one.
-- Assumes nothing.
use Prim.Native.Nat.{ℕ}
use Prim.Native.Char.{code}
use mathlib.Core.Path.{◌≡◌, refl, sym, ap, ◌∙◌}
use mathlib.Core.Bool.{true, false, not, false≢true}
use mathlib.Core.List.{List, [], ◌∷◌, ◌++◌, map}
use lib.ListN.{drop}
use borrow.Author.Tests.{eqb-true, eqb-false, not-true}
use Rattle.lists.specs.Lists.{all, up_to}
use Rattle.lists.proofs.Bools.{split, and_left, and_right}
use Rattle.lists.proofs.Parts.{up_to_stop, up_to_on}
use Rattle.lists.proofs.Fronts.{up_to_clear}
use Rattle.protocol.specs.Normal.{is_escape, escape_at, special, replacement, normal}
use Rattle.protocol.specs.Pattern.{is_star, first_run, later_runs}
use Rattle.protocol.proofs.Sizes.{no_percent}
use Rattle.protocol.proofs.Plain.{Clear, hex_not_star, escape_hex, replacement_clear}
use Rattle.escapes.specs.Escapes.{taken}
use Rattle.normal.proofs.Steps.{normal_cons, normal_kept, by_replacements}

-- a star stands for itself
module _ (c : ℕ) (l : List ℕ) (s : is_star c ≡ true) where
  star_alone : is_escape c l ≡ false
  star_alone = no_percent c l (λ e. eqb-false (code "*") (code "%") refl (sym (eqb-true c (code "*") s) ∙ e))

  star_kept : normal true 0 (c ∷ l) ≡ c ∷ normal true 0 l
  unfolding special
  star_kept = normal_kept true c l (rw (eqb-true c (code "*") s))

  star_rest : drop (taken c l) (c ∷ l) ≡ l
  star_rest = rw star_alone

-- the first run holds an escape whole, or not at all
cut_escape : (c : ℕ) (l : List ℕ) → is_escape c l ≡ true
    → (is_escape c (first_run l) ≡ true) × ((escape_at (first_run l) ≡ escape_at l) × (drop 2 (first_run l) ≡ first_run (drop 2 l)))
unfolding is_escape escape_at first_run
cut_escape c [] h = absurd (false≢true h)
cut_escape c (d ∷ []) h = absurd (false≢true h)
cut_escape c (d ∷ e ∷ l) h =
    rw (up_to_on is_star d (e ∷ l) (hex_not_star d (escape_hex c d e l h).0), up_to_on is_star e l (hex_not_star e (escape_hex c d e l h).1)) (h, (refl, refl))

cut_other : (c : ℕ) (l : List ℕ) → is_escape c l ≡ false → is_escape c (first_run l) ≡ false
unfolding is_escape first_run up_to
cut_other c [] h = refl
cut_other c (d ∷ []) h = split (is_star d) (λ e. rw e) (λ e. rw e)
cut_other c (d ∷ e ∷ l) h =
    split (is_star d) (λ s. rw s) (λ s. rw s (split (is_star e) (λ t. rw t) (λ t. rw t h)))

cut_replacement : (c : ℕ) (l : List ℕ) → replacement true c (first_run l) ≡ replacement true c l
unfolding replacement
cut_replacement c l =
    split (is_escape c l) (λ h. let k = cut_escape c l h in rw (h, k.0) k.1.0) (λ h. rw (h, cut_other c l h))

cut_rest : (c : ℕ) (l : List ℕ) → drop (taken c (first_run l)) (c ∷ first_run l) ≡ first_run (drop (taken c l) (c ∷ l))
cut_rest c l =
    split (is_escape c l) (λ h. let k = cut_escape c l h in rw (h, k.0) k.1.1) (λ h. rw (h, cut_other c l h))

nothing : [] ≡ normal true 0 []
unfolding normal
nothing = refl

first_run_more : (c : ℕ) (l : List ℕ)
    → first_run (normal true 0 (drop (taken c l) (c ∷ l))) ≡ normal true 0 (first_run (drop (taken c l) (c ∷ l)))
    → first_run (normal true 0 (c ∷ l)) ≡ normal true 0 (first_run (c ∷ l))
unfolding first_run
first_run_more c l h =
    split (is_star c) (λ s. rw (star_kept c l s, up_to_stop is_star c (normal true 0 l) s, up_to_stop is_star c l s) nothing)
    (λ s.
    rw (normal_cons true c l, up_to_clear (λ x. not (is_star x)) is_star (λ x. not-true (is_star x)) (replacement true c l) _ (replacement_clear true c l (rw s)), h, up_to_on is_star c l s, normal_cons true c (up_to is_star l), cut_replacement c l, cut_rest c l))

pub first_run_normal : (raw : List ℕ) → first_run (normal true 0 raw) ≡ normal true 0 (first_run raw)
unfolding first_run normal up_to
first_run_normal = by_replacements (λ l. first_run (normal true 0 l) ≡ normal true 0 (first_run l)) refl first_run_more

-- what holds no star has no part in the later runs
runs_clear : (a b : List ℕ) → Clear a → later_runs (a ++ b) ≡ later_runs b
unfolding later_runs all
runs_clear [] b h = refl
runs_clear (x ∷ a) b h =
    rw (not-true (is_star x) (and_left (not (is_star x)) (all (λ y. not (is_star y)) a) h))
    (runs_clear a b (and_right (not (is_star x)) (all (λ y. not (is_star y)) a) h))

runs_on : (c : ℕ) (l : List ℕ) → is_star c ≡ false → later_runs (c ∷ l) ≡ later_runs (drop (taken c l) (c ∷ l))
unfolding is_escape all later_runs
runs_on c [] s = rw s
runs_on c (d ∷ []) s = rw s
runs_on c (d ∷ e ∷ l) s =
    split (is_escape c (d ∷ e ∷ l))
    (λ h. rw (h, s, hex_not_star d (escape_hex c d e l h).0, hex_not_star e (escape_hex c d e l h).1))
    (λ h. rw (h, s))

later_runs_star : (c : ℕ) (l : List ℕ) → is_star c ≡ true → later_runs (normal true 0 l) ≡ map (normal true 0) (later_runs l)
    → later_runs (normal true 0 (c ∷ l)) ≡ map (normal true 0) (later_runs (c ∷ l))
unfolding later_runs
later_runs_star c l s h = rw (star_kept c l s, s, first_run_normal l) (ap (λ (m : List (List ℕ)). normal true 0 (first_run l) ∷ m) h)

later_runs_more : (c : ℕ) (l : List ℕ)
    → later_runs (normal true 0 (drop (taken c l) (c ∷ l))) ≡ map (normal true 0) (later_runs (drop (taken c l) (c ∷ l)))
    → later_runs (normal true 0 (c ∷ l)) ≡ map (normal true 0) (later_runs (c ∷ l))
later_runs_more c l h =
    split (is_star c) (λ s. later_runs_star c l s (rw (star_rest c l s) at h))
    (λ s. rw (normal_cons true c l, runs_clear (replacement true c l) _ (replacement_clear true c l (rw s)), runs_on c l s) h)

pub later_runs_normal : (raw : List ℕ) → later_runs (normal true 0 raw) ≡ map (normal true 0) (later_runs raw)
unfolding later_runs normal
later_runs_normal = by_replacements (λ l. later_runs (normal true 0 l) ≡ map (normal true 0) (later_runs l)) refl later_runs_more
