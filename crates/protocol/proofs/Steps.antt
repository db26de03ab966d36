-- What the first run, a later one and the end-marked last one lead to, one law for each outcome of a test. Assumes nothing.
use Rattle.std.specs.Prelude.{if◌then◌else◌}
use Prim.Native.Nat.{ℕ, ◌+◌, ◌-◌, ◌≤◌, ◌<◌}
use mathlib.Core.Path.{◌≡◌, refl, ◌∙◌, subst⁻¹}
use mathlib.Core.Bool.{Bool, true, false, true≢false, false≢true}
use mathlib.Core.List.{List, [], ◌∷◌}
use native.Mathlib.Omega.{arith}
use lib.ListN.{length, drop, length-drop}
use lib.Dec.{leb, eqb}
use borrow.Author.Tests.{eq-eqb, ne_eqb, eqb-true, eqb-false, leb-true, leb-false, le-leb, lt-leb}
use Rattle.lists.proofs.Bools.{split}
use Rattle.protocol.specs.declared.Tried.{Tried}
use Rattle.protocol.specs.declared.Walked.{Walked}
use Rattle.protocol.specs.Walk.{tried, failed, placed, try_at, seek, final, first, next, is_last, later}
use Rattle.protocol.proofs.Tries.{try_at_in, try_at_out, seek_out, seek_within}

-- the end-marked last run
module _ (r : List ℕ) (k n : ℕ) (path : List ℕ) where
  pub final_in : k + length r ≤ length path
      → final r k n path ≡ placed (length r) (length path - length r) (tried r (drop (length path - length r) path) n)
  unfolding final
  final_in l = rw (le-leb _ _ l) (try_at_in r _ n _ (simp length-drop (omega arith)))

  pub final_out : length path < k + length r → final r k n path ≡ failed n
  unfolding final
  final_out l = rw (lt-leb _ _ l)

-- the first run
module _ (r path : List ℕ) where
  pub first_out : (length r ≡ length path → ⊥) → first true r path ≡ failed 0
  unfolding first
  first_out d = rw (ne_eqb _ _ d)

  pub first_whole : length r ≡ length path → first true r path ≡ try_at r 0 0 path
  unfolding first
  first_whole d = rw (eq-eqb _ _ d)

  pub first_part_lem : first false r path ≡ try_at r 0 0 path
  unfolding first
  first_part_lem = refl

  pub first_short : (last : Bool) → length path < length r → first last r path ≡ failed 0
  first_short true l = first_out (λ e. omega arith)
  first_short false l = first_part_lem ∙ try_at_out r 0 0 path l

  pub first_in : (last : Bool) → length r ≤ length path → (last ≡ true → length path ≤ length r) → first last r path ≡ placed (length r) 0 (tried r path 0)
  first_in true l z = let m = z refl in first_whole (omega arith) ∙ try_at_in r 0 0 path l
  first_in false l z = first_part_lem ∙ try_at_in r 0 0 path l

-- a later run, where the walk stands at w
module _ (r path : List ℕ) (w : Walked) where
  pub next_kept : (last : Bool) → w.stood ≡ false → next last r path w ≡ w
  unfolding next
  next_kept true e = subst⁻¹ (λ (b : Bool). (if b then final r w.past w.count path else w) ≡ w) e refl
  next_kept false e = subst⁻¹ (λ (b : Bool). (if b then seek r w.past w.count (drop w.past path) else w) ≡ w) e refl

  pub next_final : (last : Bool) → w.stood ≡ true → last ≡ true → next last r path w ≡ final r w.past w.count path
  unfolding next
  next_final true e z = rw e
  next_final false e z = absurd (false≢true z)

  pub next_seek : (last : Bool) → w.stood ≡ true → last ≡ false → next last r path w ≡ seek r w.past w.count (drop w.past path)
  unfolding next
  next_seek true e z = absurd (true≢false z)
  next_seek false e z = rw e

  -- one that is longer than the path fails at no cost
  pub next_short : (last : Bool) → w.stood ≡ true → length path < length r → next last r path w ≡ failed w.count
  next_short last e l =
      split last
      (λ z. next_final last e z ∙ final_out r w.past w.count path (omega arith))
      (λ z. next_seek last e z ∙ seek_out r w.past w.count (drop w.past path) (simp length-drop (omega arith)))

-- after a failed run nothing more is tried
pub later_kept : (end_mark : Bool) (rs : List (List ℕ)) (path : List ℕ) (w : Walked) → w.stood ≡ false → later end_mark rs path w ≡ w
unfolding later
later_kept end_mark [] path w e = refl
later_kept end_mark (r ∷ rs) path w e = rw (next_kept r path w (is_last end_mark rs) e) (later_kept end_mark rs path w e)

-- the walk stays within the path
placed_within : (size k : ℕ) (x : Tried) → (placed size k x).past ≤ k + size
placed_within size k x = split x.stood (λ e. rw e (omega arith)) (λ e. rw e (omega arith))

try_at_within : (r : List ℕ) (k n : ℕ) (t : List ℕ) → (try_at r k n t).past ≤ k + length t
try_at_within r k n t =
    split (leb (length r) (length t))
    (λ e. rw (try_at_in r k n t (leb-true _ _ e)) (omega (arith, leb-true (length r) (length t) e, placed_within (length r) k (tried r t n))))
    (λ e. rw (try_at_out r k n t (leb-false _ _ e)) (omega arith))

pub first_within : (last : Bool) (r path : List ℕ) → (first last r path).past ≤ length path
first_within true r path =
    split (eqb (length r) (length path))
    (λ e. rw (first_whole r path (eqb-true _ _ e)) (omega (arith, try_at_within r 0 0 path)))
    (λ e. rw (first_out r path (eqb-false _ _ e)) (omega arith))
first_within false r path = rw (first_part_lem r path) (omega (arith, try_at_within r 0 0 path))

final_within : (r : List ℕ) (k n : ℕ) (path : List ℕ) → (final r k n path).past ≤ length path
final_within r k n path =
    let d = length path - length r in
    split (leb (k + length r) (length path))
    (λ e.
    let q : k + length r ≤ length path = leb-true _ _ e in
    rw (final_in r k n path q) (omega (arith, placed_within (length r) d (tried r (drop d path) n))))
    (λ e. rw (final_out r k n path (leb-false _ _ e)) (omega arith))

pub next_within : (last : Bool) (r path : List ℕ) (w : Walked) → w.past ≤ length path → (next last r path w).past ≤ length path
next_within last r path w l =
    split w.stood
    (λ e.
    split last
    (λ z. rw (next_final r path w last e z) (final_within r w.past w.count path))
    (λ z.
    rw (next_seek r path w last e z)
    (omega (arith, seek_within r w.past w.count (drop w.past path), length-drop w.past path))))
    (λ e. rw (next_kept r path w last e) l)
