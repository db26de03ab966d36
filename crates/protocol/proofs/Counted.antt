-- What the walk costs: at most the pattern's weight times the octets of the path. Assumes nothing.
use Rattle.std.specs.Prelude.{if◌then◌else◌}
use Prim.Native.Nat.{ℕ, ◌+◌, ◌-◌, ◌*◌, ◌≤◌}
use mathlib.Core.Bool.{Bool, true, false}
use mathlib.Core.List.{List, [], ◌∷◌}
use native.Mathlib.Omega.{arith}
use native.Mathlib.Nat.{mul-le-mul_left, mul-le-mul_right, add-mul}
use lib.ListN.{length, drop, length-drop}
use lib.Dec.{leb, eqb}
use borrow.Author.Tests.{eqb-true, eqb-false, leb-true, leb-false}
use Rattle.lists.specs.Lists.{up_to, total}
use Rattle.lists.proofs.Bools.{split}
use Rattle.protocol.specs.declared.Walked.{Walked}
use Rattle.protocol.specs.Pattern.{Shape, weight, is_star, first_run, later_runs}
use Rattle.protocol.specs.Walk.{tried, try_at, seek, final, first, next, is_last, later, walk_runs, walk}
use Rattle.protocol.proofs.Tries.{le_times, tried_more, tried_most, placed_count, try_at_in, try_at_out, seek_more, seek_most}
use Rattle.protocol.proofs.Steps.{first_out, first_whole, first_part_lem, next_kept, next_final, next_seek}

-- from n pairs to at most `most` more
abbrev pub Costs : ℕ → ℕ → Walked → Type 0
Costs n most w = (n ≤ w.count) × (w.count ≤ n + most)

try_at_costs : (r : List ℕ) (k n : ℕ) (t : List ℕ) → Costs n (length r * length t) (try_at r k n t)
try_at_costs r k n t =
    split (leb (length r) (length t))
    (λ l.
    rw (try_at_in r k n t (leb-true _ _ l), placed_count (length r) k (tried r t n))
    (tried_more r t n, omega (arith, tried_most r t n, le_times (length r) (length t) (leb-true _ _ l))))
    (λ l. rw (try_at_out r k n t (leb-false _ _ l)) (omega arith))

-- no more is left of the path than the path
widened : (r path : List ℕ) (k n : ℕ) (w : Walked) → Costs n (length r * length (drop k path)) w → Costs n (length r * length path) w
widened r path k n w h =
    let l : length (drop k path) ≤ length path = simp length-drop (omega arith) in omega (arith, mul-le-mul_left (length r) l)

final_costs : (r : List ℕ) (k n : ℕ) (path : List ℕ) → Costs n (length r * length path) (final r k n path)
unfolding final
final_costs r k n path =
    let d = length path - length r in
    split (leb (k + length r) (length path))
    (λ l. rw l (widened r path d n (try_at r d n (drop d path)) (try_at_costs r d n (drop d path))))
    (λ l. rw l (omega arith))

first_costs : (last : Bool) (r path : List ℕ) → Costs 0 (length r * length path) (first last r path)
first_costs true r path =
    split (eqb (length r) (length path))
    (λ e. rw (first_whole r path (eqb-true _ _ e)) (try_at_costs r 0 0 path))
    (λ e. rw (first_out r path (eqb-false _ _ e)) (omega arith))
first_costs false r path = rw (first_part_lem r path) (try_at_costs r 0 0 path)

next_costs : (last : Bool) (r path : List ℕ) (w : Walked) → Costs w.count (length r * length path) (next last r path w)
next_costs last r path w =
    let t = drop w.past path in
    split w.stood
    (λ e.
    split last
    (λ z. rw (next_final r path w last e z) (final_costs r w.past w.count path))
    (λ z.
    rw (next_seek r path w last e z)
    (widened r path w.past w.count (seek r w.past w.count t) (seek_more r w.past w.count t, seek_most r w.past w.count t))))
    (λ e. rw (next_kept r path w last e) (omega arith))

pub later_costs : (end_mark : Bool) (rs : List (List ℕ)) (path : List ℕ) (w : Walked)
    → Costs w.count (total length rs * length path) (later end_mark rs path w)
unfolding later total
later_costs end_mark [] path w = omega arith
later_costs end_mark (r ∷ rs) path w =
    let a = next_costs (is_last end_mark rs) r path w in
    let b = later_costs end_mark rs path (next (is_last end_mark rs) r path w) in
    omega (arith, add-mul (length r) (total length rs) (length path))

runs_costs : (end_mark : Bool) (r : List ℕ) (rs : List (List ℕ)) (path : List ℕ)
    → Costs 0 ((length r + total length rs) * length path) (walk_runs end_mark r rs path)
unfolding walk_runs
runs_costs end_mark r rs path =
    let a = first_costs (is_last end_mark rs) r path in
    let b = later_costs end_mark rs path (first (is_last end_mark rs) r path) in
    omega (arith, add-mul (length r) (total length rs) (length path))

-- the runs have no more octets than the pattern
runs_size : (text : List ℕ) → length (first_run text) + total length (later_runs text) ≤ length text
unfolding first_run later_runs up_to total
runs_size [] = omega arith
runs_size (c ∷ text) =
    let ih = runs_size text in split (is_star c) (λ e. rw e (omega arith)) (λ e. rw e (omega arith))

-- "at most the pattern's weight times the octets of the path"
pub walk_bound : (s : Shape) (path : List ℕ) → (walk s path).count ≤ weight s * length path
unfolding walk weight
walk_bound s path =
    let n = length (first_run s.text) + total length (later_runs s.text) in
    let m : ℕ = if s.end_mark then 1 else 0 in
    let l : n ≤ length s.text + m = omega (arith, runs_size s.text) in
    omega (arith, runs_costs s.end_mark (first_run s.text) (later_runs s.text) path, mul-le-mul_right (length path) l)
