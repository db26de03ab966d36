-- "The walk finds a match exactly when every run stands": exactly when the pattern matches. Assumes nothing.
use Prim.Native.Nat.{ℕ, ◌+◌}
use mathlib.Core.Path.{◌≡◌}
use mathlib.Core.Bool.{Bool, true, false≢true}
use mathlib.Core.Logic.{◌↔◌}
use mathlib.Core.List.{List, [], ◌∷◌}
use native.Mathlib.Omega.{arith}
use lib.ListN.{length}
use Rattle.protocol.specs.declared.Walked.{Walked}
use Rattle.protocol.specs.Pattern.{Shape, first_run, later_runs}
use Rattle.protocol.specs.Matching.{Matches}
use Rattle.protocol.specs.Walk.{first, next, is_last, later, walk_runs, walk}
use Rattle.protocol.specs.Starts.{starts, Stand, StandAt}
use Rattle.protocol.proofs.Leftmost.{StoodBy, first_leftmost, next_leftmost}
use Rattle.protocol.proofs.Starts.{starts_stand, stand_matches, matches_stand}

module _ (end_mark : Bool) (path : List ℕ) where
  -- an end-marked last run ends the path
  stand_last : (k : ℕ) (rs : List (List ℕ)) (ks : List ℕ) → Stand end_mark k rs ks path → is_last end_mark rs ≡ true → k ≡ length path
  unfolding Stand
  stand_last k [] [] h e = h e
  stand_last k [] (j ∷ js) h e = absurd h
  stand_last k (r ∷ rs) ks h e = absurd (false≢true e)

  -- where the later runs stand behind k, and the walk came no further than k, the walk finds them
  later_finds : (k : ℕ) (rs : List (List ℕ)) (ks : List ℕ) (w : Walked) → Stand end_mark k rs ks path → StoodBy k w
      → (later end_mark rs path w).stood ≡ true
  unfolding later Stand
  later_finds k [] ks w h e = e.0
  later_finds k (r ∷ rs) [] w h e = absurd h
  later_finds k (r ∷ rs) (j ∷ js) w (l, o, h) e =
      let v = next (is_last end_mark rs) r path w in
      let end = j + length r in
      later_finds end rs js v h (next_leftmost (is_last end_mark rs) r path w j k e l o (stand_last end rs js h))

-- where the runs stand anywhere, the walk finds them
pub stand_found : (s : Shape) (path ks : List ℕ) → StandAt s path ks → (walk s path).stood ≡ true
unfolding walk walk_runs Stand
stand_found s path [] h = absurd h
stand_found s path (j ∷ js) (z, (l, o, h)) =
    let r = first_run s.text in
    let rs = later_runs s.text in
    let end = stand_last s.end_mark path (j + length r) rs js h in
    let w = first_leftmost (is_last s.end_mark rs) r path (rw z at o) (λ e. omega (arith, end e)) in
    later_finds s.end_mark path (j + length r) rs js (first (is_last s.end_mark rs) r path) h (w.0, omega arith)

-- The walk finds a match exactly when the pattern matches.
pub walk_finds : (s : Shape) (path : List ℕ) → ((walk s path).stood ≡ true) ↔ Matches s path
walk_finds s path = (
  λ h. stand_matches s path (starts s path) (starts_stand s path h),
  λ m. let (ks, h) = matches_stand s path m in stand_found s path ks h,
)

-- "for every matching rule the leftmost walk's starts are accepted"
pub matches_starts : (s : Shape) (path : List ℕ) → Matches s path → StandAt s path (starts s path)
matches_starts s path m = starts_stand s path ((walk_finds s path).1 m)
