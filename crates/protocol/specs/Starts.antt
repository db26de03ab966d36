-- Where the walk puts a pattern's runs, and what it means that starts of the runs are right (M-110). Assumes nothing.
use Rattle.std.specs.Prelude.{ℕ, ◌+◌, ◌-◌, ◌≤◌, ◌≡◌, Bool, true, List, [], ◌∷◌, length}
use Rattle.lists.specs.Occurs.{Occurs}
use Rattle.protocol.specs.declared.Walked.{Walked}
use Rattle.protocol.specs.Pattern.{Shape, first_run, later_runs, runs}
use Rattle.protocol.specs.Walk.{first, next, is_last}

-- the start of the run r, where the walk w ends behind it
abbrev pub start_of : List ℕ → Walked → ℕ
start_of r w = w.past - length r

-- "the leftmost walk's starts": those of the later runs, where the walk stands at w
unfoldable pub later_starts : Bool → List (List ℕ) → List ℕ → Walked → List ℕ
later_starts end_mark [] path w = []
later_starts end_mark (r ∷ rs) path w =
    let v = next (is_last end_mark rs) r path w in start_of r v ∷ later_starts end_mark rs path v

-- and those of all runs. Where the walk finds no match they mean nothing.
unfoldable pub starts : Shape → List ℕ → List ℕ
starts s path =
    let r = first_run s.text in
    let rs = later_runs s.text in
    let w = first (is_last s.end_mark rs) r path in
    start_of r w ∷ later_starts s.end_mark rs path w

-- "one start for each run [..] none before the end of the run ahead, each run standing there, and the last ending the path where there is
-- an end mark": for an end mark, the end of the run ahead, runs, their starts, and a path
unfoldable pub Stand : Bool → ℕ → List (List ℕ) → List ℕ → List ℕ → Type 0
Stand end_mark k [] [] path = end_mark ≡ true → k ≡ length path
Stand end_mark k [] (j ∷ js) path = ⊥
Stand end_mark k (r ∷ rs) [] path = ⊥
Stand end_mark k (r ∷ rs) (j ∷ js) path = (k ≤ j) × Occurs path j r × Stand end_mark (j + length r) rs js path

-- "there is one start for each run, the first 0", and the rest as above
abbrev pub StandAt : Shape → List ℕ → List ℕ → Type 0
StandAt s path [] = ⊥
StandAt s path (j ∷ js) = (j ≡ 0) × Stand s.end_mark 0 (runs s) (j ∷ js) path
