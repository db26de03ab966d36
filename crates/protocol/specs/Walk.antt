-- "The walk", document 01's own term: which runs stand, and how many pairs of octets are compared on the way. `n` is the number of pairs compared before.
-- `path` is the whole normalised path, and `t` what is left of it from the place k on. Assumes nothing.
use Rattle.std.specs.Prelude.{ℕ, ◌+◌, ◌-◌, Bool, true, false, List, [], ◌∷◌, length, drop, leb, eqb, if◌then◌else◌}
use Rattle.protocol.specs.declared.Tried.{Tried}
use Rattle.protocol.specs.declared.Walked.{Walked}
use Rattle.protocol.specs.Pattern.{Shape, first_run, later_runs}

-- "A try compares left to right, stops at the first difference, and each pair compared counts 1". Within the path, the second line is
-- never reached.
unfoldable pub tried : List ℕ → List ℕ → ℕ → Tried
tried [] t n = record { stood = true; count = n }
tried (a ∷ r) [] n = record { stood = false; count = n }
tried (a ∷ r) (b ∷ t) n = if eqb a b then tried r t (n + 1) else record { stood = false; count = n + 1 }

-- "fails at no cost": n pairs were compared before. There is no place past a run that failed; 0 stands for it
abbrev pub failed : ℕ → Walked
failed n = record { stood = false; past = 0; count = n }

-- what a try of a run of `size` octets at the place k leads to
abbrev pub placed : ℕ → ℕ → Tried → Walked
placed size k x = if x.stood then record { stood = true; past = k + size; count = x.count } else failed x.count

-- the run r is "within p": it doesn't pass the end of the path
abbrev pub fits : List ℕ → List ℕ → Bool
fits r t = leb (length r) (length t)

-- a try at the place k. "A try that would pass p fails the rule at no cost"
unfoldable pub try_at : List ℕ → ℕ → ℕ → List ℕ → Walked
try_at r k n t = if fits r t then placed (length r) k (tried r t n) else failed n

-- "Each later run is tried at the end of the run before it, then one further each time, until it stands"
unfoldable pub seek : List ℕ → ℕ → ℕ → List ℕ → Walked
seek r k n [] = try_at r k n []
seek r k n (b ∷ t) =
    if fits r (b ∷ t) then
    (if (tried r (b ∷ t) n).stood then placed (length r) k (tried r (b ∷ t) n) else seek r (k + 1) (tried r (b ∷ t) n).count t)
    else failed n

-- "with an end mark, the last run has one possible start, p less its length. It fails at no cost if that start is under 0 or under the
-- end of the run before", which is at k
unfoldable pub final : List ℕ → ℕ → ℕ → List ℕ → Walked
final r k n path =
    if leb (k + length r) (length path) then try_at r (length path - length r) n (drop (length path - length r) path) else failed n

-- true where the run is the end-marked last one. "The first run is tried at 0 only"; an end-marked last run "that is also the first" fails at no cost if its start is "not 0"
unfoldable pub first : Bool → List ℕ → List ℕ → Walked
first true r path = if eqb (length r) (length path) then try_at r 0 0 path else failed 0
first false r path = try_at r 0 0 path

-- likewise for a later run, where the walk has come to w. "After the first failed run the rule is done"
unfoldable pub next : Bool → List ℕ → List ℕ → Walked → Walked
next true r path w = if w.stood then final r w.past w.count path else w
next false r path w = if w.stood then seek r w.past w.count (drop w.past path) else w

-- the run before these is the last run of a pattern with an end mark
abbrev pub is_last : Bool → List (List ℕ) → Bool
is_last end_mark [] = end_mark
is_last end_mark (r ∷ rs) = false

unfoldable pub later : Bool → List (List ℕ) → List ℕ → Walked → Walked
later end_mark [] path w = w
later end_mark (r ∷ rs) path w = later end_mark rs path (next (is_last end_mark rs) r path w)

unfoldable pub walk_runs : Bool → List ℕ → List (List ℕ) → List ℕ → Walked
walk_runs end_mark r rs path = later end_mark rs path (first (is_last end_mark rs) r path)

-- "The walk finds a match exactly when every run stands, and its count is the number of pairs compared"
unfoldable pub walk : Shape → List ℕ → Walked
walk s path = walk_runs s.end_mark (first_run s.text) (later_runs s.text) path
