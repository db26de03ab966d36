-- M-101, "The morning list": many paths against one file and one name, in one call. Assumes nothing.
use Rattle.std.specs.Prelude.{ℕ, ◌-◌, List, [], ◌∷◌, map}
use Rattle.protocol.specs.Forms.{Decision}
use Rattle.protocol.specs.Lines.{place_at}
use Rattle.protocol.specs.Text.{octets_at}
use Rattle.protocol.specs.Refusals.{Row, unknown_dialect, too_long, bad_name, bad_ends, short_answers, refusal, unless_refused}
use Rattle.protocol.specs.Answers.{decide, side_number, at_front}

-- what is given: the dialect's number, the file, the name, the joined paths with their ends, and the memory lent for the answers, as it is
pub record Batch : Type 0 where
  pub dialect : ℕ
  pub file : List ℕ
  pub name : List ℕ
  pub paths : List ℕ
  pub ends : List ℕ
  pub refusals : List ℕ
  pub sides : List ℕ
  pub lines : List ℕ

-- "Refusals: 1 and 2, then 12 [..], then 13"; M-113: "20 for an unknown dialect, first of all"
abbrev pub batch_rows : Batch → List Row
batch_rows b =
    unknown_dialect b.dialect ∷ too_long b.file ∷ bad_name b.name ∷ bad_ends b.paths b.ends
    ∷ short_answers b.ends b.refusals b.sides b.lines
    ∷ []

unfoldable pub batch_refusal : Batch → ℕ
batch_refusal b = refusal (batch_rows b)

-- "Paths come joined in one slice, with a slice of their ends": those behind the end e
unfoldable pub paths_from : ℕ → List ℕ → List ℕ → List (List ℕ)
paths_from e paths [] = []
paths_from e paths (f ∷ ends) = octets_at paths (place_at e) (f - e) ∷ paths_from f paths ends

abbrev pub paths_of : Batch → List (List ℕ)
paths_of b = paths_from 0 b.paths b.ends

-- "each what a single question gives, a path's own refusal included"
unfoldable pub decisions : Batch → List Decision
decisions b = map (decide b.dialect b.file b.name) (paths_of b)

-- "go into lent slices, one place a path": a number of each decision; refused, "nothing is written"
unfoldable pub column : (Decision → ℕ) → Batch → List ℕ
column number b = unless_refused (batch_refusal b) (λ n. []) (map number (decisions b))

-- "Numbers, decisions and lines": the lent memory afterwards. "Places beyond the last path stay."
unfoldable pub refusals_after : Batch → List ℕ
refusals_after b = at_front (column (λ d. d.refusal) b) b.refusals

unfoldable pub sides_after : Batch → List ℕ
sides_after b = at_front (column (λ d. side_number d.side) b) b.sides

unfoldable pub lines_after : Batch → List ℕ
lines_after b = at_front (column (λ d. d.line.number) b) b.lines
