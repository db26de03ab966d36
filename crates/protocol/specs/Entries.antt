-- "From lines to groups": an entry for each agent line and each rule line of a file, with the number of its group. Assumes nothing.
use Rattle.std.specs.Prelude.{ℕ, ◌+◌, Bool, true, false, ◌||◌, List, [], ◌∷◌, ◌++◌, eqb, if◌then◌else◌}
use Rattle.std.proofs.Math.Option.{Option, none, some}
use Rattle.protocol.specs.declared.LineNumber.{LineNumber}
use Rattle.protocol.specs.declared.Place.{Place}
use Rattle.protocol.specs.declared.Side.{Side}
use Rattle.protocol.specs.declared.Kind.{Kind}
use Rattle.protocol.specs.Lines.{Line, lines_of, place_at, place_after}
use Rattle.protocol.specs.Kinds.{kind_of, place_of, length_of}

-- what a line is to its group
pub data Role : Type 0 where
  agent : Role
  rule : Side → Role

-- its line, its group (from 1; 0 is none), its role, and the place and length of its value in the file (0 and 0 if that is empty)
pub record Entry : Type 0 where
  pub line : LineNumber
  pub group : ℕ
  pub role : Role
  pub place : Place
  pub length : ℕ

-- "Blank, noise and other lines change nothing"
unfoldable pub role_of : Kind → Option Role
role_of Kind.Blank = none
role_of Kind.Noise = none
role_of Kind.Other = none
role_of (Kind.Agent a) = some agent
role_of (Kind.Rule side p) = some (rule side)

-- "An agent line starts a new group if it is the first agent line, or if a rule line of any readability stands between it and the agent
-- line before. Otherwise it joins the group above." "A rule line belongs to the group above it; before the first agent line, to none."
-- above: the group above; ruled: a rule line stands between here and the agent line before
unfoldable pub group_at : ℕ → Bool → Option Role → ℕ
group_at above ruled none = above
group_at above ruled (some agent) = if eqb above 0 || ruled then above + 1 else above
group_at above ruled (some (rule side)) = above

unfoldable pub ruled_after : Bool → Option Role → Bool
ruled_after ruled none = ruled
ruled_after ruled (some agent) = false
ruled_after ruled (some (rule side)) = true

-- the place in the file of the value of a line of kind k that begins at p
unfoldable pub place_in_file : Place → Kind → Place
place_in_file p k = if eqb (length_of k) 0 then place_at 0 else place_after p (place_of k).offset

unfoldable pub entry_of : ℕ → Line → Kind → Option Role → List Entry
entry_of group l k none = []
entry_of group l k (some role) =
    record { line = l.number; group = group; role = role; place = place_in_file l.place k; length = length_of k } ∷ []

unfoldable pub entries_from : ℕ → Bool → List Line → List Entry
entries_from above ruled [] = []
entries_from above ruled (l ∷ ls) =
    let kind = kind_of l.text in
    let role = role_of kind in
    let group = group_at above ruled role in
    entry_of group l kind role ++ entries_from group (ruled_after ruled role) ls

unfoldable pub entries : List ℕ → List Entry
entries file = entries_from 0 false (lines_of file)
