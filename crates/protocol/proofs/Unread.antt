-- The unread count of a file's entries is the number of its lines of an unreadable kind. Assumes nothing.
use Prim.Native.Nat.{ℕ, ◌+◌, ◌≤◌, ◌<◌}
use mathlib.Core.Path.{◌≡◌, refl, ◌∙◌}
use mathlib.Core.Bool.{Bool, false, and-false}
use mathlib.Core.List.{List, [], ◌∷◌, ◌++◌}
use mathlib.Core.Option.{Option, none, some}
use native.Mathlib.Omega.{arith}
use lib.ListN.{length, take, drop, length-take, length-drop}
use Rattle.lists.specs.Choice.{one_if}
use Rattle.lists.specs.Lists.{empty, total}
use Rattle.lists.specs.Each.{Each}
use Rattle.protocol.specs.declared.Place.{Place}
use Rattle.protocol.specs.declared.Agent.{Agent}
use Rattle.protocol.specs.declared.Pattern.{Pattern}
use Rattle.protocol.specs.declared.Kind.{Kind}
use Rattle.protocol.specs.Text.{octets_at}
use Rattle.protocol.specs.Lines.{Line, lines_of}
use Rattle.protocol.specs.Kinds.{kind_of, place_of, length_of, unreadable_kind}
use Rattle.protocol.specs.Entries.{Role, Entry, role_of, group_at, ruled_after, place_in_file, entry_of, entries_from, entries}
use Rattle.protocol.specs.Rules.{unreadable, unread}
use Rattle.protocol.proofs.Values.{Says, kind_says}
use Rattle.protocol.proofs.Inside.{InFile, lines_inside, value_in_file}

some_octet : (line : List ℕ) (p : Place) (n : ℕ) → p.offset + n ≤ length line → 0 < n → empty (octets_at line p n) ≡ false
unfolding octets_at
some_octet line p n h k = go (take n (drop p.offset line)) (simp (length-take, length-drop) (omega arith))
  where
    go : (v : List ℕ) → 0 < length v → empty v ≡ false
    go [] e = absurd (omega arith)
    go (c ∷ v) e = refl

-- a line of that role, if it has one, with that value is unreadable
abbrev pub unreadable_as : Option Role → List ℕ → Bool
unreadable_as none v = false
unreadable_as (some ro) v = unreadable ro v

-- A line's kind says whether it is unreadable.
pub kind_unreadable : (line : List ℕ) (k : Kind) → Says line k → unreadable_as (role_of k) (octets_at line (place_of k) (length_of k)) ≡ unreadable_kind k
unfolding role_of unreadable octets_at
kind_unreadable line Kind.Blank h = refl
kind_unreadable line Kind.Noise h = refl
kind_unreadable line Kind.Other h = refl
kind_unreadable line (Kind.Agent (Agent.Readable p n)) h = rw h.told
kind_unreadable line (Kind.Agent (Agent.Unreadable p n)) h = rw h.told
kind_unreadable line (Kind.Rule side Pattern.Empty) h = refl
kind_unreadable line (Kind.Rule side (Pattern.Readable p n)) h = rw (h.told, and-false)
kind_unreadable line (Kind.Rule side (Pattern.Unreadable p n)) h = rw (some_octet line p n h.0.fits h.1, h.0.told)

-- what a line of that role adds to the unread count
entry_adds : (file : List ℕ) (g : ℕ) (l : Line) (k : Kind) (ro : Option Role) (es : List Entry)
    → unread file (entry_of g l k ro ++ es) ≡ one_if (unreadable_as ro (octets_at file (place_in_file l.place k) (length_of k))) + unread file es
unfolding entry_of unread total
entry_adds file g l k none es = omega arith
entry_adds file g l k (some ro) es = refl

lines_add : (file : List ℕ) (g : ℕ) (ruled : Bool) (ls : List Line) → Each (InFile file) ls
    → unread file (entries_from g ruled ls) ≡ total (λ l. one_if (unreadable_kind (kind_of l.text))) ls
unfolding entries_from unread total
lines_add file g ruled [] h = refl
lines_add file g ruled (l ∷ ls) h =
    let kind = kind_of l.text in
    let role = role_of kind in
    let group = group_at g ruled role in
    let rest = ruled_after ruled role in
    entry_adds file group l kind role (entries_from group rest ls)
    ∙ rw (value_in_file file l h.0, kind_unreadable l.text kind (kind_says l.text), lines_add file group rest ls h.1)

-- "The unread count is the number of unreadable agent and rule lines in the whole file", said of lines and their kinds.
pub unread_lines : (file : List ℕ) → unread file (entries file) ≡ total (λ l. one_if (unreadable_kind (kind_of l.text))) (lines_of file)
unfolding entries
unread_lines file = lines_add file 0 false (lines_of file) (lines_inside file)
