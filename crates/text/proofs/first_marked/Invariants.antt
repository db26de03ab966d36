-- What the loop of `text::first_marked` keeps. Assumes nothing.
use Rattle.std.proofs.Common.{ℕ, Bool, ◌-◌, ◌≤◌, length}
use Rattle.lists.specs.Lists.{up_to}
use Rattle.words.specs.Words.{Marks}
use Rattle.text.proofs.first_marked.Given as goal

-- no octet of the words so far is marked
abbrev pub invariant-loop-i : goal.invariant-loop-i
invariant-loop-i g l = (f : ℕ → Bool) → Marks (goal.F-post g l.marks) f → l.i ≤ length (up_to f l.s)

abbrev pub decreases-loop-i : goal.decreases-loop-i
decreases-loop-i g l = length l.s - l.i
