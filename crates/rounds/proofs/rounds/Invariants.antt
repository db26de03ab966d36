-- The paths have gone through some rules, and the others of the file are left. Assumes nothing.
use Rattle.std.proofs.Common.{◌≡◌, ◌-◌, length}
use Rattle.listing.specs.Memory.{held, Same}
use Rattle.collecting.specs.Left.{first_pass}
use Rattle.rounds.proofs.Rounding.{Gone}
use Rattle.rounds.proofs.rounds.Given as goal

abbrev pub invariant-loop-pass : goal.invariant-loop-pass
invariant-loop-pass l =
    record {
      same : Same l.initial.answers l.answers;
      gone : Gone l.dialect l.file l.who l.paths.joined.now l.paths.ends.now (first_pass l.file) (held l.initial.answers) (held l.answers) l.pass;
      room : length l.kept ≡ 512;
    }

abbrev pub decreases-loop-pass : goal.decreases-loop-pass
decreases-loop-pass l = length l.file - l.pass.at.place.offset
