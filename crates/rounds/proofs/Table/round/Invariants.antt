-- The paths passed have gone through the rules, and the others not yet. Assumes nothing.
use Rattle.listing.specs.Memory.{held, Same}
use Rattle.rounds.specs.Tabled.{rules_in}
use Rattle.rounds.proofs.Rounding.{Rounding}
use Rattle.rounds.proofs.Table.round.Given as goal

abbrev pub invariant-loop-i : goal.invariant-loop-i
invariant-loop-i l =
    record {
      same : Same l.initial.answers l.answers;
      rounding : Rounding l.self.dialect l.self.file.now (rules_in l.self) l.paths.joined.now l.paths.ends.now (held l.initial.answers) (held l.answers) l.i;
    }
