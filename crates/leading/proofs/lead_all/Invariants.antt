-- The rules that are left, after the leader so far, give the leader after all of them. Assumes nothing.
use Rattle.std.proofs.Common.{◌≡◌, drop, length}
use Rattle.tables.specs.Tables.{rules_of}
use Rattle.leading.specs.Leading.{led_all}
use Rattle.leading.proofs.lead_all.Given as goal

abbrev pub invariant-loop-kept : goal.invariant-loop-kept
invariant-loop-kept l = record {
  scratch_same : length l.scratch ≡ length l.initial.scratch;
  leads : led_all l.dialect l.file l.path l.leader (rules_of (drop l.kept-index l.rules))
      ≡ led_all l.dialect l.file l.path l.initial.leader (rules_of l.rules);
}
