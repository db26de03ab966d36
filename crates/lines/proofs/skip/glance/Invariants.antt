-- What is found and counted and what is left make the whole.
use Rattle.std.proofs.Common.{◌≡◌, ◌+◌, ◌≤◌, ◌||◌, length}
use Rattle.std.specs.List.{zip}
use Rattle.std.specs.Iterator.Adapters.{zip_first, zip_second}
use Rattle.std.specs.Slice.Iter.{iter_rest}
use Rattle.lists.specs.Lists.{any}
use Rattle.lines.specs.Skips.{entry_octet, opens, endings}
use Rattle.lines.proofs.skip.glance.Given as goal

abbrev pub invariant-loop-x : goal.invariant-loop-x
invariant-loop-x l =
    record {
      few : l.n + length (iter_rest (zip_first l.x-iterator)) ≤ length l.b;
      whole : l.n + endings (zip (iter_rest (zip_first l.x-iterator)) (iter_rest (zip_second l.x-iterator))) ≡ endings (zip l.b l.behind);
      seen : (l.found || any (opens entry_octet) (zip (iter_rest (zip_first l.x-iterator)) (iter_rest (zip_second l.x-iterator)))) ≡ any (opens entry_octet) (zip l.b l.behind);
    }
