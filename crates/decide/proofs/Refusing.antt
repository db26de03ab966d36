-- What is known of a file and a path where no decision about them is refused. Assumes nothing.
use Prim.Native.Nat.{ℕ, ◌≤◌}
use mathlib.Core.Path.{◌≡◌}
use mathlib.Core.List.{List}
use lib.ListN.{length}
use borrow.Author.Tests.{ltb-false}
use Rattle.protocol.specs.Normal.{normal_path}
use Rattle.protocol.specs.Meaning.{NoneGiven}
use Rattle.protocol.specs.Refusals.{path_rows, decide_rows, refusal, decide_refusal}
use Rattle.protocol.proofs.Refused.{path_numbered, refusal_by_table, decide_refusal_by_table}
use Rattle.protocol.proofs.Limits.{path_known, path_room}

module _ (n : ℕ) (file name path : List ℕ) (h : decide_refusal n file name path ≡ 0) where
  none : NoneGiven (decide_rows n file name path)
  none = (decide_refusal_by_table file name path n).answered.0 h

  pub short_file : length file ≤ 512_000
  short_file = ltb-false 512_000 (length file) none.1.0

  good_path : refusal (path_rows path) ≡ 0
  good_path = (refusal_by_table (path_rows path) (path_numbered path)).answered.1 none.1.1.1

  pub short_path : length path ≤ 2_048
  short_path = (path_known path good_path).1

  pub path_fits : length (normal_path path) ≤ 6_142
  path_fits = path_room path good_path
