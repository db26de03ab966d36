-- A raw pattern's walk is that of its text, which stands before its end mark. Assumes nothing.
use Prim.Native.Nat.{ℕ}
use mathlib.Core.Path.{◌≡◌}
use mathlib.Core.List.{List}
use lib.Dec.{ltb}
use lib.ListN.{length, take}
use Rattle.protocol.specs.Text.{ends}
use Rattle.protocol.specs.Pattern.{raw_text, shape_of}
use Rattle.protocol.specs.Walk.{walk}
use Rattle.normal.proofs.Cuts.{first_run_normal, later_runs_normal}
use Rattle.normal.proofs.EndMarks.{text_front, end_mark_test}
use Rattle.walk.specs.Texts.{walk_text, scratch_text, walk_scratch}

-- to cut it and to normalise it: the order doesn't matter
walk_text_lem : (raw path : List ℕ) → walk_text (ends "$" raw) (raw_text raw) path ≡ walk (shape_of raw) path
unfolding walk walk_text shape_of
walk_text_lem raw path = rw (first_run_normal (raw_text raw), later_runs_normal (raw_text raw))

module _ (raw path : List ℕ) (n : ℕ) (h : n ≡ length (raw_text raw)) where
  pub pattern_walk : walk_text (ltb n (length raw)) (take n raw) path ≡ walk (shape_of raw) path
  pattern_walk = rw (h, text_front raw, ← end_mark_test raw) (walk_text_lem raw path)

  pub pattern_scratch : (scratch : List ℕ) → scratch_text (ltb n (length raw)) (take n raw) path scratch ≡ walk_scratch raw path scratch
  unfolding walk_scratch
  pattern_scratch scratch = rw (h, text_front raw, ← end_mark_test raw)
