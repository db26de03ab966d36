-- The walk of a raw pattern: cut at its stars first, each run normalised by itself into the lent scratch. Assumes nothing.
use Rattle.std.specs.Prelude.{ℕ, Bool, true, false, ◌||◌, List, [], ◌∷◌, map, ltb, length, if◌then◌else◌}
use Rattle.lists.specs.Lists.{all, up_to}
use Rattle.protocol.specs.declared.Dialect.{Dialect}
use Rattle.protocol.specs.declared.Walked.{Walked}
use Rattle.protocol.specs.Text.{ends}
use Rattle.protocol.specs.Pattern.{raw_text, first_run, later_runs}
use Rattle.protocol.specs.Walk.{first, next, is_last, walk_runs}
use Rattle.normal.specs.Runs.{normal_run, run_scratch}
use Rattle.normal.specs.Literal.{literal, not_literal}

-- the later runs of a raw text, each normalised
abbrev pub runs_of : List ℕ → List (List ℕ)
runs_of text = map (normal_run true) (later_runs text)

-- the walk of a raw text, with or without an end mark behind it
unfoldable pub walk_text : Bool → List ℕ → List ℕ → Walked
walk_text end_mark text path = walk_runs end_mark (normal_run true (first_run text)) (runs_of text) path

-- the scratch after the later runs, raw, where the walk stands at w: a run that isn't reached isn't normalised
unfoldable pub scratch_later : Bool → List (List ℕ) → List ℕ → Walked → List ℕ → List ℕ
scratch_later end_mark [] path w scratch = scratch
scratch_later end_mark (r ∷ rs) path w scratch =
    scratch_later end_mark rs path (next (is_last end_mark rs) (normal_run true r) path w) (if w.stood then run_scratch true r scratch else scratch)

-- the scratch after all runs of a raw text
unfoldable pub scratch_text : Bool → List ℕ → List ℕ → List ℕ → List ℕ
scratch_text end_mark text path scratch =
    let r = first_run text in
    let rs = later_runs text in
    scratch_later end_mark rs path (first (is_last end_mark rs) (normal_run true r) path) (run_scratch true r scratch)

-- the scratch after the walk of a raw pattern
unfoldable pub walk_scratch : List ℕ → List ℕ → List ℕ → List ℕ
walk_scratch pattern path scratch = scratch_text (ends "$" pattern) (raw_text pattern) path scratch

-- the same where a pattern of literal octets is walked as it stands: it leaves the scratch untouched
unfoldable pub scratch_of : List ℕ → List ℕ → List ℕ → List ℕ
scratch_of pattern path scratch = if all literal pattern then scratch else walk_scratch pattern path scratch

-- the scratch after the walk of a raw pattern, by the dialect: in the draft's, the pattern is one run
unfoldable pub scratch_in : Dialect → List ℕ → List ℕ → List ℕ → List ℕ
scratch_in Dialect.Rfc9309 pattern path scratch = walk_scratch pattern path scratch
scratch_in Dialect.Draft1996 pattern path scratch = run_scratch false pattern scratch

-- the scratch after a raw pattern is weighed: untouched where the literal octets in front are more than the path's, or are all there are
unfoldable pub weigh_scratch : Dialect → List ℕ → List ℕ → List ℕ → List ℕ
weigh_scratch d pattern path scratch =
    if ltb (length path) (length (up_to not_literal pattern)) || all literal pattern then scratch else scratch_in d pattern path scratch
