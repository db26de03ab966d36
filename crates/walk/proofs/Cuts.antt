-- A raw text cut at its stars, as a loop goes over it: where a run ends, and what the walk does from there on. Assumes nothing.
use Rattle.std.specs.Prelude.{if◌then◌else◌}
use Prim.Native.Nat.{ℕ, ◌+◌, ◌-◌, ◌≤◌, ◌<◌}
use mathlib.Core.Path.{◌≡◌, refl, sym, ap, ◌∙◌}
use mathlib.Core.Bool.{Bool, true, false, ◌&&◌, and-true, and-false}
use mathlib.Core.List.{List, [], ◌∷◌, map}
use native.Mathlib.Omega.{arith}
use native.Mathlib.Nat.{sub-zero}
use lib.ListN.{length, take, drop, get_or, length-drop, drop_of_length-le}
use lib.Seq.{drop-drop, get_or-drop}
use lib.Dec.{eqb}
use borrow.Author.Tests.{eqb-true, eqb-false}
use Rattle.lists.specs.Lists.{up_to}
use Rattle.lists.proofs.Bools.{split}
use Rattle.lists.proofs.Scans.{drop_one, up_to_fits, take_up_to, up_to_stops}
use Rattle.protocol.specs.declared.Walked.{Walked}
use Rattle.protocol.specs.Pattern.{is_star, first_run, later_runs}
use Rattle.protocol.specs.Walk.{first, next, is_last, later, walk_runs}
use Rattle.protocol.proofs.Steps.{next_kept, later_kept}
use Rattle.normal.specs.Runs.{normal_run, run_scratch}
use Rattle.walk.specs.Texts.{runs_of, walk_text, scratch_later, scratch_text}

-- the later runs begin behind the first
runs_more : (t : List ℕ) → later_runs t ≡ later_runs (drop (length (first_run t)) t)
unfolding first_run later_runs up_to
runs_more [] = refl
runs_more (c ∷ t) = split (is_star c) (λ e. rw e (rw e)) (λ e. rw e (runs_more t))

-- the run of a text that begins at k ends at e
pub record RunEnd (text : List ℕ) (k e : ℕ) : Type 0 where
  pub from : k ≤ e
  pub within : e ≤ length text
  pub run : take (e - k) (drop k text) ≡ first_run (drop k text)
  pub stop : e < length text → is_star (get_or text e 0) ≡ true
  pub more : later_runs (drop k text) ≡ later_runs (drop e text)

pub run_end : (text : List ℕ) (k e : ℕ) → k ≤ length text → e ≡ k + length (first_run (drop k text)) → RunEnd text k e
unfolding first_run
run_end text k e l q =
    let t = drop k text in
    let n = length (first_run t) in
    let size : length t ≡ length text - k = length-drop k text in
    let m = up_to_fits is_star t in
    let d : e - k ≡ n = omega arith in
    record {
      from = omega arith;
      within = omega (arith, size);
      run = rw d (take_up_to is_star t);
      stop = λ h. ap (λ (i : ℕ). is_star (get_or text i 0)) q ∙ ap is_star (sym (get_or-drop k text n 0)) ∙ up_to_stops is_star t 0 (omega (arith, size));
      more = runs_more t ∙ ap later_runs (drop-drop n k text ∙ ap (λ (i : ℕ). drop i text) (sym q));
    }

-- no run is left at the text's end, and behind a star there is one
runs_none : (text : List ℕ) (e : ℕ) → length text ≤ e → later_runs (drop e text) ≡ []
unfolding later_runs
runs_none text e l = rw (drop_of_length-le text l)

runs_some : (text : List ℕ) (e : ℕ) → e < length text → is_star (get_or text e 0) ≡ true
    → later_runs (drop e text) ≡ first_run (drop (e + 1) text) ∷ later_runs (drop (e + 1) text)
unfolding later_runs
runs_some text e l h = rw (drop_one text e 0 l, h)

runs_last : (end_mark : Bool) (text : List ℕ) (k e : ℕ) → RunEnd text k e → is_last end_mark (later_runs (drop e text)) ≡ (end_mark && eqb e (length text))
runs_last end_mark text k e x =
    split (eqb e (length text))
    (λ q. let h : e ≡ length text = eqb-true _ _ q in rw (q, runs_none text e (omega arith)) (sym (and-true end_mark)))
    (λ q.
    let h : e < length text = omega (arith, eqb-false e (length text) q, x.within) in
    rw (q, runs_some text e h (x.stop h)) (sym (and-false end_mark)))

last_normal : (end_mark : Bool) (rs : List (List ℕ)) → is_last end_mark (map (normal_run true) rs) ≡ is_last end_mark rs
last_normal end_mark [] = refl
last_normal end_mark (r ∷ rs) = refl

-- a run that is reached is normalised, and one that isn't leaves the scratch
module _ (end_mark : Bool) (r : List ℕ) (rs : List (List ℕ)) (path : List ℕ) (w : Walked) (scratch : List ℕ) where
  abbrev after : List ℕ → List ℕ
  after s = scratch_later end_mark rs path (next (is_last end_mark rs) (normal_run true r) path w) s

  scratch_reached : w.stood ≡ true → scratch_later end_mark (r ∷ rs) path w scratch ≡ after (run_scratch true r scratch)
  unfolding scratch_later
  scratch_reached e = ap (λ (b : Bool). after (if b then run_scratch true r scratch else scratch)) e

  later_reached : later end_mark (map (normal_run true) (r ∷ rs)) path w ≡ later end_mark (map (normal_run true) rs) path (next (is_last end_mark rs) (normal_run true r) path w)
  unfolding later
  later_reached = ap (λ (b : Bool). later end_mark (map (normal_run true) rs) path (next b (normal_run true r) path w)) (last_normal end_mark rs)

  scratch_passed : w.stood ≡ false → scratch_later end_mark (r ∷ rs) path w scratch ≡ after scratch
  unfolding scratch_later
  scratch_passed e = ap (λ (b : Bool). after (if b then run_scratch true r scratch else scratch)) e

scratch_kept : (end_mark : Bool) (rs : List (List ℕ)) (path : List ℕ) (w : Walked) (scratch : List ℕ) → w.stood ≡ false
    → scratch_later end_mark rs path w scratch ≡ scratch
unfolding scratch_later
scratch_kept end_mark [] path w scratch e = refl
scratch_kept end_mark (r ∷ rs) path w scratch e =
    scratch_passed end_mark r rs path w scratch e
    ∙ ap (λ (v : Walked). scratch_later end_mark rs path v scratch) (next_kept (normal_run true r) path w (is_last end_mark rs) e)
    ∙ scratch_kept end_mark rs path w scratch e

-- what the walk comes to from the rest t of a text on, where it stands at w, and what it leaves in the scratch
abbrev pub outcome_from : Bool → List ℕ → List ℕ → Walked → List ℕ → Walked × List ℕ
outcome_from end_mark t path w scratch = (later end_mark (runs_of t) path w, scratch_later end_mark (later_runs t) path w scratch)

-- two such outcomes are equal part by part
pub both : {p q : Walked × List ℕ} → p ≡ q → (p.0 ≡ q.0) × (p.1 ≡ q.1)
both e = (ap (λ (p : Walked × List ℕ). p.0) e, ap (λ (p : Walked × List ℕ). p.1) e)

-- the whole walk, a turn of it, and its ends
module _ (end_mark : Bool) (text path : List ℕ) where
  abbrev pub outcome : List ℕ → Walked × List ℕ
  outcome scratch = (walk_text end_mark text path, scratch_text end_mark text path scratch)

  -- after the first run, which ends at e
  pub walk_start : (e : ℕ) (last : Bool) (w : Walked) (scratch m : List ℕ) → RunEnd text 0 e → last ≡ (end_mark && eqb e (length text))
      → w ≡ first last (normal_run true (take e text)) path → m ≡ run_scratch true (take e text) scratch
      → outcome_from end_mark (drop e text) path w m ≡ outcome scratch
  unfolding walk_text scratch_text walk_runs
  walk_start e last w scratch m x last-is w-is m-is =
      let run : take e text ≡ first_run text = rw sub-zero at x.run in
      rw (w-is, m-is, last-is, run, ← runs_last end_mark text 0 e x, ← x.more, last_normal end_mark (later_runs text))

  -- after a later run, from the star at e up to f
  pub walk_turn : (e f : ℕ) (last : Bool) (w v : Walked) (scratch m : List ℕ) → e < length text → is_star (get_or text e 0) ≡ true → w.stood ≡ true
      → RunEnd text (e + 1) f → last ≡ (end_mark && eqb f (length text))
      → v ≡ next last (normal_run true (take (f - (e + 1)) (drop (e + 1) text))) path w → m ≡ run_scratch true (take (f - (e + 1)) (drop (e + 1) text)) scratch
      → outcome_from end_mark (drop f text) path v m ≡ outcome_from end_mark (drop e text) path w scratch
  walk_turn e f last w v scratch m l h s x last-is v-is m-is =
      let r = first_run (drop (e + 1) text) in
      let rs = later_runs (drop (e + 1) text) in
      rw (v-is, m-is, last-is, x.run, ← runs_last end_mark text (e + 1) f x, ← x.more, runs_some text e l h, later_reached end_mark r rs path w scratch, scratch_reached end_mark r rs path w scratch s)

  pub walk_over : (e : ℕ) (w : Walked) (scratch : List ℕ) → length text ≤ e → outcome_from end_mark (drop e text) path w scratch ≡ (w, scratch)
  unfolding later scratch_later
  walk_over e w scratch l = rw (runs_none text e l)

pub walk_kept : (end_mark : Bool) (t path : List ℕ) (w : Walked) (scratch : List ℕ) → w.stood ≡ false → outcome_from end_mark t path w scratch ≡ (w, scratch)
walk_kept end_mark t path w scratch e =
    rw (later_kept end_mark (runs_of t) path w e, scratch_kept end_mark (later_runs t) path w scratch e)
