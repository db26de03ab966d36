-- `walk::walk_text` meets its contract: the walk of what is left of the text gives the whole walk's outcome. Assumes nothing.
use Prim.Native.Nat.{ℕ, ◌≤◌, ◌<◌, ◌-◌, ◌+◌, ◌^◌}
use mathlib.Core.Path.{◌≡◌, refl, sym, ap, ◌∙◌}
use mathlib.Core.Bool.{Bool, true, ◌&&◌}
use mathlib.Core.List.{List}
use native.Mathlib.Omega.{arith}
use native.Mathlib.Nat.{zero-add}
use lib.Dec.{eqb}
use lib.ListN.{length, take, drop, get_or}
use lib.Seq.{length-take-le}
use borrow.Author.Tests.{not-true, not-false}
use Rattle.lists.proofs.Scans.{rest_of}
use Rattle.protocol.specs.declared.Walked.{Walked}
use Rattle.protocol.specs.Pattern.{is_star, first_run}
use Rattle.protocol.specs.Walk.{next}
use Rattle.protocol.proofs.Steps.{first_within, next_within}
use Rattle.protocol.proofs.Counted.{later_costs}
use Rattle.normal.specs.Runs.{normal_run, run_scratch}
use Rattle.walk.specs.Texts.{runs_of}
use Rattle.walk.proofs.Cuts.{RunEnd, run_end, outcome_from, both, outcome, walk_start, walk_turn, walk_over, walk_kept}
use Rattle.walk.proofs.walk_text.Statement.{statement}
use Rattle.walk.proofs.walk_text.Tie as tie

abbrev invariant-loop-end : tie.invariant-loop-end
invariant-loop-end text end_mark path scratch₀ end₀ w₀ scratch end w =
    (end ≤ length text)
    × (w.past ≤ length path)
    × (length scratch ≡ length scratch₀)
    × (end < length text → is_star (get_or text end 0) ≡ true)
    × (outcome_from end_mark (drop end text) path w scratch ≡ outcome_from end_mark (drop end₀ text) path w₀ scratch₀)

abbrev decreases-loop-end : tie.decreases-loop-end
decreases-loop-end text end_mark path scratch₀ end₀ w₀ scratch end w = length text - end

find-end-requires : tie.Need-find-end-requires invariant-loop-end decreases-loop-end
find-end-requires c κs = tt

module _ (c : tie.After-find-end invariant-loop-end decreases-loop-end) where
  abbrev entry : tie.Start invariant-loop-end decreases-loop-end
  entry = c.before.before.before.before

  -- the first run's end
  opened : RunEnd entry.args.text.now 0 c.find-end.result
  unfolding first_run
  opened = run_end entry.args.text.now 0 c.find-end.result (omega arith) (c.find-end.ensures ∙ sym (zero-add _))

slice_bounds-first_raw-end : tie.Need-slice_bounds-first_raw-end invariant-loop-end decreases-loop-end
slice_bounds-first_raw-end c = sym (length-take-le _ _ (opened c).within)

is_last-requires : tie.Need-is_last-requires invariant-loop-end decreases-loop-end
is_last-requires c κs = tt

first_raw-w-requires : tie.Need-first_raw-w-requires invariant-loop-end decreases-loop-end
first_raw-w-requires c κs = (entry c.before.before).requires.0

loop-end-init : tie.Need-loop-end-init invariant-loop-end decreases-loop-end
loop-end-init c =
    let r = c.before.before in
    let o = opened r.before.before.before in
    (o.within, rw r.first_raw-w.ensures.0 (first_within _ _ _), refl, o.stop, refl)

module _ (c : tie.At-loop-end invariant-loop-end decreases-loop-end) where
  abbrev walked : tie.After-first_raw-w invariant-loop-end decreases-loop-end
  walked = c.before.before.before

  abbrev start : tie.Start invariant-loop-end decreases-loop-end
  start = entry walked.before.before.before

  abbrev text : List ℕ
  text = start.args.text.now

  abbrev path : List ℕ
  path = start.args.path.now

  abbrev end_mark : Bool
  end_mark = start.args.anchored

  -- the scratch keeps its length
  same : length c.loop-end.scratch ≡ length start.args.scratch.now
  same = c.loop-end.invariant.2 ∙ walked.first_raw-w.auto.scratch

  -- what is left gives the whole
  gives : outcome_from end_mark (drop c.loop-end.end text) path c.loop-end.w c.loop-end.scratch ≡ outcome end_mark text path start.args.scratch.now
  gives =
      let i = walked.before.before in
      let r = walked.first_raw-w in
      c.loop-end.invariant.4 ∙ walk_start end_mark text path _ i.is_last.result r.result _ _ (opened i.before) i.is_last.ensures r.ensures.0 r.ensures.1

shape_of-scratch-then-not-w : tie.Need-shape_of-scratch-then-not-w invariant-loop-end decreases-loop-end
shape_of-scratch-then-not-w c = same c.before.before.before

returns-then-not-w : tie.Need-returns-then-not-w invariant-loop-end decreases-loop-end
returns-then-not-w c =
    let s = c.before.before.before in
    both (sym (walk_kept (end_mark s) (drop s.loop-end.end (text s)) (path s) s.loop-end.w s.loop-end.scratch (not-true _ c.if-not-w.true)) ∙ gives s)

overflow_add-start : tie.Need-overflow_add-start invariant-loop-end decreases-loop-end
overflow_add-start c = omega arith

slice_bounds-find-count : tie.Need-slice_bounds-find-count invariant-loop-end decreases-loop-end
slice_bounds-find-count c = omega arith

slice_bounds-find-start : tie.Need-slice_bounds-find-start invariant-loop-end decreases-loop-end
slice_bounds-find-start c = omega arith

slice_bounds-find-end : tie.Need-slice_bounds-find-end invariant-loop-end decreases-loop-end
slice_bounds-find-end c = omega arith

find-requires : tie.Need-find-requires invariant-loop-end decreases-loop-end
find-requires c κs = tt

module _ (c : tie.After-find invariant-loop-end decreases-loop-end) where
  abbrev turn : tie.At-loop-end invariant-loop-end decreases-loop-end
  turn = c.before.before.before.before.before

  abbrev from : ℕ
  from = turn.loop-end.end + 1

  abbrev end : ℕ
  end = from + c.find.result

  abbrev run : List ℕ
  run = take (end - from) (drop from (text turn))

  -- a later run's end
  turned : RunEnd (text turn) from end
  unfolding first_run
  turned = run_end (text turn) from end (omega arith) (ap (λ (n : ℕ). from + n) (rw (rest_of from (text turn)) at c.find.ensures))

  stood : turn.loop-end.w.stood ≡ true
  stood = not-false _ c.before.before.if-not-w.false

  -- one run more, whatever says what became of it
  goes_on : (last : Bool) (v : Walked) (m : List ℕ)
      → last ≡ (end_mark turn && eqb end (length (text turn)))
      → v ≡ next last (normal_run true run) (path turn) turn.loop-end.w
      → m ≡ run_scratch true run turn.loop-end.scratch
      → outcome_from (end_mark turn) (drop end (text turn)) (path turn) v m
      ≡ outcome_from (end_mark turn) (drop turn.loop-end.end (text turn)) (path turn) turn.loop-end.w turn.loop-end.scratch
  goes_on last v m =
      let l : turn.loop-end.end < length (text turn) = omega arith in
      walk_turn (end_mark turn) (text turn) (path turn) turn.loop-end.end end last turn.loop-end.w v turn.loop-end.scratch m l (turn.loop-end.invariant.3 l) stood turned

overflow_add-end : tie.Need-overflow_add-end invariant-loop-end decreases-loop-end
overflow_add-end c = omega (arith, (turned c).within)

slice_bounds-later_raw-count : tie.Need-slice_bounds-later_raw-count invariant-loop-end decreases-loop-end
slice_bounds-later_raw-count c = (turned c).from

slice_bounds-later_raw-start : tie.Need-slice_bounds-later_raw-start invariant-loop-end decreases-loop-end
slice_bounds-later_raw-start c = (turned c).from

slice_bounds-later_raw-end : tie.Need-slice_bounds-later_raw-end invariant-loop-end decreases-loop-end
slice_bounds-later_raw-end c = (turned c).within

is_last-requires-in-loop-end : tie.Need-is_last-requires-in-loop-end invariant-loop-end decreases-loop-end
is_last-requires-in-loop-end c κs = tt

later_raw-w-requires : tie.Need-later_raw-w-requires invariant-loop-end decreases-loop-end
later_raw-w-requires c κs =
    let i = c.before.is_last-in-loop-end in
    let f = c.before.before.before in
    let s = turn f in
    let v = next i.result (normal_run true (run f)) (path s) s.loop-end.w in
    let e = goes_on f i.result v (run_scratch true (run f) s.loop-end.scratch) i.ensures refl refl ∙ gives s in
    let lent : length (path s) ≤ length s.loop-end.scratch = omega (arith, same s, (start s).requires.0) in
    let fits : v.count < 2 ^ 64 = omega (arith, (start s).requires.1, (later_costs (end_mark s) (runs_of (drop (end f) (text s))) (path s) v).0, ap (λ (w : Walked). w.count) (both e).0) in
    (lent, (stood f, (s.loop-end.invariant.1, fits)))

abbrev found : tie.After-slice_known-in-loop-end-1 invariant-loop-end decreases-loop-end → tie.After-find invariant-loop-end decreases-loop-end
found c = c.before.before.before.before.before.before

loop-end-smaller : tie.Need-loop-end-smaller invariant-loop-end decreases-loop-end
loop-end-smaller c = omega (arith, (turned (found c)).from, (turned (found c)).within)

loop-end-preserved : tie.Need-loop-end-preserved invariant-loop-end decreases-loop-end
loop-end-preserved c =
    let f = found c in
    let r = c.before.before.later_raw-w in
    let i = c.before.before.before.before.is_last-in-loop-end in (
      (turned f).within,
      rw r.ensures.0 (next_within _ _ _ _ (turn f).loop-end.invariant.1),
      r.auto.scratch ∙ (turn f).loop-end.invariant.2,
      (turned f).stop,
      goes_on f i.result r.result r.new.scratch i.ensures r.ensures.0 r.ensures.1 ∙ (turn f).loop-end.invariant.4,
    )

shape_of-scratch : tie.Need-shape_of-scratch invariant-loop-end decreases-loop-end
shape_of-scratch c = same c.before

returns : tie.Need-returns invariant-loop-end decreases-loop-end
returns c =
    let s = c.before in
    both (sym (walk_over (end_mark s) (text s) (path s) s.loop-end.end s.loop-end.w s.loop-end.scratch c.loop-end-test.false) ∙ gives s)

pub walk_text_spec : {M : Type 1} → statement M
walk_text_spec = tie.close (tie.spec invariant-loop-end decreases-loop-end find-end-requires slice_bounds-first_raw-end is_last-requires first_raw-w-requires loop-end-init shape_of-scratch-then-not-w returns-then-not-w overflow_add-start slice_bounds-find-count slice_bounds-find-start slice_bounds-find-end find-requires overflow_add-end slice_bounds-later_raw-count slice_bounds-later_raw-start slice_bounds-later_raw-end is_last-requires-in-loop-end later_raw-w-requires loop-end-smaller loop-end-preserved shape_of-scratch returns)
