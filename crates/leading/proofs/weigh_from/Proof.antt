-- `leading::weigh_from` meets its contract. Assumes nothing.
use Prim.Native.Nat.{ℕ, ◌-◌, ◌≤◌, ◌<◌}
use mathlib.Core.Path.{◌≡◌, sym, ap, ◌∙◌}
use mathlib.Core.Bool.{true, false}
use mathlib.Core.List.{List}
use native.Mathlib.Omega.{arith}
use lib.ListN.{length, take, drop, length-drop}
use lib.Seq.{length-take-le}
use borrow.Author.Rules.{rules}
use borrow.Author.Tests.{not-true, not-false}
use Rattle.lists.proofs.Scans.{rest_of}
use Rattle.protocol.specs.declared.Dialect.{Dialect}
use Rattle.protocol.specs.declared.Walked.{Walked}
use Rattle.protocol.specs.Walk.{first}
use Rattle.normal.proofs.Literal.{front_known}
use Rattle.walk.specs.Weights.{weighed}
use Rattle.leading.specs.Leading.{whole_weight}
use Rattle.leading.proofs.Fronts.{weighed_failed, front_inside, weighed_whole, weighed_rest, weighed_size}
use Rattle.leading.proofs.weigh_from.Statement.{statement}
use Rattle.leading.proofs.weigh_from.Tie as tie

module _ (s : tie.Start) where
  abbrev dialect : Dialect
  dialect = s.args.dialect

  abbrev front : ℕ
  front = s.args.front

  abbrev pattern : List ℕ
  pattern = s.args.pattern.now

  abbrev path : List ℕ
  path = s.args.path.now

  within : front ≤ length pattern
  within = (front_known pattern front s.requires.0).0

-- the literal octets, as a run by themselves
module _ (c : tie.After-first_run-w) where
  abbrev start : tie.Start
  start = c.before.before.before.before

  stood : c.first_run-w.result.stood ≡ (first false (take (front start) (pattern start)) (path start)).stood
  stood = ap (λ (w : Walked). w.stood) c.first_run-w.ensures

slice_bounds-first_run-end : tie.Need-slice_bounds-first_run-end
slice_bounds-first_run-end c =
    let s = c.before.before.before in sym (length-take-le _ (pattern s) (omega (arith, within s)))

first_run-w-requires : tie.Need-first_run-w-requires
first_run-w-requires c κs = search rules

returns-then-not-w : tie.Need-returns-then-not-w
returns-then-not-w c =
    let w = c.before.before in
    let s = start w in
    (sym (weighed_failed (dialect s) (pattern s) (path s) (front s) s.requires.0 (sym (stood w) ∙ not-true _ c.if-not-w.true)), search rules)

-- they stand
module _ (c : tie.Else-not-w) where
  abbrev run : tie.After-first_run-w
  run = c.before.before

  begun : (first false (take (front (start run)) (pattern (start run))) (path (start run))).stood ≡ true
  begun = sym (stood run) ∙ not-false _ c.if-not-w.false

  abbrev begin : tie.Start
  begin = start run

  inside : front begin ≤ length (path begin)
  inside = front_inside (dialect begin) (pattern begin) (path begin) (front begin) begin.requires.0 begun

returns-then-front-pattern : tie.Need-returns-then-front-pattern
returns-then-front-pattern c =
    let e = c.before in
    let s = begin e in
    (sym (weighed_whole (dialect s) (pattern s) (path s) (front s) s.requires.0 (begun e) c.if-front-pattern.true), search rules)

slice_bounds-weigh_rest-count : tie.Need-slice_bounds-weigh_rest-count
slice_bounds-weigh_rest-count c = within (begin c.before)

slice_bounds-weigh_rest-start : tie.Need-slice_bounds-weigh_rest-start
slice_bounds-weigh_rest-start c = within (begin c.before)

slice_bounds-weigh_rest-end : tie.Need-slice_bounds-weigh_rest-end
slice_bounds-weigh_rest-end c = search rules

slice_bounds-weigh_rest-count-2 : tie.Need-slice_bounds-weigh_rest-count-2
slice_bounds-weigh_rest-count-2 c = inside c.before.before

slice_bounds-weigh_rest-start-2 : tie.Need-slice_bounds-weigh_rest-start-2
slice_bounds-weigh_rest-start-2 c = inside c.before.before

slice_bounds-weigh_rest-end-2 : tie.Need-slice_bounds-weigh_rest-end-2
slice_bounds-weigh_rest-end-2 c = search rules

weigh_rest-rest-requires : tie.Need-weigh_rest-rest-requires
weigh_rest-rest-requires c κs = search rules

-- the rest is weighed
module _ (c : tie.After-weigh_rest-rest) where
  abbrev other : tie.Else-front-pattern
  other = c.before.before.before.before

  abbrev from : tie.Start
  from = begin other.before

  weight : c.weigh_rest-rest.result ≡ (weighed (dialect from) (drop (front from) (pattern from)) (drop (front from) (path from))).weight
  weight =
      let lent : List ℕ = take (length (path from) - front from) (drop (front from) (path from)) in
      c.weigh_rest-rest.ensures.0
      ∙ ap (λ (l : List ℕ). (weighed (dialect from) l lent).weight) (rest_of (front from) (pattern from))
      ∙ ap (λ (l : List ℕ). (weighed (dialect from) (drop (front from) (pattern from)) l).weight) (rest_of (front from) (path from))

  more : front from < length (pattern from)
  more = omega (arith, within from, other.if-front-pattern.false)

whole_weight-requires : tie.Need-whole_weight-requires
whole_weight-requires c κs =
    let w = c.before.before in
    let s = from w in
    omega (
      arith,
      s.requires.1,
      within s,
      weight w,
      weighed_size (dialect s) (drop (front s) (pattern s)) (drop (front s) (path s)),
      length-drop (front s) (pattern s),
    )

shape_of-scratch : tie.Need-shape_of-scratch
shape_of-scratch c = search rules

returns : tie.Need-returns
returns c =
    let w = c.before.before.before in
    let s = from w in (
      c.whole_weight.ensures
          ∙ ap (whole_weight (front s)) (weight w)
          ∙ sym (weighed_rest (dialect s) (pattern s) (path s) (front s) s.requires.0 (begun (other w).before) (more w)),
      w.weigh_rest-rest.ensures.1,
    )

pub weigh_from_spec : {M : Type 1} → statement M
weigh_from_spec = tie.close (tie.spec slice_bounds-first_run-end first_run-w-requires returns-then-not-w returns-then-front-pattern slice_bounds-weigh_rest-count slice_bounds-weigh_rest-start slice_bounds-weigh_rest-end slice_bounds-weigh_rest-count-2 slice_bounds-weigh_rest-start-2 slice_bounds-weigh_rest-end-2 weigh_rest-rest-requires whole_weight-requires shape_of-scratch returns)
