-- `leading::weigh_rest` meets its contract. Assumes nothing.
use Prim.Native.Nat.{ℕ}
use mathlib.Core.Path.{◌≡◌, sym, ap, ◌∙◌}
use mathlib.Core.List.{List}
use native.Mathlib.Omega.{arith}
use borrow.Author.Rules.{rules}
use Rattle.protocol.specs.declared.Dialect.{Dialect}
use Rattle.protocol.specs.Pattern.{shape_in}
use Rattle.walk.specs.declared.Weighed.{Weighed}
use Rattle.walk.specs.Weights.{weighed}
use Rattle.considering.specs.Considering.{none_considered, Room}
use Rattle.considering.proofs.Rooms.{weight_fits, count_fits}
use Rattle.leading.proofs.weigh_rest.Statement.{statement}
use Rattle.leading.proofs.weigh_rest.Tie as tie

-- where the dialect is asked for
module _ (c : tie.After-slice_known-1) where
  abbrev start : tie.Start
  start = c.before.before.before

  abbrev dialect : Dialect
  dialect = start.args.dialect

  abbrev rest : List ℕ
  rest = start.args.rest.now

  abbrev path : List ℕ
  path = start.args.path.now

  abbrev scratch : List ℕ
  scratch = start.args.scratch.now

  room : Room rest path scratch none_considered
  room = record { short = start.requires.1; lent = start.requires.2; size = start.requires.0; compared = omega (arith, start.requires.0) }

  told : (d : Dialect) → dialect ≡ d → (w : Weighed) → w ≡ weighed d rest path → w.weight ≡ (weighed dialect rest path).weight
  told d e w h = ap (λ (x : Weighed). x.weight) h ∙ ap (λ (x : Dialect). (weighed x rest path).weight) (sym e)

enum_told-1 : tie.Need-enum_told-1
enum_told-1 c = search rules

weigh_starred-w-requires : tie.Need-weigh_starred-w-requires
unfolding shape_in
weigh_starred-w-requires c κs =
    let s = c.before.before in
    ((start s).requires.2, weight_fits Dialect.Rfc9309 (rest s) (path s) (scratch s) none_considered (room s), count_fits Dialect.Rfc9309 (rest s) (path s) (scratch s) none_considered (room s))

enum_told-in-Draft1996 : tie.Need-enum_told-in-Draft1996
enum_told-in-Draft1996 c = search rules

weigh_plain-w-requires : tie.Need-weigh_plain-w-requires
weigh_plain-w-requires c κs = search rules

shape_of-scratch-in-Rfc9309 : tie.Need-shape_of-scratch-in-Rfc9309
shape_of-scratch-in-Rfc9309 c = search rules

returns-in-Rfc9309 : tie.Need-returns-in-Rfc9309
returns-in-Rfc9309 c =
    let w = c.before.before in
    let t = w.before.before in
    (told t.before Dialect.Rfc9309 t.in-Rfc9309.is _ w.weigh_starred-w.ensures.0, w.weigh_starred-w.auto.scratch)

shape_of-scratch-in-Draft1996 : tie.Need-shape_of-scratch-in-Draft1996
shape_of-scratch-in-Draft1996 c = search rules

returns-in-Draft1996 : tie.Need-returns-in-Draft1996
returns-in-Draft1996 c =
    let w = c.before.before in
    let t = w.before.before in
    (told t.before Dialect.Draft1996 t.in-Draft1996.is _ w.weigh_plain-w.ensures.0, w.weigh_plain-w.auto.scratch)

pub weigh_rest_spec : {M : Type 1} → statement M
weigh_rest_spec = tie.close (tie.spec enum_told-1 weigh_starred-w-requires enum_told-in-Draft1996 weigh_plain-w-requires shape_of-scratch-in-Rfc9309 returns-in-Rfc9309 shape_of-scratch-in-Draft1996 returns-in-Draft1996)
