-- A block is passed over, or isn't quiet.
use Rattle.std.proofs.Common.{arith, ℕ, drop, length-append, ◌∷◌, []}
use Rattle.protocol.specs.declared.Position.{Position}
use Rattle.protocol.specs.Lines.{line_number, place_at}
use Rattle.lines.specs.Skips.{pairs}
use Rattle.lines.proofs.Pairs.{text_turn}
use Rattle.lines.proofs.Skips.{over_none, over_more, over_few, endings_fit}
use Rattle.lines.proofs.skip.pass.Goals as goal

-- the position of the octet i in line n
abbrev position : ℕ → ℕ → Position
position n i = record { number = line_number n; place = place_at i }

pub loop-b-init : goal.loop-b-init
loop-b-init c = record { place = omega arith; over = over_none c.args.s.now c.args.at }

pub overflow_add-number : goal.overflow_add-number
overflow_add-number c =
    let s = c.args.s.now in
    let i = c.loop-b.offset in
    let here = position c.loop-b.number i in
    let turn = text_turn s c.args.at.place.offset i c.into_iter-b-iterator.result c.loop-b.b-iterator c.next.new.self c.loop-b.yielded c.next.result
    (c.in-Some.b, c.in-Some.behind) (cc) (cc) c.loop-b.yielded_by c.in-Some.is c.next.ensures.steps c.loop-b.invariant.place (omega arith) in
    let counted = rw turn.1 at c.in-Some-glance.ensures in
    omega (arith, counted.1, endings_fit 64 (drop i (pairs s)), over_few s c.args.at here c.loop-b.invariant.over, turn.0)

pub loop-b-preserved : goal.loop-b-preserved
loop-b-preserved c =
    let s = c.args.s.now in
    let i = c.loop-b.offset in
    let here = position c.loop-b.number i in
    let turn = text_turn s c.args.at.place.offset i c.into_iter-b-iterator.result c.loop-b.b-iterator c.next.new.self c.loop-b.yielded c.next.result
    (c.in-Some.b, c.in-Some.behind) (cc) (cc) c.loop-b.yielded_by c.in-Some.is c.next.ensures.steps c.loop-b.invariant.place (omega arith) in
    let counted = rw turn.1 at c.in-Some-glance.ensures in
    record {
      place = omega (arith, length-append c.loop-b.yielded ((c.in-Some.b, c.in-Some.behind) ∷ []));
      over = rw counted.1 (over_more s c.args.at here c.loop-b.invariant.over turn.0 counted.0);
    }

pub returns-in_default : goal.returns-in_default
returns-in_default c =
    let s = c.args.s.now in
    let i = c.loop-b.offset in
    let here = position c.loop-b.number i in
    let turn = text_turn s c.args.at.place.offset i c.into_iter-b-iterator.result c.loop-b.b-iterator c.next.new.self c.loop-b.yielded c.next.result
    (c.in-Some.b, c.in-Some.behind) (cc) (cc) c.loop-b.yielded_by c.in-Some.is c.next.ensures.steps c.loop-b.invariant.place (omega arith) in
    let off = rw turn.1 at c.in_default.ensures in
    record { over = c.loop-b.invariant.over; ended = λ h. off }
