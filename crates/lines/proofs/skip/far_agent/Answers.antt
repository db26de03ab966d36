-- A quiet block is passed, and in any other an agent line is found.
use Rattle.std.proofs.Common.{arith, sym, ap, ◌∙◌, Some, None, length-append, ◌∷◌, []}
use Rattle.std.specs.List.{zip}
use Rattle.lists.proofs.Scans.{rest_of}
use Rattle.protocol.specs.Lines.{place_at}
use Rattle.lines.proofs.Pairs.{text_turn, pairs_rest}
use Rattle.lines.proofs.Skips.{front_searched, quiet_behind, front_fits}
use Rattle.lines.proofs.skip.far_agent.Goals as goal
use Rattle.lines.proofs.skip.far_agent.Goals.{then-not-is_quiet+in_default, else-not-is_quiet}

pub loop-b-preserved : goal.loop-b-preserved
loop-b-preserved c =
    let s = c.args.s.now in
    let i = c.loop-b.at in
    let turn = text_turn s c.args.from.offset i c.into_iter-b-iterator.result c.loop-b.b-iterator c.next.new.self c.loop-b.yielded c.next.result
    (c.in-Some.b, c.in-Some.behind) (cc) (cc) c.loop-b.yielded_by c.in-Some.is c.next.ensures.steps c.loop-b.invariant.place c.requires in
    let part = zip c.in-Some.b.now c.in-Some.behind.now in
    let more = length-append c.loop-b.yielded ((c.in-Some.b, c.in-Some.behind) ∷ []) in
    elim c.if-not-is_quiet.branch [
      | then-not-is_quiet+in_default w ↦
          let on = front_searched s i 64 (omega (arith, turn.0)) part turn.1 None w.in_default.ensures in
          record { place = omega arith; inside = omega arith; whole = omega arith }
      | else-not-is_quiet w ↦
          let on = quiet_behind s i 64 (omega (arith, turn.0)) part turn.1 (sym c.is_quiet.ensures ∙ w.if-not-is_quiet.false) in
          record { place = omega arith; inside = omega arith; whole = omega arith }
    ]

pub returns-in-Some-front_agent : goal.returns-in-Some-front_agent
returns-in-Some-front_agent c =
    let s = c.args.s.now in
    let i = c.loop-b.at in
    let turn = text_turn s c.args.from.offset i c.into_iter-b-iterator.result c.loop-b.b-iterator c.next.new.self c.loop-b.yielded c.next.result
    (c.in-Some.b, c.in-Some.behind) (cc) (cc) c.loop-b.yielded_by c.in-Some.is c.next.ensures.steps c.loop-b.invariant.place c.requires in
    let part = zip c.in-Some.b.now c.in-Some.behind.now in
    let found = front_searched s i 64 (omega (arith, turn.0)) part turn.1 (Some c.in-Some-front_agent.i) c.in-Some-front_agent.ensures in
    ap place_at (omega arith)

pub overflow_add-result : goal.overflow_add-result
overflow_add-result c =
    let s = c.args.s.now in
    let i = c.loop-b.at in
    let turn = text_turn s c.args.from.offset i c.into_iter-b-iterator.result c.loop-b.b-iterator c.next.new.self c.loop-b.yielded c.next.result
    (c.in-Some.b, c.in-Some.behind) (cc) (cc) c.loop-b.yielded_by c.in-Some.is c.next.ensures.steps c.loop-b.invariant.place c.requires in
    let part = zip c.in-Some.b.now c.in-Some.behind.now in
    let found = front_searched s i 64 (omega (arith, turn.0)) part turn.1 (Some c.in-Some-front_agent.i) c.in-Some-front_agent.ensures in
    omega (arith, found, turn.0)

pub overflow_add-result-in-Some-front_agent : goal.overflow_add-result-in-Some-front_agent
overflow_add-result-in-Some-front_agent c =
    let s = c.args.s.now in
    let i = c.loop-b.at in
    let turn = text_turn s c.args.from.offset i c.into_iter-b-iterator.result c.loop-b.b-iterator c.next.new.self c.loop-b.yielded c.next.result
    (c.in-Some.b, c.in-Some.behind) (cc) (cc) c.loop-b.yielded_by c.in-Some.is c.next.ensures.steps c.loop-b.invariant.place c.requires in
    let part = zip c.in-Some.b.now c.in-Some.behind.now in
    let found = front_searched s i 64 (omega (arith, turn.0)) part turn.1 (Some c.in-Some-front_agent.i) c.in-Some-front_agent.ensures in
    omega (arith, found, turn.0)

-- what is left of the text
pub overflow_add-result-2 : goal.overflow_add-result-2
overflow_add-result-2 c =
    let found = rw (rest_of c.loop-b.at c.args.s.now, pairs_rest c.args.s.now c.loop-b.at) at c.tail_agent.ensures in
    omega (arith, front_fits c.args.s.now c.loop-b.at)

pub returns : goal.returns
returns c =
    let found = rw (rest_of c.loop-b.at c.args.s.now, pairs_rest c.args.s.now c.loop-b.at) at c.tail_agent.ensures in
    ap place_at (omega arith)
