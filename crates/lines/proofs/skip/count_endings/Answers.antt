-- The octets behind the last block are counted first, and then block by block.
use Rattle.std.proofs.Common.{arith, ap, ℕ, List, ◌≡◌, ◌+◌, ◌-◌, ◌*◌, ◌/◌, ◌≤◌, ◌<◌, length, take, drop, length-append, length-take, length-drop, ◌∷◌, ◌++◌, [], refl}
use Rattle.std.specs.List.{zip}
use Rattle.protocol.specs.declared.Place.{Place}
use Rattle.lines.specs.Skips.{between, endings, pairs}
use Rattle.lines.proofs.Pairs.{zip_drop, pairs_part, pairs_length, part_length, blocks_turn, blocks_end}
use Rattle.lines.proofs.Skips.{endings_fit, endings_left, endings_cut, endings_block}
use Rattle.lines.proofs.skip.count_endings.Goals as goal

-- the octets that are lent, and those behind them
module _ (s : List ℕ) (from to : Place) (h : from.offset ≤ to.offset) (g : to.offset < length s) where
  abbrev text : List ℕ
  text = take (to.offset - from.offset) (drop from.offset s)

  abbrev behind : List ℕ
  behind = take (to.offset + 1 - (from.offset + 1)) (drop (from.offset + 1) s)

  both : zip text behind ≡ between s from to
  both = pairs_part s from.offset (to.offset - from.offset) _ _ refl (omega arith)

  size : length text ≡ to.offset - from.offset
  size = part_length s from.offset (to.offset - from.offset) _ refl (omega arith)

  size_behind : length behind ≡ to.offset - from.offset
  size_behind = part_length s (from.offset + 1) (to.offset - from.offset) _ (omega arith) (omega arith)

  all : length (between s from to) ≡ to.offset - from.offset
  all = omega (arith, length-take (to.offset - from.offset) (drop from.offset (pairs s)), length-drop from.offset (pairs s), pairs_length s)

  left : zip (drop (length text / 64 * 64) text) (drop (length behind / 64 * 64) behind) ≡ drop (64 * ((to.offset - from.offset) / 64)) (between s from to)
  left =
      let n = (to.offset - from.offset) / 64 in
      let e : n * 64 ≡ 64 * n = omega arith in
      rw (size, size_behind, e, ← zip_drop (64 * n) text behind, both)

pub loop-b-init : goal.loop-b-init
loop-b-init c =
    let a = c.args in
    let rest = rw (c.as_chunks.ensures.back, c.as_chunks-2.ensures.back, left a.s.now a.from a.to (omega arith) (omega arith)) at c.few_endings-n.ensures in
    omega (arith, endings_fit 0 (between a.s.now a.from a.to))

pub overflow_add-n : goal.overflow_add-n
overflow_add-n c =
    let s = c.args.s.now in
    let from = c.args.from in
    let to = c.args.to in
    let l = text s from to (omega arith) (omega arith) in
    let m = behind s from to (omega arith) (omega arith) in
    let z = between s from to in
    let y = 64 * length c.loop-b.yielded in
    let turn = blocks_turn l m c.into_iter-b-iterator.result c.loop-b.b-iterator c.next.new.self c.loop-b.yielded c.next.result
    (c.in-Some.b, c.in-Some.behind) (cc) (cc) c.loop-b.yielded_by c.in-Some.is c.next.ensures.steps in
    let block = rw (turn.2, both s from to (omega arith) (omega arith)) at c.few_endings-n-in-loop-b.ensures in
    omega (
      arith,
      block,
      turn.0,
      size s from to (omega arith) (omega arith),
      all s from to (omega arith) (omega arith),
      endings_left (64 * ((to.offset - from.offset) / 64)) z,
      endings_fit y z,
      endings_fit 64 (drop y z),
    )

pub loop-b-preserved : goal.loop-b-preserved
loop-b-preserved c =
    let s = c.args.s.now in
    let from = c.args.from in
    let to = c.args.to in
    let l = text s from to (omega arith) (omega arith) in
    let m = behind s from to (omega arith) (omega arith) in
    let z = between s from to in
    let y = 64 * length c.loop-b.yielded in
    let turn = blocks_turn l m c.into_iter-b-iterator.result c.loop-b.b-iterator c.next.new.self c.loop-b.yielded c.next.result
    (c.in-Some.b, c.in-Some.behind) (cc) (cc) c.loop-b.yielded_by c.in-Some.is c.next.ensures.steps in
    let block = rw (turn.2, both s from to (omega arith) (omega arith)) at c.few_endings-n-in-loop-b.ensures in
    let k = 64 * length (c.loop-b.yielded ++ (c.in-Some.b, c.in-Some.behind) ∷ []) in
    let more : k ≡ y + 64 = omega (arith, length-append c.loop-b.yielded ((c.in-Some.b, c.in-Some.behind) ∷ [])) in
    omega (arith, block, endings_block y k z more)

pub returns : goal.returns
returns c =
    let s = c.args.s.now in
    let from = c.args.from in
    let to = c.args.to in
    let l = text s from to (omega arith) (omega arith) in
    let m = behind s from to (omega arith) (omega arith) in
    let z = between s from to in
    let n = 64 * ((to.offset - from.offset) / 64) in
    let end = blocks_end l m c.into_iter-b-iterator.result c.loop-b.b-iterator c.next.new.self c.loop-b.yielded c.next.result
    (cc) (cc) c.loop-b.yielded_by c.in-None.is c.next.ensures.steps in
    let last = rw (size s from to (omega arith) (omega arith), size_behind s from to (omega arith) (omega arith)) at end in
    let count : 64 * length c.loop-b.yielded ≡ n = omega (arith, last) in
    omega (arith, endings_cut n z, ap (λ (k : ℕ). endings (take k z)) count)
