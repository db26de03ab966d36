-- What is near, or what is behind that, gives the whole.
use Rattle.std.proofs.Common.{arith, ap, ◌≡◌, ◌∙◌, ◌+◌, ◌-◌, ◌≤◌, ◌<◌, ℕ, List, Some, None, length, take, drop}
use Rattle.std.specs.List.{zip, position}
use Rattle.lists.proofs.Scans.{rest_of}
use Rattle.protocol.specs.Lines.{place_at}
use Rattle.lines.specs.Skips.{agent_octet, opens, agent_front, pairs}
use Rattle.lines.proofs.Pairs.{part_length, pairs_part, pairs_rest, pairs_few}
use Rattle.lines.proofs.Skips.{front_searched, front_near, front_fits}
use Rattle.lines.proofs.skip.next_agent.Goals as goal

-- in the text, from an octet on
module _ (s : List ℕ) (i : ℕ) where
  abbrev front : ℕ
  front = agent_front (drop i (pairs s))

  -- the next five octets
  module _ (h : i + 6 ≤ length s) where
    abbrev five : List (ℕ × ℕ)
    five = zip (take (i + 5 - i) (drop i s)) (take (i + 6 - (i + 1)) (drop (i + 1) s))

    five_part : five ≡ take 5 (drop i (pairs s))
    five_part = pairs_part s i 5 (i + 5 - i) (i + 6 - (i + 1)) (omega arith) (omega arith)

    in_five : (j : ℕ) → Some j ≡ position (opens agent_octet) five → j ≡ front
    in_five j e = omega (arith, front_searched s i 5 (omega arith) five five_part (Some j) e)

    behind_five : None ≡ position (opens agent_octet) five → front ≡ 5 + agent_front (drop (i + 5) (pairs s))
    behind_five e = front_searched s i 5 (omega arith) five five_part None e

  -- the next block
  module _ (h : i + 65 ≤ length s) where
    abbrev block : List (ℕ × ℕ)
    block = zip (take (i + 64 - i) (drop i s)) (take (i + 65 - (i + 1)) (drop (i + 1) s))

    block_part : block ≡ take 64 (drop i (pairs s))
    block_part = pairs_part s i 64 (i + 64 - i) (i + 65 - (i + 1)) (omega arith) (omega arith)

    in_block : (j : ℕ) → Some j ≡ position (opens agent_octet) block → j ≡ front
    in_block j e = omega (arith, front_searched s i 64 (omega arith) block block_part (Some j) e)

    behind_block : None ≡ position (opens agent_octet) block → front ≡ 64 + agent_front (drop (i + 64) (pairs s))
    behind_block e = front_searched s i 64 (omega arith) block block_part None e

  -- the first line ends in the next 32 octets
  in_line : i + 33 ≤ length s → (j : ℕ) → let lent = take (i + 33 - i) (drop i s) in j + 1 < length lent → j ≡ agent_front (pairs lent) → j ≡ front
  in_line h j k e =
      let many : i + 33 - i ≡ 32 + 1 = omega arith in
      let size : length (take (i + 33 - i) (drop i s)) ≡ 33 = part_length s i 33 _ many h in
      e ∙ front_near s i 32 (omega arith) _ (pairs_few s i 32 _ many) (omega (arith, size))

pub returns-in-Some : goal.returns-in-Some
returns-in-Some c = let found = in_five c.args.s.now c.args.from.offset (omega arith) c.in-Some.i c.in-Some.ensures in ap place_at (omega arith)

pub returns-in-Some-behind_line : goal.returns-in-Some-behind_line
returns-in-Some-behind_line c =
    let e = c.in-Some-behind_line.ensures in
    let found = in_line c.args.s.now c.args.from.offset (omega arith) c.in-Some-behind_line.i e.0 e.1 in
    ap place_at (omega arith)

pub returns-in-Some-front_agent : goal.returns-in-Some-front_agent
returns-in-Some-front_agent c =
    let five = behind_five c.args.s.now c.args.from.offset (omega arith) c.in_default.ensures in
    let found = in_block c.args.s.now (c.args.from.offset + 5) (omega arith) c.in-Some-front_agent.i c.in-Some-front_agent.ensures in
    ap place_at (omega arith)

pub overflow_add-result-in-Some-front_agent : goal.overflow_add-result-in-Some-front_agent
overflow_add-result-in-Some-front_agent c =
    let found = in_block c.args.s.now (c.args.from.offset + 5) (omega arith) c.in-Some-front_agent.i c.in-Some-front_agent.ensures in
    omega (arith, front_fits c.args.s.now (c.args.from.offset + 5))

pub overflow_add-result-in-Some-front_agent-2 : goal.overflow_add-result-in-Some-front_agent-2
overflow_add-result-in-Some-front_agent-2 c =
    let found = in_block c.args.s.now (c.args.from.offset + 5) (omega arith) c.in-Some-front_agent.i c.in-Some-front_agent.ensures in
    omega (arith, front_fits c.args.s.now (c.args.from.offset + 5))

pub returns : goal.returns
returns c =
    let five = behind_five c.args.s.now c.args.from.offset (omega arith) c.in_default.ensures in
    let block = behind_block c.args.s.now (c.args.from.offset + 5) (omega arith) c.in_default-front_agent.ensures in
    c.far_agent.ensures ∙ ap place_at (omega arith)

-- few octets are left
pub returns-then-s-start-lt70 : goal.returns-then-s-start-lt70
returns-then-s-start-lt70 c =
    let found = rw (rest_of c.args.from.offset c.args.s.now, pairs_rest c.args.s.now c.args.from.offset) at c.tail_agent.ensures in
    ap place_at (omega arith)

pub overflow_add-result : goal.overflow_add-result
overflow_add-result c =
    let found = rw (rest_of c.args.from.offset c.args.s.now, pairs_rest c.args.s.now c.args.from.offset) at c.tail_agent.ensures in
    omega (arith, front_fits c.args.s.now c.args.from.offset)
