-- What is lent behind the first octet is all but it.
use Rattle.std.proofs.Common.{arith, sym, ◌≡◌, ◌-◌, length, List, ℕ, take, drop, Some, None}
use Rattle.std.specs.List.{zip}
use Rattle.lists.proofs.Scans.{rest_of}
use Rattle.lines.specs.Skips.{pairs}
use Rattle.lines.proofs.Pairs.{pairs_length}
use Rattle.lines.proofs.Skips.{front_at, front_quiet}
use Rattle.lines.proofs.skip.tail_agent.Goals as goal

all : (s : List ℕ) → zip s (take (length s - 1) (drop 1 s)) ≡ pairs s
all s = rw rest_of

pub returns-then-is_quiet : goal.returns-then-is_quiet
returns-then-is_quiet c =
    let s = c.args.s.now in
    omega (arith, front_quiet (pairs s) (sym (rw (all s) at c.if-is_quiet.ensures)), pairs_length s)

pub overflow_add-result : goal.overflow_add-result
overflow_add-result c =
    let s = c.args.s.now in
    omega (arith, front_at (pairs s) (Some c.in-Some.i) (rw (all s) at c.in-Some.ensures), pairs_length s)

pub returns-in-Some : goal.returns-in-Some
returns-in-Some c =
    let s = c.args.s.now in
    omega (arith, front_at (pairs s) (Some c.in-Some.i) (rw (all s) at c.in-Some.ensures))

pub returns-in-None : goal.returns-in-None
returns-in-None c =
    let s = c.args.s.now in
    omega (arith, front_at (pairs s) None (rw (all s) at c.in-None.ensures), pairs_length s)
