-- An octet that stays is stored behind those in front; any other ends them. Assumes nothing.
use Rattle.std.proofs.Common.{ℕ, Bool, List, [], ◌∷◌, ◌≡◌, ◌≤◌, ◌∙◌, sym, length, drop, arith}
use lib.ListN.{drop_of_length-le}
use Rattle.lists.specs.Lists.{up_to}
use Rattle.protocol.specs.Normal.{is_encoded}
use Rattle.normal.proofs.Laws.{front_ends, front_on}
use Rattle.normal.proofs.Steps.{store_on, all_stored}
use Rattle.normal.proofs.write_short.Goals as goal

-- behind the last octet nothing is left
none : (stars : Bool) (s : List ℕ) (i : ℕ) → length s ≤ i → up_to (is_encoded stars) (drop i s) ≡ []
unfolding up_to
none stars s i h = rw (drop_of_length-le s h)

pub loop-i-preserved : goal.loop-i-preserved
loop-i-preserved c =
    let a = c.args in
    store_on c.loop-i.invariant (_ ∷ []) _ (front_on a.stars a.s.now c.loop-i.i (omega arith) (sym c.is_kept.ensures ∙ c.if-not-is_kept.false))

pub bounds-out-i : goal.bounds-out-i
bounds-out-i c = omega (arith, loop-i-preserved c, c.requires, c.loop-i.auto.out)

-- the octets in front end at an octet that doesn't stay
module _ (c : goal.Then-not-is_kept) where
  ends : up_to (is_encoded c.args.stars) (drop c.loop-i.i c.args.s.now) ≡ []
  ends = front_ends c.args.stars c.args.s.now c.loop-i.i (omega arith) (sym c.is_kept.ensures ∙ c.if-not-is_kept.true)

pub returns-then-not-is_kept-clause-kept : goal.returns-then-not-is_kept-clause-kept
returns-then-not-is_kept-clause-kept c = omega (arith, all_stored c.loop-i.invariant (ends c))

pub returns-then-not-is_kept-clause-written : goal.returns-then-not-is_kept-clause-written
returns-then-not-is_kept-clause-written c = (all_stored c.loop-i.invariant (ends c)).1

pub returns-clause-kept : goal.returns-clause-kept
returns-clause-kept c =
    omega (arith, all_stored c.loop-i.invariant (none c.args.stars c.args.s.now c.loop-i.i (omega arith)), c.loop-i.auto.i-end)

pub returns-clause-written : goal.returns-clause-written
returns-clause-written c = (all_stored c.loop-i.invariant (none c.args.stars c.args.s.now c.loop-i.i (omega arith))).1
