-- The path fits the room; and one that stays as it is needs none. Assumes nothing.
use Rattle.std.proofs.Common.{◌≤◌, ◌*◌, ◌∙◌, ℕ, List, false, length, sym, arith}
use Rattle.protocol.specs.Normal.{normal_path}
use Rattle.protocol.proofs.Sizes.{normal_size}
use Rattle.normal.proofs.Literal.{kept_path}
use Rattle.decide.proofs.answers.Question.answer.Goals as goal

three-each : (path : List ℕ) → length (normal_path path) ≤ 3 * length path
unfolding normal_path
three-each path = normal_size false 0 path

pub returns-then-short : goal.returns-then-short
returns-then-short c = rw (kept_path c.args.path.now (sym c.may_change.ensures ∙ c.if-not-may_change.true)) c.answer_unchanged.ensures

pub returns-else-short : goal.returns-else-short
returns-else-short c =
    rw (kept_path c.args.path.now (sym c.may_change.ensures ∙ c.if-not-may_change.true)) c.answer_unchanged-else-short.ensures

pub answer_in_room-requires-clause-fits : goal.answer_in_room-requires-clause-fits
answer_in_room-requires-clause-fits c = omega (arith, three-each c.args.path.now)

pub answer_in_room-requires-then-path-le512-clause-fits : goal.answer_in_room-requires-then-path-le512-clause-fits
answer_in_room-requires-then-path-le512-clause-fits c = omega (arith, three-each c.args.path.now)
