-- `text::first_marked` meets its contract. Assumes nothing.
use Rattle.std.proofs.Common.{◌-◌, length, arith}
use Rattle.lists.proofs.Scans.{up_to_fits}
use Rattle.text.proofs.Marked.{goes_on, ends}
use Rattle.text.proofs.first_marked.Goals as goal

pub returns-then-m-ne0 : goal.returns-then-m-ne0
returns-then-m-ne0 g c f marks =
    let w = c.word_at.result in
    let m = c.marks-m.result in
    ends f c.args.s.now c.loop-i.i w m (c.loop-i.invariant f marks) c.word_at.ensures (marks w m (omega arith) c.marks-m.ensures) (omega arith) c.first_mark.result c.first_mark.ensures c.if-m-ne0.true

pub loop-i-preserved : goal.loop-i-preserved
loop-i-preserved g c f marks =
    let w = c.word_at.result in
    let m = c.marks-m.result in
    goes_on f c.args.s.now c.loop-i.i w m (c.loop-i.invariant f marks) c.word_at.ensures (marks w m (omega arith) c.marks-m.ensures) (omega arith) c.if-m-ne0.false (omega arith)

pub returns-then-m-eq0 : goal.returns-then-m-eq0
returns-then-m-eq0 g c f marks =
    let s = c.args.s.now in
    let w = c.word_at-2.result in
    let m = c.marks-m-2.result in
    omega (arith, goes_on f s (length s - 8) w m (omega (arith, c.loop-i.invariant f marks)) c.word_at-2.ensures (marks w m (omega arith) c.marks-m-2.ensures) (omega arith) c.if-m-eq0.true (omega arith), up_to_fits f s)

pub returns : goal.returns
returns g c f marks =
    let s = c.args.s.now in
    let w = c.word_at-2.result in
    let m = c.marks-m-2.result in
    ends f s (length s - 8) w m (omega (arith, c.loop-i.invariant f marks)) c.word_at-2.ensures (marks w m (omega arith) c.marks-m-2.ensures) (omega arith) c.first_mark-else-m-eq0.result c.first_mark-else-m-eq0.ensures c.if-m-eq0.false
