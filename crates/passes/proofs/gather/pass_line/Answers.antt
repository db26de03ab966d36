-- A line's end is inside of its text. Assumes nothing.
use Rattle.std.proofs.Common.{ap, drop, sym, ◌∙◌, true≢false, arith}
use Rattle.lines.proofs.Forward.{text_inside}
use Rattle.passes.proofs.Heads.{entry_within}
use Rattle.passes.proofs.Turns.{passed_blocks, passed_alone}
use Rattle.passes.proofs.gather.pass_line.Goals as goal
use Rattle.passes.proofs.gather.pass_line.Goals.{in-Other, in_default}

pub returns-then-matches : goal.returns-then-matches
returns-then-matches c =
    let a = c.args in
    passed_blocks a.file.now a.at c.requires.0 c.requires.1 a.entry.kind (ap (λ e. e.kind) c.requires.2) _ c.pass_idle.ensures (elim c.match-matches.branch [ in-Other w ↦ w.in-Other.is | in_default w ↦ absurd (true≢false (sym c.if-matches.true ∙ w.matches-is)) ])

pub overflow_add-result : goal.overflow_add-result
overflow_add-result c =
    let a = c.args in
    omega (arith, ap (λ e. e.end.offset) c.requires.2, entry_within (drop a.at.place.offset a.file.now), text_inside a.file.now a.at.place (omega (arith, c.requires.0)), c.requires.0)

pub returns : goal.returns
returns c =
    let a = c.args in
    passed_alone a.file.now a.at c.requires.0 c.requires.1 a.entry.kind (ap (λ e. e.kind) c.requires.2) a.entry.end.offset
    (omega (arith, ap (λ e. e.end.offset) c.requires.2, entry_within (drop a.at.place.offset a.file.now)))
