-- What is behind the blocks. Assumes nothing.
use Rattle.std.proofs.Common.{arith}
use Rattle.lines.proofs.Forward.{next_of, ends_there}
use Rattle.collecting.proofs.Reading.{blocks_behind}
use Rattle.collecting.proofs.Reader.pass_idle.Goals as goal

pub behind_end-requires : goal.behind_end-requires
behind_end-requires c h = ends_there c.args.self.file.now c.pass-over.result.place c.line_end-end.result c.line_end-end.ensures h

pub next_line-requires : goal.next_line-requires
next_line-requires c =
    let b = (blocks_behind c.args.self.file.now c.args.at c.pass-over.result c.requires c.pass-over.ensures.over).behind in
    omega (arith, b.counted, b.inside, c.requires.size)

pub returns : goal.returns
returns c =
    rw (c.next_line.ensures, c.behind_end.ensures, next_of c.args.self.file.now c.pass-over.result.place c.line_end-end.result c.line_end-end.ensures)
    (blocks_behind c.args.self.file.now c.args.at c.pass-over.result c.requires c.pass-over.ensures.over)
