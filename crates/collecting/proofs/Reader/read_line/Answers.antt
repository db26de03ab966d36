-- A line's text, its kind and the next line. Assumes nothing.
use Rattle.std.proofs.Common.{sym, ap, ◌∙◌, arith}
use Rattle.protocol.specs.Kinds.{kind_of}
use Rattle.lines.proofs.Forward.{next_of, ends_there}
use Rattle.collecting.proofs.Reading.{no_rule, text_ends, text_read, text_unended}
use Rattle.collecting.proofs.Reader.read_line.Goals as goal

pub slice_bounds-line_kind-end : goal.slice_bounds-line_kind-end
slice_bounds-line_kind-end c =
    let a = c.args in text_ends a.self.file.now a.c.pass.at.place _ (omega (arith, c.requires.counted.inside)) c.line_end-last.ensures

pub line_kind-kind-requires-clause-one_line : goal.line_kind-kind-requires-clause-one_line
line_kind-kind-requires-clause-one_line c =
    let a = c.args in
    rw (text_read a.self.file.now a.c.pass.at.place _ (omega (arith, c.requires.counted.inside)) c.line_end-last.ensures)
    (text_unended a.self.file.now a.c.pass.at.place _ (omega (arith, c.requires.counted.inside)) c.line_end-last.ensures)

pub behind_end-next-requires : goal.behind_end-next-requires
behind_end-next-requires c h = ends_there c.args.self.file.now c.args.c.pass.at.place c.line_end-last.result c.line_end-last.ensures h

pub take_rule-requires-clause-told : goal.take_rule-requires-clause-told
take_rule-requires-clause-told c =
    let a = c.args in
    sym c.in-Rule.is
    ∙ c.line_kind-kind.ensures
    ∙ ap kind_of (text_read a.self.file.now a.c.pass.at.place _ (omega (arith, c.requires.counted.inside)) c.line_end-last.ensures)

pub take_rule-requires-clause-behind : goal.take_rule-requires-clause-behind
take_rule-requires-clause-behind c =
    let a = c.args in c.behind_end-next.ensures ∙ next_of a.self.file.now a.c.pass.at.place c.line_end-last.result c.line_end-last.ensures

pub hear_other-requires : goal.hear_other-requires
hear_other-requires c =
    let a = c.args in
    record {
      counted = c.requires.counted;
      told =
          c.line_kind-kind.ensures
          ∙ ap kind_of (text_read a.self.file.now a.c.pass.at.place _ (omega (arith, c.requires.counted.inside)) c.line_end-last.ensures);
      idle = no_rule c.line_kind-kind.result c.in_default.not-Rule;
      behind = c.behind_end-next.ensures ∙ next_of a.self.file.now a.c.pass.at.place c.line_end-last.result c.line_end-last.ensures;
    }
