-- What is gathered for those whose groups apply gives the answer. Assumes nothing.
use Rattle.std.proofs.Common.{◌∙◌, ap}
use Rattle.protocol.specs.declared.Audience.{Audience}
use Rattle.passes.specs.Entries as passes
use Rattle.passes.proofs.Choices.{chosen_own}
use Rattle.decide.proofs.Telling.{gathered_told}
use Rattle.decide.proofs.answers.Question.answer_for.Goals as goal

pub gather-g-requires : goal.gather-g-requires
gather-g-requires c =
    let q = c.args.self.now in
    (chosen_own q.file.now q.name.now _ _ c.audience_for-chosen.ensures, q.file_fits, c.requires.path_fits, c.requires.scratch_fits)

pub returns : goal.returns
returns c =
    let q = c.args.self.now in
    let path = c.args.path.now in
    c.conclude.ensures
    ∙ gathered_told q.dialect q.file.now q.name.now path q.whole c.gather-g.result
    (c.gather-g.ensures.value ∙ ap (λ (x : Audience). passes.told q.whole (passes.gathered q.dialect q.file.now q.name.now x path)) c.audience_for-chosen.ensures.audience)
