-- Nobody's groups apply for /robots.txt. Assumes nothing.
use Rattle.std.proofs.Common.{◌∙◌, sym, refl}
use Rattle.passes.specs.Entries.{audience_for}
use Rattle.passes.proofs.Choices.{chosen_nobody}
use Rattle.decide.proofs.answers.Question.audience_for.Goals as goal

pub returns-then-is_robots_file : goal.returns-then-is_robots_file
unfolding audience_for
returns-then-is_robots_file c =
    let q = c.args.self.now in
    chosen_nobody q.file.now q.name.now _ _ refl (rw (sym c.is_robots_file.ensures ∙ c.if-is_robots_file.true)) refl refl

pub returns : goal.returns
unfolding audience_for
returns c = rw (sym c.is_robots_file.ensures ∙ c.if-is_robots_file.false) c.choose_audience.ensures
