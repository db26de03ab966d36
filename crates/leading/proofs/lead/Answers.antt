-- The rule is weighed by its pattern. Assumes nothing.
use Rattle.std.proofs.Common.{List, ℕ, length, sym, ap, ◌∙◌, arith}
use Rattle.tables.specs.Tables.{front_of}
use Rattle.walk.specs.Weights.{weighed}
use Rattle.leading.proofs.Rules.{pattern_few, led_taken, led_passed}
use Rattle.leading.proofs.lead.Goals as goal

pub weigh_from-weight-requires : goal.weigh_from-weight-requires
weigh_from-weight-requires c =
    let a = c.args in (
      c.requires.sound.front ∙ ap front_of (sym c.pattern_of-pattern.ensures),
      omega (arith, ap length c.pattern_of-pattern.ensures, pattern_few a.file.now a.kept.now.rule c.requires.sound.inside, c.requires.file_size),
      c.requires.path_short,
      c.requires.scratch_fits,
    )

pub returns-then-is_outdone-clause-value : goal.returns-then-is_outdone-clause-value
returns-then-is_outdone-clause-value c =
    let a = c.args in
    let weight = c.weigh_from-weight.ensures.value ∙ ap (λ (p : List ℕ). (weighed a.dialect p a.path.now).weight) c.pattern_of-pattern.ensures in
    rw c.from.ensures
    (led_taken a.dialect a.file.now a.path.now a.leader a.kept.now.rule _ weight c.requires.unsettled (sym c.is_outdone.ensures ∙ c.if-is_outdone.true))

pub returns-else-is_outdone-clause-value : goal.returns-else-is_outdone-clause-value
returns-else-is_outdone-clause-value c =
    let a = c.args in
    let weight = c.weigh_from-weight.ensures.value ∙ ap (λ (p : List ℕ). (weighed a.dialect p a.path.now).weight) c.pattern_of-pattern.ensures in
    led_passed a.dialect a.file.now a.path.now a.leader a.kept.now.rule _ weight c.requires.unsettled (sym c.is_outdone.ensures ∙ c.if-is_outdone.false)
