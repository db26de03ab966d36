-- All eight octets are folded at once. Assumes nothing.
use Rattle.std.proofs.Common.{ap, ◌∙◌}
use Rattle.fields.specs.Near.{folded}
use Rattle.fields.proofs.Folds.{word_folded}
use Rattle.fields.proofs.near.folded_word.Goals as goal

pub returns : goal.returns
returns c = word_folded c.word_at.result ∙ ap folded c.word_at.ensures
