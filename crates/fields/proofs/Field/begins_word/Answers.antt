-- What is kept of a word is the name's word exactly if it begins with the name. Assumes nothing.
use Rattle.std.proofs.Common.{arith}
use Rattle.fields.proofs.Folds.{word_begins_lem}
use Rattle.fields.proofs.Field.begins_word.Goals as goal

pub returns : goal.returns
returns c = word_begins_lem c.args.self c.args.w c.kept_word.result c.name_word.result c.kept_word.ensures c.name_word.ensures (omega arith) (omega arith)
