-- `text::trimmed_length` meets its contract. Assumes nothing.
use Rattle.std.proofs.Common.{rules, tests}
use Rattle.text.proofs.Trims.{trimmed_none, trimmed_at}
use Rattle.text.proofs.trimmed_length.Goals as goal

pub returns-in-Some : goal.returns-in-Some
returns-in-Some c = trimmed_at c.args.s.now c.in-Some.i (search rules) (search (rules, tests)) (search (rules, tests))

pub returns-in-None : goal.returns-in-None
returns-in-None c = trimmed_none c.args.s.now (search (rules, tests))
