-- The octet there is a colon exactly if the text from there on begins with one. Assumes nothing.
use Rattle.std.proofs.Common.{◌∙◌, refl}
use Rattle.fields.proofs.Heads.{colon_got}
use Rattle.fields.proofs.colon_at.Goals as goal

pub returns : goal.returns
returns c = c.eq.ensures ∙ colon_got c.args.s.now c.args.at.offset c.get.result _ c.get.ensures.lookup.3 refl
