-- A decision as it is told: refused, or out of what is gathered. Assumes nothing.
use Rattle.std.specs.Prelude.{if◌then◌else◌}
use Prim.Native.Nat.{ℕ}
use mathlib.Core.Path.{◌≡◌, refl, ap, ◌∙◌}
use mathlib.Core.Bool.{Bool, true, false}
use mathlib.Core.List.{List}
use lib.Dec.{ltb}
use Rattle.lists.proofs.Bools.{split}
use Rattle.protocol.specs.declared.Dialect.{Dialect}
use Rattle.protocol.specs.Entries.{entries}
use Rattle.protocol.specs.Decision.{answered}
use Rattle.protocol.specs.Answers.{refused_decision}
use Rattle.considering.specs.declared.Considered.{Considered}
use Rattle.considering.specs.Considering.{concluded}
use Rattle.passes.specs.declared.gather.Gathered.{Gathered}
use Rattle.passes.specs.Entries as passes
use Rattle.passes.proofs.Gathering.{gathered_decides}
use Rattle.decide.specs.Telling.{told}

pub refused_told : (whole : Bool) (n : ℕ) → refused_decision n ≡ told whole (refused_decision n)
refused_told true n = refl
refused_told false n = refl

concluded_told : (whole : Bool) (c : Considered) (unread : ℕ) → concluded c (if whole then unread else 0) ≡ told whole (concluded c unread)
unfolding concluded
concluded_told whole c unread = split (ltb c.allow.weight c.disallow.weight) (λ e. rw e) (λ e. rw e)

-- what is gathered for those whose groups apply, and told of it, gives the answer
pub gathered_told : (d : Dialect) (file name path : List ℕ) (whole : Bool) (g : Gathered)
    → g ≡ passes.told whole (passes.gathered d file name (passes.audience_for file name path) path)
    → concluded g.considered g.unread ≡ told whole (answered d file (entries file) name path)
gathered_told d file name path whole g e =
    let all = passes.gathered d file name (passes.audience_for file name path) path in
    ap (λ (x : Gathered). concluded x.considered x.unread) e
    ∙ concluded_told whole all.considered all.unread
    ∙ ap (told whole) (gathered_decides d file name path all refl)
