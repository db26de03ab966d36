-- What the rules that apply come to for a path, one after the other, and the decision that this is. Assumes nothing.
use Rattle.std.specs.Prelude.{ℕ, ◌+◌, ◌*◌, ◌≤◌, ◌<◌, ◌^◌, Bool, false, ◌||◌, List, [], ◌∷◌, ltb, length, if◌then◌else◌}
use Rattle.protocol.specs.declared.Side.{Side}
use Rattle.protocol.specs.declared.Dialect.{Dialect}
use Rattle.protocol.specs.declared.Rule.{Rule}
use Rattle.protocol.specs.Forms.{Decision}
use Rattle.protocol.specs.Lines.{line_number, place_at}
use Rattle.protocol.specs.Decision.{pattern_of}
use Rattle.walk.specs.Weights.{weighed}
use Rattle.considering.specs.declared.Best.{Best}
use Rattle.considering.specs.declared.Considered.{Considered}

-- no rule matched yet
abbrev pub no_best : Best
no_best = record { weight = 0; line = line_number 0; place = place_at 0; length = 0 }

abbrev pub none_considered : Considered
none_considered = record { allow = no_best; disallow = no_best; compared = 0 }

-- the heavier of two, and at equal weight the earlier
unfoldable pub better : Best → Best → Best
better earlier later = if ltb earlier.weight later.weight then later else earlier

-- one rule more of a side, with the pairs that its walk compared; a rule that doesn't match has weight 0
unfoldable pub added : Side → Best → ℕ → Considered → Considered
added Side.Allow b n c = record { allow = better c.allow b; disallow = c.disallow; compared = c.compared + n }
added Side.Disallow b n c = record { allow = c.allow; disallow = better c.disallow b; compared = c.compared + n }

-- a rule, with a weight
abbrev pub best_with : Rule → ℕ → Best
best_with r w = record { weight = w; line = r.line; place = r.place; length = r.length }

-- some rule has matched
abbrev pub matched : Considered → Bool
matched c = ltb 0 c.allow.weight || ltb 0 c.disallow.weight

-- nothing more is made of further rules: in the draft's dialect, of those behind the first match
abbrev pub first_settles : Dialect → Bool → Bool
first_settles Dialect.Rfc9309 some = false
first_settles Dialect.Draft1996 some = some

abbrev pub settled : Dialect → Considered → Bool
settled d c = first_settles d (matched c)

-- one rule more, by the walk of its pattern over the path
unfoldable pub walked_once : Dialect → List ℕ → List ℕ → Rule → Considered → Considered
walked_once d pattern path r c = added r.side (best_with r (weighed d pattern path).weight) (weighed d pattern path).compared c

-- the same, unless nothing more is made of it
unfoldable pub considered : Dialect → List ℕ → List ℕ → Rule → Considered → Considered
considered d pattern path r c = if settled d c then c else walked_once d pattern path r c

-- rules of a file, one after the other
unfoldable pub considered_all : Dialect → List ℕ → List ℕ → Considered → List Rule → Considered
considered_all d file path c [] = c
considered_all d file path c (r ∷ rs) = considered_all d file path (considered d (pattern_of file r) path r c) rs

-- there is room for the numbers after a rule: an octet of a pattern adds at most 3 to its weight, and so 3 * 6,142 pairs
pub record Room (pattern path scratch : List ℕ) (c : Considered) : Type 0 where
  pub short : length path ≤ 6_142
  pub lent : length path ≤ length scratch
  pub size : length pattern ≤ 512_000
  pub compared : c.compared + 18_426 * length pattern < 2 ^ 64

-- the decision by a rule of that side
abbrev pub decided_as : Side → Best → ℕ → ℕ → Decision
decided_as side b unread compared =
    record { refusal = 0; side = side; line = b.line; place = b.place; length = b.length; unread = unread; compared = compared }

-- the decision after the last rule
unfoldable pub concluded : Considered → ℕ → Decision
concluded c unread =
    if ltb c.allow.weight c.disallow.weight then decided_as Side.Disallow c.disallow unread c.compared
    else decided_as Side.Allow c.allow unread c.compared
