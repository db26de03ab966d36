-- The decision about a path that isn't refused, from any entries: no refusal, the unread count, and demand 3's compared count. Assumes nothing.
use Prim.Native.Nat.{ℕ, ◌*◌, ◌≤◌}
use mathlib.Core.Path.{◌≡◌, refl}
use mathlib.Core.Bool.{true, false}
use mathlib.Core.Logic.{◌↔◌}
use mathlib.Core.List.{List}
use mathlib.Core.Option.{Option, none, some}
use native.Mathlib.Omega.{arith}
use lib.ListN.{length}
use Rattle.lists.specs.Lists.{total}
use Rattle.lists.proofs.Bools.{split}
use Rattle.lists.proofs.Members.{total_bound}
use Rattle.lists.proofs.Tests.{same_equal}
use Rattle.protocol.specs.declared.Dialect.{Dialect}
use Rattle.protocol.specs.Text.{octets}
use Rattle.protocol.specs.Entries.{Entry}
use Rattle.protocol.specs.declared.Rule.{Rule}
use Rattle.protocol.specs.Rules.{applying, unread}
use Rattle.protocol.specs.Pattern.{shape_in}
use Rattle.protocol.specs.Walk.{walk}
use Rattle.protocol.specs.Decision.{pattern_of, readable_rules, weight_in, walk_of, matching, deciding, walked, compared_by, decided_by, is_robots_file, decided_among, answered}
use Rattle.protocol.proofs.Counted.{walk_bound}

-- "/robots.txt?x isn't that path": only /robots.txt is.
pub robots_file : (path : List ℕ) → (is_robots_file path ≡ true) ↔ (path ≡ octets "/robots.txt")
unfolding is_robots_file
robots_file path = same_equal path (octets "/robots.txt")

-- what doesn't turn on the rule that decides
module _ (u c : ℕ) where
  decided_by_refusal : (o : Option Rule) → (decided_by o u c).refusal ≡ 0
  unfolding decided_by
  decided_by_refusal none = refl
  decided_by_refusal (some r) = refl

  decided_by_unread : (o : Option Rule) → (decided_by o u c).unread ≡ u
  unfolding decided_by
  decided_by_unread none = refl
  decided_by_unread (some r) = refl

  decided_by_compared : (o : Option Rule) → (decided_by o u c).compared ≡ c
  unfolding decided_by
  decided_by_compared none = refl
  decided_by_compared (some r) = refl

module _ (d : Dialect) (file : List ℕ) (es : List Entry) (name path : List ℕ) where
  -- the readable rules that apply
  abbrev readable : List Rule
  readable = readable_rules file (applying file es name)

  pub answered_robots : is_robots_file path ≡ true → answered d file es name path ≡ decided_by none (unread file es) 0
  unfolding answered
  answered_robots e = rw e

  pub answered_other : is_robots_file path ≡ false
      → answered d file es name path ≡ decided_by (deciding d file (matching d file path readable)) (unread file es) (compared_by d file path readable)
  unfolding answered decided_among
  answered_other e = rw e

  -- either way it is a decision with the whole file's unread count
  answered_by : (o : Option Rule) × (c : ℕ) × (answered d file es name path ≡ decided_by o (unread file es) c)
  answered_by =
      split (is_robots_file path) (λ e. (none, 0, answered_robots e))
      (λ e. (deciding d file (matching d file path readable), compared_by d file path readable, answered_other e))

  pub answered_refusal : (answered d file es name path).refusal ≡ 0
  answered_refusal = let (o, c, e) = answered_by in rw e (decided_by_refusal (unread file es) c o)

  -- "The unread count is the number of unreadable agent and rule lines in the whole file", for /robots.txt too.
  pub answered_unread : (answered d file es name path).unread ≡ unread file es
  answered_unread = let (o, c, e) = answered_by in rw e (decided_by_unread (unread file es) c o)

  -- "the sum of such walks' numbers, one walk for each" rule that is walked,
  pub answered_compared : is_robots_file path ≡ false
      → (answered d file es name path).compared
      ≡ total (λ r. (walk (shape_in d (pattern_of file r)) path).count) (walked d file path (readable_rules file (applying file es name)))
  unfolding compared_by walk_of
  answered_compared e = rw (answered_other e) (decided_by_compared (unread file es) (compared_by d file path readable) _)

  -- or 0 if the normalised path is /robots.txt"
  pub answered_compared_robots : is_robots_file path ≡ true → (answered d file es name path).compared ≡ 0
  answered_compared_robots e = rw (answered_robots e) (decided_by_compared (unread file es) 0 none)

  -- "It is at most the summed weights of those rules, times the octets of the normalised path."
  pub answered_bound : (answered d file es name path).compared
      ≤ total (weight_in d file) (walked d file path (readable_rules file (applying file es name))) * length path
  unfolding weight_in
  answered_bound =
      let count : Rule → ℕ = λ r. (walk (shape_in d (pattern_of file r)) path).count in
      let bound
      = total_bound count (weight_in d file) (length path) (λ r. walk_bound (shape_in d (pattern_of file r)) path) (walked d file path readable) in
      split (is_robots_file path) (λ e. omega (arith, answered_compared_robots e)) (λ e. omega (arith, answered_compared e))
