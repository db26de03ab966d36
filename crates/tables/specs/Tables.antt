-- The rules of a table, each with how many literal octets its pattern has in front. Assumes nothing.
use Rattle.std.specs.Prelude.{ℕ, ◌+◌, ◌≤◌, ◌≡◌, List, map, take, drop, length}
use Rattle.std.specs.List.{All}
use Rattle.lists.specs.Lists.{up_to}
use Rattle.protocol.specs.declared.Rule.{Rule}
use Rattle.protocol.specs.Decision.{pattern_of}
use Rattle.normal.specs.Literal.{not_literal}
use Rattle.tables.specs.declared.Kept.{Kept}

-- the literal octets in front of a pattern
abbrev pub front_of : List ℕ → ℕ
front_of pattern = length (up_to not_literal pattern)

-- a rule with that pattern, as it is kept
abbrev pub kept_of : Rule → List ℕ → Kept
kept_of r pattern = record { rule = r; front = front_of pattern }

-- the rules that are kept
abbrev pub rules_of : List Kept → List Rule
rules_of t = map (λ k. k.rule) t

-- n rules from place i on, counted from 0
abbrev pub rules_from : ℕ → ℕ → List Kept → List Rule
rules_from i n t = rules_of (take n (drop i t))

-- it is kept as a rule of the file is
pub record SoundKept (file : List ℕ) (k : Kept) : Type 0 where
  pub inside : k.rule.place.offset + k.rule.length ≤ length file
  pub front : k.front ≡ front_of (pattern_of file k.rule)

-- so are the first n rules
abbrev pub Sound : List ℕ → ℕ → List Kept → Type 0
Sound file n t = (n ≤ length t) × All (SoundKept file) (take n t)
