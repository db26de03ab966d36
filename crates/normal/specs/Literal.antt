-- Octets that stand for themselves. Assumes nothing.
use Rattle.std.specs.Prelude.{ℕ, Bool, not}
use Rattle.protocol.specs.Octets.{within}

-- an octet that normalising leaves as it is, whatever stands beside it, and that is no star and no end mark in a pattern
abbrev pub literal : ℕ → Bool
literal x = within 0x2B 0x7E x

abbrev pub not_literal : ℕ → Bool
not_literal x = not (literal x)
