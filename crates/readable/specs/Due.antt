-- What the octets that are due have to be, and the octets that leave nothing due. Assumes nothing.
use Rattle.std.specs.Prelude.{ℕ, zero, suc, Bool, not, Option, None, Some, List, [], ◌∷◌, replicate, if◌then◌else◌}
use Rattle.protocol.specs.Octets.{within}
use Rattle.protocol.specs.Readable.{Range, ◌to◌, holds, utf8_tail, never, character_forms, due_after}
use Rattle.readable.specs.declared.Due.{Due}

-- the next octet from low to high, those behind it UTF8-tails, `more` octets in all
abbrev pub ranges : ℕ → ℕ → ℕ → List Range
ranges low high zero = []
ranges low high (suc n) = (low to high) ∷ replicate n utf8_tail

abbrev pub due_ranges : Due → List Range
due_ranges d = ranges d.low d.high d.more

-- none stands for what no octet makes whole
abbrev pub due_or_never : Option Due → List Range
due_or_never None = never ∷ []
due_or_never (Some d) = due_ranges d

-- what is due after one octet more
unfoldable pub due_past : List Range → ℕ → List Range
due_past [] x = due_after x character_forms
due_past (r ∷ due) x = if holds r x then due else never ∷ []

-- the most frequent octets; each is a character by itself
abbrev pub ordinary : ℕ → Bool
ordinary x = within 0x24 0x7F x

abbrev pub unusual : ℕ → Bool
unusual x = not (ordinary x)
