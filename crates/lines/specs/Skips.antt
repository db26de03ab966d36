-- Octets in which no agent or rule line begins, and the lines that they close. Assumes nothing.
use Rattle.std.specs.Prelude.{ℕ, ◌+◌, ◌-◌, ◌*◌, ◌≤◌, ◌≡◌, Bool, true, false, ◌&&◌, ◌||◌, not, List, length, take, drop}
use Rattle.std.specs.List.{zip}
use Rattle.lists.specs.Choice.{one_if}
use Rattle.lists.specs.Lists.{any, up_to, total}
use Rattle.protocol.specs.declared.Place.{Place}
use Rattle.protocol.specs.declared.Position.{Position}
use Rattle.protocol.specs.Octets.{is, blank, line_end, lower_case}
use Rattle.protocol.specs.Lines.{number_after, place_after}

-- an agent line may begin with the octet
unfoldable pub agent_octet : ℕ → Bool
agent_octet x = blank x || is "u" (lower_case x)

-- an agent or rule line may begin with the octet
unfoldable pub entry_octet : ℕ → Bool
entry_octet x = is "a" (lower_case x) || is "d" (lower_case x) || agent_octet x

-- the octets of a text but the last, each with the one behind it
abbrev pub pairs : List ℕ → List (ℕ × ℕ)
pairs s = zip s (drop 1 s)

-- the octets from p up to q, each with the one behind it
abbrev pub between : List ℕ → Place → Place → List (ℕ × ℕ)
between s p q = take (q.offset - p.offset) (drop p.offset (pairs s))

-- a line begins between the two, with an octet that passes the test
abbrev pub opens : (ℕ → Bool) → ℕ × ℕ → Bool
opens first x = line_end x.0 && first x.1

-- no such line begins behind any of the octets
abbrev pub quiet : (ℕ → Bool) → List (ℕ × ℕ) → Bool
quiet first l = not (any (opens first) l)

-- the octet c is the last of its line and of its ending; lf where an LF follows it
abbrev pub closes : ℕ → Bool → Bool
closes c lf = is "\n" c || (is "\r" c && not lf)

-- the lines that the octets close
abbrev pub endings : List (ℕ × ℕ) → ℕ
endings l = total (λ (x : ℕ × ℕ). one_if (closes x.0 (is "\n" x.1))) l

-- the octets in front of the first behind which an agent line may begin: all of them where there is none
abbrev pub agent_front : List (ℕ × ℕ) → ℕ
agent_front l = length (up_to (opens agent_octet) l)

-- the place of the next line from p on that may be an agent line; the text's end, where there is none and p is in front of it
abbrev pub next_agent : List ℕ → Place → Place
next_agent s p = place_after p (agent_front (drop p.offset (pairs s)) + 1)

-- so many blocks of 64 octets from p on, with the octets behind them
abbrev pub blocks_at : List ℕ → Place → ℕ → List (ℕ × ℕ)
blocks_at s p blocks = take (64 * blocks) (drop p.offset (pairs s))

-- From p to r whole blocks of quiet octets are passed over, with an octet behind them, and the lines that they close are counted.
pub record PassedOver (s : List ℕ) (p r : Position) : Type 0 where
  pub blocks : ℕ
  pub place : r.place ≡ place_after p.place (64 * blocks)
  pub inside : 64 * blocks ≤ length s - p.place.offset - 1
  pub still : quiet entry_octet (blocks_at s p.place blocks) ≡ true
  pub number : r.number ≡ number_after p.number (endings (blocks_at s p.place blocks))

-- Nothing more is passed over only where the next block, with the octet behind it, isn't quiet, or there are no 65 octets left. There is one
-- such r (proofs/Skips: passed-one).
pub record PassedFrom (s : List ℕ) (p r : Position) : Type 0 where
  pub over : PassedOver s p r
  pub ended : r.place.offset + 65 ≤ length s → quiet entry_octet (blocks_at s r.place 1) ≡ false
