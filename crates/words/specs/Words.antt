-- Octets as one number, and marks in the place of some of them. Assumes nothing.
use Rattle.std.specs.Prelude.{ℕ, zero, suc, ◌/◌, ◌%◌, ◌^◌, ◌<◌, ◌≡◌, Bool, not, List, [], ◌∷◌, map, eqb, if◌then◌else◌}
use Rattle.protocol.specs.Octets.{within}

-- the n lowest octets of a number, the lowest first
unfoldable pub octets_of : ℕ → ℕ → List ℕ
octets_of zero w = []
octets_of (suc n) w = w % 256 ∷ octets_of n (w / 256)

-- x is one of the octets from low to high; where `inside` is false, one of the others
abbrev pub among : ℕ → ℕ → Bool → ℕ → Bool
among low high inside x = if inside then within low high x else not (within low high x)

-- 128 stands for an octet that passes the test, and 0 for any other
abbrev pub mark : (ℕ → Bool) → ℕ → ℕ
mark f x = if f x then 128 else 0

-- what is given for a word marks the octets that pass the test
abbrev pub Marks : (ℕ → ℕ → Type 0) → (ℕ → Bool) → Type 0
Marks gives f = (w m : ℕ) → w < 256 ^ 8 → gives w m → octets_of 8 m ≡ map (mark f) (octets_of 8 w)

abbrev pub marked : ℕ → Bool
marked x = not (eqb x 0)
