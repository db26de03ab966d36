-- Texts are lists of octets: the tests and parts of them that document 01 speaks of. Assumes nothing.
use Rattle.std.specs.Prelude.{ℕ, Bool, false, not, List, [], ◌∷◌, map, length, take, drop, if◌then◌else◌}
use Prim.Native.Char.{Char, code}
use Prim.Native.String.{String, [] as []ˢ, ◌∷◌ as ◌∷ˢ◌}
use Rattle.lists.specs.Lists.{empty, up_to, from, same}
use Rattle.protocol.specs.declared.Place.{Place}
use Rattle.protocol.specs.Octets.{is, blank, lower_case}

-- the octets of an ASCII text
unfoldable pub octets : String → List ℕ
octets []ˢ = []
octets (c ∷ˢ s) = code c ∷ octets s

-- the first octet is c's
unfoldable pub begins : Char → List ℕ → Bool
begins c [] = false
begins c (x ∷ l) = is c x

-- the last octet is c's
unfoldable pub ends : Char → List ℕ → Bool
ends c [] = false
ends c (x ∷ l) = if empty l then is c x else ends c l

-- "equal, ignoring ASCII case"
unfoldable pub same_ignoring_case : List ℕ → List ℕ → Bool
same_ignoring_case l m = same (map lower_case l) (map lower_case m)

-- neither a space nor a tab
abbrev pub solid : ℕ → Bool
solid x = not (blank x)

-- the number of spaces and tabs at the front
unfoldable pub lead : List ℕ → ℕ
lead l = length (up_to solid l)

-- a space or tab with nothing behind it is at the end
unfoldable pub unless_at_end : ℕ → List ℕ → List ℕ
unless_at_end x [] = if blank x then [] else x ∷ []
unless_at_end x (y ∷ l) = x ∷ y ∷ l

unfoldable pub trim_end : List ℕ → List ℕ
trim_end [] = []
trim_end (x ∷ l) = unless_at_end x (trim_end l)

-- "without spaces and tabs at its ends"
unfoldable pub trim : List ℕ → List ℕ
trim l = trim_end (from solid l)

-- the octets of a text at a place, n of them
unfoldable pub octets_at : List ℕ → Place → ℕ → List ℕ
octets_at l p n = take n (drop p.offset l)
