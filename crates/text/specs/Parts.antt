-- Sorts of octets that a text is searched for, and where the first of a sort stands. Assumes nothing.
use Rattle.std.specs.Prelude.{ℕ, Bool, false, not, List, [], ◌∷◌, eqb, length, drop, if◌then◌else◌}
use Rattle.lists.specs.Lists.{up_to}
use Rattle.protocol.specs.declared.Place.{Place}
use Rattle.protocol.specs.declared.Sort.{Sort}
use Rattle.protocol.specs.Classes.{is_of}
use Rattle.protocol.specs.Lines.{place_after}

-- y is the octet x
abbrev pub equals : ℕ → ℕ → Bool
equals x y = eqb y x

-- a text begins with an octet that passes the test
abbrev pub opens : (ℕ → Bool) → List ℕ → Bool
opens f [] = false
opens f (x ∷ l) = f x

-- the place of the first octet from p on that passes the test, or the text's end
abbrev pub first_from : (ℕ → Bool) → List ℕ → Place → Place
first_from f s p = place_after p (length (up_to f (drop p.offset s)))

-- x is of the sort; where `inside` is false, it isn't
abbrev pub sought : Sort → Bool → ℕ → Bool
sought s inside x = if inside then is_of s x else not (is_of s x)
