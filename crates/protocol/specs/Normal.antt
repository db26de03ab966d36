-- "Normalising", left to right over a path or a pattern. Assumes nothing.
use Rattle.std.specs.Prelude.{ℕ, zero, suc, ◌+◌, ◌*◌, ◌/◌, ◌%◌, Bool, false, ◌&&◌, ◌||◌, not, List, [], ◌∷◌, ◌++◌, leb, if◌then◌else◌}
use Prim.Native.Char.{code}
use Rattle.protocol.specs.Octets.{is, hex, hex_value, hex_digit, upper_case, unreserved}

-- ""%" and two upper-case hex digits"
unfoldable pub encoded : ℕ → List ℕ
encoded x = code "%" ∷ hex_digit (x / 16) ∷ hex_digit (x % 16) ∷ []

-- "the octet meant" by two hex digits
unfoldable pub meant : ℕ → ℕ → ℕ
meant d e = hex_value d * 16 + hex_value e

-- "if the octet meant is unreserved, that octet; otherwise "%" and the two digits in upper case"
unfoldable pub escape : ℕ → ℕ → List ℕ
escape d e = if unreserved (meant d e) then meant d e ∷ [] else code "%" ∷ upper_case d ∷ upper_case e ∷ []

-- the octet c, with l behind it, is ""%" and two hex digits"
unfoldable pub is_escape : ℕ → List ℕ → Bool
is_escape c [] = false
is_escape c (d ∷ []) = false
is_escape c (d ∷ e ∷ l) = is "%" c && hex d && hex e

unfoldable pub escape_at : List ℕ → List ℕ
escape_at [] = []
escape_at (d ∷ []) = []
escape_at (d ∷ e ∷ l) = escape d e

-- ""*" becomes %2A and "$" becomes %24"; "In a pattern "*" is a star"
unfoldable pub special : Bool → ℕ → Bool
special stars x = is "$" x || (is "*" x && not stars)

-- "any other "%": %25; an octet of 0x7F or more: "%" and two upper-case hex digits"
abbrev pub is_encoded : Bool → ℕ → Bool
is_encoded stars x = is "%" x || leb 0x7F x || special stars x

-- "anything else as it is"
unfoldable pub plain : Bool → ℕ → List ℕ
plain stars x = if is_encoded stars x then encoded x else x ∷ []

-- what stands for the octet c, with l behind it, and for the digits of its escape
unfoldable pub replacement : Bool → ℕ → List ℕ → List ℕ
replacement stars c l = if is_escape c l then escape_at l else plain stars c

-- the first n octets belong to an escape that is done
unfoldable pub normal : Bool → ℕ → List ℕ → List ℕ
normal stars n [] = []
normal stars zero (c ∷ l) = replacement stars c l ++ normal stars (if is_escape c l then 2 else 0) l
normal stars (suc n) (c ∷ l) = normal stars n l

-- a path, in which "*" is no star
unfoldable pub normal_path : List ℕ → List ℕ
normal_path path = normal false 0 path
