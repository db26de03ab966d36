-- What a replacement is to be: the octets that it holds, and the octets of the raw text that it takes. Assumes nothing.
use Rattle.std.specs.Prelude.{ℕ, Bool, not, ◌&&◌, List, [], ◌∷◌, length, get_or, leb, Option, Some, None, if◌then◌else◌}
use Rattle.protocol.specs.Octets.{is, hex}
use Rattle.protocol.specs.Normal.{meant, encoded, is_escape, escape_at, is_encoded}
use Rattle.escapes.specs.declared.Replacement.{Replacement}
use Rattle.escapes.specs.declared.Replacement.TheVariants.{Octet, Escape}

-- "anything else as it is"
abbrev pub kept : Bool → ℕ → Bool
kept stars x = not (is_encoded stars x)

-- the octets of a replacement
abbrev pub octets_of : Replacement → List ℕ
octets_of (Octet x) = x ∷ []
octets_of (Escape e) = e

-- the octets that stand for the octet c, with l behind it: the whole of an escape, or c alone
abbrev pub taken : ℕ → List ℕ → ℕ
taken c l = if is_escape c l then 3 else 1

-- the octets for the octet c, with l behind it, where c doesn't stay as it is
abbrev pub changed : ℕ → List ℕ → List ℕ
changed c l = if is_escape c l then escape_at l else encoded c

-- the octet meant by an escape at the front of a text
abbrev pub meant_by : List ℕ → Option ℕ
meant_by s =
    if leb 3 (length s) && is "%" (get_or s 0 0) && hex (get_or s 1 0) && hex (get_or s 2 0) then Some (meant (get_or s 1 0) (get_or s 2 0)) else None
