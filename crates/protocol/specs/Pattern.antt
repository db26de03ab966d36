-- What a raw pattern stands for: octets and stars, perhaps an end mark; and its weight and its runs. Assumes nothing.
use Rattle.std.specs.Prelude.{ℕ, ◌+◌, Bool, true, false, length, if◌then◌else◌}
use mathlib.Core.List.{List, [], ◌∷◌, ◌++◌, drop_last}
use Rattle.lists.specs.Choice.{one_if}
use Rattle.lists.specs.Lists.{up_to}
use Rattle.protocol.specs.declared.Dialect.{Dialect}
use Rattle.protocol.specs.Octets.{is}
use Rattle.protocol.specs.Text.{ends}
use Rattle.protocol.specs.Normal.{normal, normal_path}

-- a normalised pattern without its end mark, in which "*" is a star, and whether it has an end mark
pub record Shape : Type 0 where
  pub text : List ℕ
  pub end_mark : Bool

-- "a "$" as its last raw octet is the end mark": the raw pattern without it
unfoldable pub raw_text : List ℕ → List ℕ
raw_text raw = if ends "$" raw then drop_last raw else raw

-- "and the part before it is normalised by itself"
unfoldable pub shape_of : List ℕ → Shape
shape_of raw = record { text = normal true 0 (raw_text raw); end_mark = ends "$" raw }

-- M-113, in the draft's dialect: "star and dollar in a pattern are plain octets, normalised as in a path", and it has no end mark
abbrev pub plain_shape : List ℕ → Shape
plain_shape raw = record { text = normal_path raw; end_mark = false }

-- The first of the two things that a dialect chooses: how a raw pattern becomes a shape
unfoldable pub shape_in : Dialect → List ℕ → Shape
shape_in Dialect.Rfc9309 raw = shape_of raw
shape_in Dialect.Draft1996 raw = plain_shape raw

-- The weight, document 01's own term: "A pattern's weight is its normalised octets, with one for each star and one for the end mark"
unfoldable pub weight : Shape → ℕ
weight s = length s.text + one_if s.end_mark

abbrev pub is_star : ℕ → Bool
is_star x = is "*" x

-- The runs, document 01's own term: "cut it at its stars into runs, some perhaps empty". The first run
unfoldable pub first_run : List ℕ → List ℕ
first_run text = up_to is_star text

-- and the later runs, one behind each star
unfoldable pub later_runs : List ℕ → List (List ℕ)
later_runs [] = []
later_runs (c ∷ text) = (if is_star c then first_run text ∷ [] else []) ++ later_runs text

-- all of them, the first one first
abbrev pub runs : Shape → List (List ℕ)
runs s = first_run s.text ∷ later_runs s.text
