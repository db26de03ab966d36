-- The sorts of octets. An octet is a number below 256, and `code "a"` is the octet of the ASCII character a. Assumes nothing.
use Rattle.std.specs.Prelude.{ℕ, ◌+◌, ◌-◌, Bool, ◌&&◌, ◌||◌, leb, ltb, eqb, if◌then◌else◌}
use Prim.Native.Char.{Char, code}

-- x is one of the octets from a to b, both included
abbrev pub within : ℕ → ℕ → ℕ → Bool
within a b x = leb a x && leb x b

-- x is the octet of the character c
abbrev pub is : Char → ℕ → Bool
is c x = eqb x (code c)

unfoldable pub upper : ℕ → Bool
upper x = within (code "A") (code "Z") x

unfoldable pub lower : ℕ → Bool
lower x = within (code "a") (code "z") x

unfoldable pub digit : ℕ → Bool
digit x = within (code "0") (code "9") x

-- "A-Z a-z - _": an octet of a crawler's name, which RFC 9309 calls a product token
unfoldable pub token : ℕ → Bool
token x = upper x || lower x || is "-" x || is "_" x

-- "unreserved (A-Z a-z 0-9 - . _ ~)"
unfoldable pub unreserved : ℕ → Bool
unreserved x = upper x || lower x || digit x || is "-" x || is "." x || is "_" x || is "~" x

-- a "hex digit", in either case
unfoldable pub hex : ℕ → Bool
hex x = digit x || within (code "A") (code "F") x || within (code "a") (code "f") x

-- "Spaces and tabs"
unfoldable pub blank : ℕ → Bool
blank x = is " " x || is "\t" x

-- CR and LF
unfoldable pub line_end : ℕ → Bool
line_end x = is "\r" x || is "\n" x

-- "ignoring ASCII case": an upper-case letter as its lower-case one
unfoldable pub lower_case : ℕ → ℕ
lower_case x = if upper x then x + 32 else x

-- "the two digits in upper case"
unfoldable pub upper_case : ℕ → ℕ
upper_case x = if lower x then x - 32 else x

-- the number below 16 that a hex digit stands for
unfoldable pub hex_value : ℕ → ℕ
hex_value x = if digit x then x - code "0" else lower_case x - code "a" + 10

-- the upper-case hex digit of a number below 16
unfoldable pub hex_digit : ℕ → ℕ
hex_digit n = if ltb n 10 then code "0" + n else code "A" + (n - 10)
