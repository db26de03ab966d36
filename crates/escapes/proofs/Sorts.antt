-- Facts about the octets that are normalised, shown for all of them at once. Assumes nothing.
use Rattle.std.specs.Prelude.{if◌then◌else◌}
use Prim.Native.Nat.{ℕ, ◌/◌, ◌%◌, ◌≤◌, ◌<◌}
use mathlib.Core.Path.{◌≡◌, refl, ◌∙◌}
use mathlib.Core.Bool.{true, false, false≢true}
use native.Mathlib.Omega.{arith}
use lib.Dec.{leb, ltb}
use borrow.Author.Tests.{ltb-true, ltb-false, leb-true, le-leb, lt-leb}
use Rattle.lists.specs.Lists.{numbers_from}
use Rattle.lists.proofs.Bools.{split, and_right}
use Rattle.protocol.specs.Octets.{upper, lower, digit, unreserved, hex, lower_case, upper_case, hex_value, hex_digit}
use Rattle.protocol.specs.Normal.{encoded, meant, escape}
use Rattle.protocol.specs.Classes.{class_of}
use Rattle.protocol.specs.declared.Sort.{Sort}
use Rattle.protocol.proofs.Classes.{sort_told, value_told_lem}
use Rattle.octets.proofs.Every.{every_octet_lem}

module _ (x : ℕ) (h : hex x ≡ true) where
  -- every hex digit is an octet
  hex_octet : x < 256
  unfolding hex digit
  hex_octet =
      split (ltb x 256) (λ e. ltb-true x 256 e)
      (λ e.
      let k : 256 ≤ x = ltb-false x 256 e in
      absurd
      (false≢true
      (rw (le-leb 48 x (omega arith), lt-leb x 57 (omega arith), le-leb 65 x (omega arith), lt-leb x 70 (omega arith), le-leb 97 x (omega arith), lt-leb x 102 (omega arith)) at h)))

  -- its class number is the number that it stands for
  pub hex_class : (class_of x ≡ hex_value x) × (hex_value x < 16)
  hex_class =
      let told : class_of x ≡ hex_value x = value_told_lem x hex_octet h in
      (told, omega (arith, leb-true (class_of x) 15 (and_right (leb 0 (class_of x)) (leb (class_of x) 15) (sort_told x hex_octet Sort.Hex ∙ h))))

  -- and is written as the digit in upper case
  pub upper_digit : upper_case x ≡ hex_digit (hex_value x)
  unfolding numbers_from hex digit upper_case lower hex_digit hex_value lower_case upper
  upper_digit =
      rw h at (every_octet_lem (λ y. if hex y then upper_case y else 0) (λ y. if hex y then hex_digit (hex_value y) else 0) refl x hex_octet)

-- an escape that isn't decoded is the octet meant, encoded
pub escape_encoded : (d e : ℕ) → hex d ≡ true → hex e ≡ true → unreserved (meant d e) ≡ false → escape d e ≡ encoded (meant d e)
unfolding escape encoded meant
escape_encoded d e h k u =
    let high : meant d e / 16 ≡ hex_value d = omega (arith, hex_class e k) in
    let low : meant d e % 16 ≡ hex_value e = omega (arith, hex_class e k) in
    rw (u, high, low, upper_digit d h, upper_digit e k)
