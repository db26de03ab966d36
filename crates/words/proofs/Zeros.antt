-- The zeros below a number's lowest digit that is set, counted by whole octets. Assumes nothing.
use Prim.Native.Nat.{ℕ, zero, suc, ◌+◌, ◌*◌, ◌/◌, ◌%◌, ◌^◌, ◌<◌}
use mathlib.Core.Path.{◌≡◌, refl, sym, ap, ◌∙◌}
use mathlib.Core.Bool.{not}
use native.Mathlib.Omega.{arith}
use native.Mathlib.Nat.{pow-suc, zero-lt-suc}
use lib.Dec.{eqb}
use lib.ListN.{length}
use lib.Arith.{mod-mul}
use lib.Pow.{pow_pos, shr-shr}
use lib.Count.{count_trailing_zeros, under, trailing_le}
use borrow.Author.Tests.{eqb-true, eqb-false}
use Rattle.lists.specs.Lists.{up_to}
use Rattle.lists.proofs.Bools.{split}
use Rattle.lists.proofs.Parts.{up_to_stop, up_to_on}
use Rattle.words.specs.Words.{octets_of, marked}

-- j digits more than k
sucs : ℕ → ℕ → ℕ
sucs zero k = k
sucs (suc j) k = suc (sucs j k)

-- the lowest digit, and the j digits above it
lowest : (j m : ℕ) → m % 2 ^ suc j ≡ (m / 2 % 2 ^ j) * 2 + m % 2
lowest j m = ap (λ (k : ℕ). m % k) (pow-suc 2 j) ∙ mod-mul m (pow_pos j) (zero-lt-suc 1)

under_clear : (d t : ℕ) → d ≡ 0 → under d t ≡ suc t
under_clear d t e = rw e

under_set : (d t j : ℕ) → (d ≡ 0 → t < j) → under d t < suc j
under_set zero t j h = omega (arith, h refl)
under_set (suc d) t j h = omega arith

-- none of the j lowest digits is set
clear : (j k m : ℕ) → m % 2 ^ j ≡ 0 → count_trailing_zeros (sucs j k) m ≡ j + count_trailing_zeros k (m / 2 ^ j)
unfolding sucs count_trailing_zeros
clear zero k m h = let e : m / 1 ≡ m = omega arith in omega (arith, ap (count_trailing_zeros k) e)
clear (suc j) k m h =
    let z : (m / 2 % 2 ^ j) * 2 + m % 2 ≡ 0 = sym (lowest j m) ∙ h in
    let e : m / 2 / 2 ^ j ≡ m / 2 ^ suc j = shr-shr m 1 j ∙ ap (λ (i : ℕ). m / 2 ^ i) (omega arith) in
    omega (
      arith,
      under_clear (m % 2) (count_trailing_zeros (sucs j k) (m / 2)) (omega arith),
      clear j k (m / 2) (omega arith),
      ap (count_trailing_zeros k) e,
    )

-- one of them is
some : (j k m : ℕ) → (m % 2 ^ j ≡ 0 → ⊥) → count_trailing_zeros (sucs j k) m < j
unfolding sucs count_trailing_zeros
some zero k m h = absurd (h (omega arith))
some (suc j) k m h =
    under_set (m % 2) (count_trailing_zeros (sucs j k) (m / 2)) j
    (λ d. some j k (m / 2) (λ e. h (lowest j m ∙ omega arith)))

-- the digits of n octets
digits : ℕ → ℕ
digits zero = 0
digits (suc n) = sucs 8 (digits n)

first_octet : (n m : ℕ) → count_trailing_zeros (digits n) m / 8 ≡ length (up_to marked (octets_of n m))
unfolding digits octets_of up_to
first_octet zero m = omega (arith, trailing_le 0 m)
first_octet (suc n) m =
    split (eqb (m % 256) 0)
    (λ e.
    let skipped = clear 8 (digits n) m (eqb-true (m % 256) 0 e) in
    rw (up_to_on marked (m % 256) (octets_of n (m / 256)) (ap not e)) (omega (arith, skipped, first_octet n (m / 256))))
    (λ e.
    let stopped = some 8 (digits n) m (eqb-false (m % 256) 0 e) in
    rw (up_to_stop marked (m % 256) (octets_of n (m / 256)) (ap not e)) (omega arith))

pub first_of_eight : (m : ℕ) → count_trailing_zeros 64 m / 8 ≡ length (up_to marked (octets_of 8 m))
unfolding digits sucs
first_of_eight m = first_octet 8 m
