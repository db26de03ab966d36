-- A number in decimal: the digits in front of its last one are those of a tenth of it, and there are at most 20. Assumes nothing.
use Prim.Native.Nat.{ℕ, zero, suc, ◌+◌, ◌/◌, ◌%◌, ◌^◌, ◌≤◌, ◌<◌}
use Prim.Native.Char.{code}
use mathlib.Core.Path.{◌≡◌, refl, sym, ap, ◌∙◌}
use mathlib.Core.List.{List, [], ◌∷◌, ◌++◌, append_assoc}
use native.Mathlib.Omega.{arith}
use native.Mathlib.Nat.{mod-eq_of_lt, div-lt_iff_lt-mul, pow-suc, zero-lt-suc}
use lib.Dec.{ltb}
use lib.ListN.{length, length-append}
use borrow.Author.Tests.{lt-ltb, le-ltb}
use Rattle.lists.proofs.Bools.{split}
use Rattle.protocol.specs.Program.{decimal_before, decimal}

-- the last digit
abbrev pub last_digit : ℕ → ℕ
last_digit n = code "0" + n % 10

-- the list behind the digits stays behind them
digits_append : (k n : ℕ) (l : List ℕ) → decimal_before k n l ≡ decimal_before k n [] ++ l
unfolding decimal_before
digits_append zero n l = refl
digits_append (suc k) n l =
    split (ltb n 10) (λ e. rw e)
    (λ e.
    rw e
    (digits_append k (n / 10) (last_digit n ∷ l)
    ∙ sym (append_assoc (decimal_before k (n / 10) []) (last_digit n ∷ []) l)
    ∙ ap (λ (m : List ℕ). m ++ l) (sym (digits_append k (n / 10) (last_digit n ∷ [])))))

module _ (k n : ℕ) (l : List ℕ) where
  digits_last : n < 10 → decimal_before (suc k) n l ≡ (code "0" + n) ∷ l
  unfolding decimal_before
  digits_last h = rw (lt-ltb n 10 h)

  digits_on : 10 ≤ n → decimal_before (suc k) n l ≡ decimal_before k (n / 10) (last_digit n ∷ l)
  unfolding decimal_before
  digits_on h = rw (le-ltb n 10 h)

tenth : (k n : ℕ) → n < 10 ^ suc k → n / 10 < 10 ^ k
tenth k n h = (div-lt_iff_lt-mul (zero-lt-suc 9)).1 (rw (pow-suc 10 k) at h)

-- one place more changes nothing where the number needs none
digits_enough : (k n : ℕ) (l : List ℕ) → n < 10 ^ suc k → decimal_before (suc k) n l ≡ decimal_before k n l
unfolding decimal_before
digits_enough zero n l h = let less : n < 10 = h in rw (lt-ltb n 10 less, mod-eq_of_lt less)
digits_enough (suc k) n l h =
    split (ltb n 10) (λ e. rw e) (λ e. rw e (digits_enough k (n / 10) (last_digit n ∷ l) (tenth (suc k) n h)))

digits_size : (k n : ℕ) (l : List ℕ) → (length l < length (decimal_before k n l)) × (length (decimal_before k n l) ≤ suc k + length l)
unfolding decimal_before
digits_size zero n l = (omega arith, omega arith)
digits_size (suc k) n l =
    split (ltb n 10) (λ e. rw e (omega arith, omega arith))
    (λ e. let h = digits_size k (n / 10) (last_digit n ∷ l) in rw e (omega (arith, h), omega (arith, h)))

module _ (n : ℕ) where
  -- one digit alone
  pub decimal_one : n < 10 → decimal n ≡ (code "0" + n) ∷ []
  unfolding decimal
  decimal_one h = digits_last 18 n [] h

  -- several digits
  pub decimal_more : 10 ≤ n → n < 10 ^ 20 → decimal n ≡ decimal (n / 10) ++ (last_digit n ∷ [])
  unfolding decimal
  decimal_more h k =
      digits_on 18 n [] h
      ∙ sym (digits_enough 18 (n / 10) (last_digit n ∷ []) (tenth 19 n k))
      ∙ digits_append 19 (n / 10) (last_digit n ∷ [])

  pub decimal_some : 0 < length (decimal n)
  unfolding decimal
  decimal_some = (digits_size 19 n []).0

  pub decimal_size : length (decimal n) ≤ 20
  unfolding decimal
  decimal_size = (digits_size 19 n []).1

  -- with a text in front
  pub named_size : (text : List ℕ) → length (text ++ decimal n) ≤ length text + 20
  named_size text = simp length-append (omega (arith, decimal_size))

-- the digits of a number that are left, in front of a list: the last one goes over to the list
module _ (n : ℕ) (l : List ℕ) where
  pub digit_moved : 10 ≤ n → n < 10 ^ 20 → decimal (n / 10) ++ (last_digit n ∷ l) ≡ decimal n ++ l
  digit_moved h k =
      sym (append_assoc (decimal (n / 10)) (last_digit n ∷ []) l) ∙ ap (λ (m : List ℕ). m ++ l) (sym (decimal_more n h k))

  pub last_moved : n < 10 → (code "0" + n) ∷ l ≡ decimal n ++ l
  last_moved h = ap (λ (m : List ℕ). m ++ l) (sym (decimal_one n h))

-- how much room they need
pub digits_left : (n m : ℕ) (l k : List ℕ) → decimal m ++ l ≡ decimal n ++ k → length l < 20 + length k
digits_left n m l k e =
    let sizes : length (decimal m) + length l ≡ length (decimal n) + length k = simp length-append at (ap length e) in
    omega (arith, sizes, decimal_some m, decimal_size n)
