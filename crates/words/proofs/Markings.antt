-- Marks in the place of octets: which octets get one, where the first stands, and where there is none. Assumes nothing.
use Rattle.std.specs.Prelude.{if◌then◌else◌}
use Prim.Native.Nat.{ℕ, zero, suc, ◌+◌, ◌-◌, ◌*◌, ◌/◌, ◌%◌, ◌^◌, ◌≤◌, ◌<◌, max}
use mathlib.Core.Path.{◌≡◌, refl, ap, ◌∙◌}
use mathlib.Core.Bool.{Bool, true, false, not, ◌||◌, true≢false}
use mathlib.Core.Logic.{◌↔◌}
use mathlib.Core.List.{List, [], ◌∷◌, map}
use native.Mathlib.Omega.{arith}
use lib.Dec.{leb}
use lib.ListN.{length}
use lib.Bits.{bit_and, bit_or, bit_xor, and_le_r, and_mask, and_high, or_shr, xor_shr}
use borrow.Author.Tests.{leb-true, leb-false}
use Rattle.lists.specs.Lists.{any, up_to}
use Rattle.lists.proofs.Bools.{split}
use Rattle.lists.proofs.Parts.{up_to_stop, up_to_on}
use Rattle.protocol.specs.Octets.{within}
use Rattle.words.specs.Words.{octets_of, among, mark, marked}
use Rattle.words.proofs.Words.{repeated, octets_repeated, Each, each_self, each_and, each_or, each_xor, each_sum, each_as}

mark_seen : (b : Bool) → marked (if b then 128 else 0) ≡ b
mark_seen true = refl
mark_seen false = refl

-- the first mark stands where the first octet stands that passes the test
pub first_marked : (f : ℕ → Bool) (l : List ℕ) → length (up_to marked (map (mark f) l)) ≡ length (up_to f l)
unfolding up_to
first_marked f [] = refl
first_marked f (x ∷ l) =
    split (f x)
    (λ e. rw (up_to_stop marked (mark f x) (map (mark f) l) (mark_seen (f x) ∙ e), up_to_stop f x l e))
    (λ e. rw (up_to_on marked (mark f x) (map (mark f) l) (mark_seen (f x) ∙ e), up_to_on f x l e) (ap suc (first_marked f l)))

-- the same of a word of marks for the octets of another word
pub first_found : (f : ℕ → Bool) (n w m : ℕ) (l : List ℕ) → octets_of n w ≡ l → Each n w (mark f) m
    → length (up_to marked (octets_of n m)) ≡ length (up_to f l)
first_found f n w m l e h = ap (λ (k : List ℕ). length (up_to marked k)) (h ∙ ap (map (mark f)) e) ∙ first_marked f l

-- a word of marks is 0 exactly where no octet passes the test
pub no_marks : (f : ℕ → Bool) (n m : ℕ) (l : List ℕ) → m < 256 ^ n → octets_of n m ≡ map (mark f) l → (m ≡ 0) ↔ (any f l ≡ false)
unfolding octets_of any
no_marks f zero m [] h e = (λ z. refl, λ a. omega arith)
no_marks f zero m (x ∷ l) h e = let z : ◌≡◌ {A = ℕ} 0 1 = cc in absurd (omega arith)
no_marks f (suc n) m [] h e = let z : ◌≡◌ {A = ℕ} 0 1 = cc in absurd (omega arith)
no_marks f (suc n) m (x ∷ l) h e =
    let here : m % 256 ≡ mark f x = cc in
    let others : octets_of n (m / 256) ≡ map (mark f) l = cc in
    let rest = no_marks f n (m / 256) l (omega arith) others in
    split (f x)
    (λ p. let k : m % 256 ≡ 128 = rw p at here in (λ z. absurd (omega arith), λ a. absurd (true≢false (rw p at a))))
    (λ p. let k : m % 256 ≡ 0 = rw p at here in (λ z. rw p (rest.0 (omega arith)), λ a. omega (arith, rest.1 (rw p at a))))

-- one digit
or_digits : (a b : ℕ) → a < 2 → b < 2 → bit_or a b ≡ max a b
or_digits zero b ha hb = omega arith
or_digits (suc zero) zero ha hb = refl
or_digits (suc zero) (suc zero) ha hb = refl
or_digits (suc zero) (suc (suc b)) ha hb = absurd (omega arith)
or_digits (suc (suc a)) b ha hb = absurd (omega arith)

xor_digit : (a : ℕ) → a < 2 → bit_xor a 1 ≡ 1 - a
xor_digit zero h = refl
xor_digit (suc zero) h = refl
xor_digit (suc (suc a)) h = absurd (omega arith)

-- what the highest digits of the octets u, v and x come to
highest : (u v x : ℕ) → u < 256 → v < 256 → x < 256
    → bit_and (bit_or (bit_or (bit_xor u 128) v) x) 128 ≡ max (max (1 - u / 128) (v / 128)) (x / 128) * 128
highest u v x hu hv hx =
    let flipped = xor_shr u 128 7 ∙ xor_digit (u / 128) (omega arith) in
    let two = or_shr (bit_xor u 128) v 7 ∙ ap (λ (k : ℕ). bit_or k (v / 128)) flipped ∙ or_digits (1 - u / 128) (v / 128) (omega arith) (omega arith) in
    let three : bit_or (bit_or (bit_xor u 128) v) x / 128 ≡ max (max (1 - u / 128) (v / 128)) (x / 128)
    = or_shr (bit_or (bit_xor u 128) v) x 7
    ∙ ap (λ (k : ℕ). bit_or k (x / 128)) two
    ∙ or_digits (max (1 - u / 128) (v / 128)) (x / 128) (omega arith) (omega arith) in
    and_high (bit_or (bit_or (bit_xor u 128) v) x) 1 7 ∙ rw three (omega arith)

-- one octet of `outside`
module _ (low high : ℕ) (hl : low ≤ 128) (hh : high ≤ 127) where
  abbrev outside_of : ℕ → ℕ
  outside_of x = bit_and (bit_or (bit_or (bit_xor (bit_and x 127 + (128 - low)) 128) (bit_and x 127 + (127 - high))) x) 128

  outside_marks : (x : ℕ) → x < 256 → outside_of x ≡ mark (among low high false) x
  outside_marks x h =
      let m : bit_and x 127 ≡ x % 128 = and_mask x 7 in
      let whole = highest (bit_and x 127 + (128 - low)) (bit_and x 127 + (127 - high)) x (omega arith) (omega arith) h in
      split (leb low x)
      (λ p.
      let at_least_lem = leb-true low x p in
      split (leb x high) (λ q. let at_most = leb-true x high q in rw (p, q) (whole ∙ omega arith))
      (λ q. let over = leb-false x high q in rw (p, q) (whole ∙ omega arith)))
      (λ p. let under = leb-false low x p in rw p (whole ∙ omega arith))

  -- each octet of a word
  pub outside_word : (n w : ℕ)
      → Each n w (mark (among low high false))
      (bit_and
      (bit_or
      (bit_or (bit_xor (bit_and w (repeated 127 n) + repeated (128 - low) n) (repeated 128 n)) (bit_and w (repeated 127 n) + repeated (127 - high) n))
      w)
      (repeated 128 n))
  outside_word n w =
      let top = octets_repeated 128 n w (omega arith) in
      let front = each_and n w (λ x. x) (λ x. 127) w (repeated 127 n) (each_self n w) (octets_repeated 127 n w (omega arith)) in
      let sum : (c : ℕ) → c ≤ 128 → Each n w (λ x. bit_and x 127 + c) (bit_and w (repeated 127 n) + repeated c n)
      = λ c k.
      each_sum n w (λ x. bit_and x 127) (λ x. c) (bit_and w (repeated 127 n)) (repeated c n) (λ x h. omega (arith, and_le_r x 127)) front
      (octets_repeated c n w (omega arith)) in
      let flipped = each_xor n w (λ x. bit_and x 127 + (128 - low)) (λ x. 128) _ (repeated 128 n) (sum (128 - low) (omega arith)) top in
      let two = each_or n w (λ x. bit_xor (bit_and x 127 + (128 - low)) 128) (λ x. bit_and x 127 + (127 - high)) _ _ flipped (sum (127 - high) (omega arith)) in
      let three = each_or n w (λ x. bit_or (bit_xor (bit_and x 127 + (128 - low)) 128) (bit_and x 127 + (127 - high))) (λ x. x) _ w two (each_self n w) in
      each_and n w _ (λ x. 128) _ (repeated 128 n) three top ∙ each_as n w outside_of (mark (among low high false)) outside_marks

-- the same as the code computes it
pub outside_known : (w low high a b : ℕ) → low ≤ 128 → high ≤ 127 → a ≡ 128 - low → b ≡ 127 - high
    → octets_of 8
    (bit_and
    (bit_or
    (bit_or (bit_xor (bit_and w 0x7F7F_7F7F_7F7F_7F7F + 0x0101_0101_0101_0101 * a) 0x8080_8080_8080_8080)
    (bit_and w 0x7F7F_7F7F_7F7F_7F7F + 0x0101_0101_0101_0101 * b)) w)
    0x8080_8080_8080_8080)
    ≡ map (mark (among low high false)) (octets_of 8 w)
unfolding repeated
outside_known w low high a b hl hh p q =
    let under : 0x0101_0101_0101_0101 * a ≡ repeated (128 - low) 8 = omega arith in
    let over : 0x0101_0101_0101_0101 * b ≡ repeated (127 - high) 8 = omega arith in
    rw (under, over) (outside_word low high hl hh 8 w)

turned : (b : Bool) → bit_xor (if not b then 128 else 0) 128 ≡ (if b then 128 else 0)
turned true = refl
turned false = refl

-- marks for the octets that fail a test, turned over
pub turned_marks : (f : ℕ → Bool) (n w m : ℕ) → Each n w (mark (λ x. not (f x))) m → Each n w (mark f) (bit_xor m (repeated 128 n))
turned_marks f n w m h =
    each_xor n w (mark (λ x. not (f x))) (λ x. 128) m (repeated 128 n) h (octets_repeated 128 n w (omega arith))
    ∙ each_as n w (λ x. bit_xor (mark (λ y. not (f y)) x) 128) (mark f) (λ x k. turned (f x))

pub inside_known : (w low high m : ℕ) (inside : Bool) → inside ≡ true → octets_of 8 m ≡ map (mark (among low high false)) (octets_of 8 w)
    → octets_of 8 (bit_xor m 0x8080_8080_8080_8080) ≡ map (mark (among low high inside)) (octets_of 8 w)
unfolding repeated
inside_known w low high m inside e h = rw e (turned_marks (within low high) 8 w m h)

-- marks for one test, and for another
either : (a b : Bool) → bit_or (if a then 128 else 0) (if b then 128 else 0) ≡ (if a || b then 128 else 0)
either true true = refl
either true false = refl
either false true = refl
either false false = refl

pub either_marks : (f g : ℕ → Bool) (n w a b : ℕ) → Each n w (mark f) a → Each n w (mark g) b → Each n w (mark (λ x. f x || g x)) (bit_or a b)
either_marks f g n w a b p q =
    each_or n w (mark f) (mark g) a b p q
    ∙ each_as n w (λ x. bit_or (mark f x) (mark g x)) (mark (λ x. f x || g x)) (λ x k. either (f x) (g x))
