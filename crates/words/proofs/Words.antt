-- The octets of a word: they tell it, and bit operations and sums work on each of them apart. Assumes nothing.
use Prim.Native.Nat.{ℕ, zero, suc, ◌+◌, ◌*◌, ◌/◌, ◌%◌, ◌^◌, ◌≤◌, ◌<◌}
use mathlib.Core.Path.{◌≡◌, refl, sym, ap, ap₂, ◌∙◌}
use mathlib.Core.List.{List, [], ◌∷◌, map, zip_with}
use native.Mathlib.Omega.{arith}
use native.Mathlib.Nat.{div-div-eq-div-mul, pow-suc}
use lib.ListN.{length, take, drop, get_or, length-take}
use lib.Seq.{get_or-take, get_or-drop}
use Rattle.std.proofs.lemmas.List.{get_or_past}
use lib.Dec.{ltb}
use borrow.Author.Tests.{ltb-true, ltb-false}
use Rattle.lists.proofs.Bools.{split}
use Rattle.lists.proofs.Scans.{drop_one}
use lib.Bits.{bit_and, bit_or, bit_xor, and_shr, and_mod, or_shr, or_mod, xor_shr, xor_mod}
use Rattle.std.specs.Int.{w64, bytes_low_first, from_le_bytes}
use Rattle.std.proofs.lemmas.Nat.{le_bytes_8}
use Rattle.words.specs.Words.{octets_of}

-- words of the same octets are the same
pub same_word : (n a b : ℕ) → octets_of n a ≡ octets_of n b → a < 256 ^ n → b < 256 ^ n → a ≡ b
unfolding octets_of
same_word zero a b e ha hb = omega arith
same_word (suc n) a b e ha hb =
    let first : a % 256 ≡ b % 256 = cc in
    let others : octets_of n (a / 256) ≡ octets_of n (b / 256) = cc in
    omega (arith, same_word n (a / 256) (b / 256) others (omega arith) (omega arith))

module _ (op : ℕ → ℕ → ℕ)
    (shr : (a b k : ℕ) → op a b / 2 ^ k ≡ op (a / 2 ^ k) (b / 2 ^ k))
    (rem : (a b k : ℕ) → op a b % 2 ^ k ≡ op (a % 2 ^ k) (b % 2 ^ k)) where
  octets_op : (n a b : ℕ) → octets_of n (op a b) ≡ zip_with op (octets_of n a) (octets_of n b)
  unfolding octets_of zip_with
  octets_op zero a b = refl
  octets_op (suc n) a b = ap₂ ◌∷◌ (rem a b 8) (ap (octets_of n) (shr a b 8) ∙ octets_op n (a / 256) (b / 256))

-- a bit operation works on each octet apart
pub octets_and : (n a b : ℕ) → octets_of n (bit_and a b) ≡ zip_with bit_and (octets_of n a) (octets_of n b)
octets_and = octets_op bit_and and_shr and_mod

pub octets_or : (n a b : ℕ) → octets_of n (bit_or a b) ≡ zip_with bit_or (octets_of n a) (octets_of n b)
octets_or = octets_op bit_or or_shr or_mod

pub octets_xor : (n a b : ℕ) → octets_of n (bit_xor a b) ≡ zip_with bit_xor (octets_of n a) (octets_of n b)
octets_xor = octets_op bit_xor xor_shr xor_mod

-- c in the place of each of n octets
unfoldable pub repeated : ℕ → ℕ → ℕ
repeated c zero = 0
repeated c (suc n) = repeated c n * 256 + c

pub octets_repeated : (c n w : ℕ) → c < 256 → octets_of n (repeated c n) ≡ map (λ (x : ℕ). c) (octets_of n w)
unfolding octets_of repeated
octets_repeated c zero w h = refl
octets_repeated c (suc n) w h =
    ap₂ ◌∷◌ (omega arith) (ap (octets_of n) (omega arith) ∙ octets_repeated c n (w / 256) h)

zip_maps : (op : ℕ → ℕ → ℕ) (f g : ℕ → ℕ) (l : List ℕ) → zip_with op (map f l) (map g l) ≡ map (λ x. op (f x) (g x)) l
unfolding zip_with
zip_maps op f g [] = refl
zip_maps op f g (x ∷ l) = ap (λ (m : List ℕ). op (f x) (g x) ∷ m) (zip_maps op f g l)

map_self : (l : List ℕ) → l ≡ map (λ (x : ℕ). x) l
map_self [] = refl
map_self (x ∷ l) = ap (λ (m : List ℕ). x ∷ m) (map_self l)

-- r has in the place of each octet x of w the octet f x
abbrev pub Each : ℕ → ℕ → (ℕ → ℕ) → ℕ → Type 0
Each n w f r = octets_of n r ≡ map f (octets_of n w)

module _ (n w : ℕ) where
  pub each_self : Each n w (λ x. x) w
  each_self = map_self (octets_of n w)

  module _ (f g : ℕ → ℕ) (a b : ℕ) (p : Each n w f a) (q : Each n w g b) where
    pub each_and : Each n w (λ x. bit_and (f x) (g x)) (bit_and a b)
    each_and = octets_and n a b ∙ ap₂ (zip_with bit_and) p q ∙ zip_maps bit_and f g (octets_of n w)

    pub each_or : Each n w (λ x. bit_or (f x) (g x)) (bit_or a b)
    each_or = octets_or n a b ∙ ap₂ (zip_with bit_or) p q ∙ zip_maps bit_or f g (octets_of n w)

    pub each_xor : Each n w (λ x. bit_xor (f x) (g x)) (bit_xor a b)
    each_xor = octets_xor n a b ∙ ap₂ (zip_with bit_xor) p q ∙ zip_maps bit_xor f g (octets_of n w)

-- a sum of octets that stays under 256 leaves the next octet alone
pub each_sum : (n w : ℕ) (f g : ℕ → ℕ) (a b : ℕ) → ((x : ℕ) → x < 256 → f x + g x < 256) → Each n w f a → Each n w g b
    → Each n w (λ x. f x + g x) (a + b)
unfolding octets_of
each_sum zero w f g a b h p q = refl
each_sum (suc n) w f g a b h p q =
    let pf : a % 256 ≡ f (w % 256) = cc in
    let qf : b % 256 ≡ g (w % 256) = cc in
    let po : Each n (w / 256) f (a / 256) = cc in
    let qo : Each n (w / 256) g (b / 256) = cc in
    let small = h (w % 256) (omega arith) in
    ap₂ ◌∷◌ (omega arith) (ap (octets_of n) (omega arith) ∙ each_sum n (w / 256) f g (a / 256) (b / 256) h po qo)

-- what is the same for each octet
pub each_as : (n w : ℕ) (f g : ℕ → ℕ) → ((x : ℕ) → x < 256 → f x ≡ g x) → map f (octets_of n w) ≡ map g (octets_of n w)
unfolding octets_of
each_as zero w f g h = refl
each_as (suc n) w f g h = ap₂ ◌∷◌ (h (w % 256) (omega arith)) (each_as n (w / 256) f g h)

next_octet : (i w : ℕ) → w / 256 ^ i / 256 ≡ w / 256 ^ suc i
next_octet i w = div-div-eq-div-mul w (256 ^ i) 256 ∙ ap (λ (k : ℕ). w / k) (omega (arith, pow-suc 256 i))

-- the octets of a number, as the library counts them
octets_low : (n i w : ℕ) → octets_of n (w / 256 ^ i) ≡ bytes_low_first i n w
unfolding octets_of
octets_low zero i w = refl
octets_low (suc n) zero w = ap₂ ◌∷◌ (omega arith) (ap (octets_of n) (omega arith) ∙ octets_low n 1 w)
octets_low (suc n) (suc i) w = ap₂ ◌∷◌ refl (ap (octets_of n) (next_octet (suc i) w) ∙ octets_low n (suc (suc i)) w)

-- eight octets make a word of them
pub octets_read : (l : List ℕ) (w : ℕ) → length l ≡ 8 → ((i : ℕ) → get_or l i 0 < 256) → w ≡ from_le_bytes w64 l → octets_of 8 w ≡ l
octets_read l w h small e = ap (octets_of 8) (omega arith) ∙ octets_low 8 0 w ∙ le_bytes_8 l w h small e

-- the octets of a part of a text
pub octets_fit : (s : List ℕ) (n at : ℕ) → ((i : ℕ) → get_or s i 0 < 256) → (i : ℕ) → get_or (take n (drop at s)) i 0 < 256
octets_fit s n at small i =
    split (ltb i n) (λ p. rw (get_or-take n (drop at s) i 0 (ltb-true i n p), get_or-drop) (small _))
    (λ p. rw (get_or_past (take n (drop at s)) i 0 (omega (arith, ltb-false i n p, length-take n (drop at s)))) (omega arith))

-- n octets of a text from the index at + k on, each read by its index
read : List ℕ → ℕ → ℕ → ℕ → List ℕ
read s at k zero = []
read s at k (suc n) = get_or s (at + k) 0 ∷ read s at (suc k) n

module _ (s : List ℕ) (at : ℕ) where
  read_all : (n k : ℕ) → at + k + n ≤ length s → read s at k n ≡ take n (drop (at + k) s)
  unfolding read
  read_all zero k h = refl
  read_all (suc n) k h =
      let next : at + suc k ≡ at + k + 1 = omega arith in
      rw (drop_one s (at + k) 0 (omega arith))
      (ap (λ (l : List ℕ). get_or s (at + k) 0 ∷ l) (read_all n (suc k) (omega arith) ∙ ap (λ (i : ℕ). take n (drop i s)) next))

  abbrev eight : List ℕ
  eight =
      get_or s at 0
      ∷ get_or s (at + 1) 0
      ∷ get_or s (at + 2) 0
      ∷ get_or s (at + 3) 0
      ∷ get_or s (at + 4) 0
      ∷ get_or s (at + 5) 0
      ∷ get_or s (at + 6) 0
      ∷ get_or s (at + 7) 0
      ∷ []

  -- the word of eight
  pub word_read : (w : ℕ) → at + 8 ≤ length s → ((i : ℕ) → get_or s i 0 < 256) → w ≡ from_le_bytes w64 eight → octets_of 8 w ≡ take 8 (drop at s)
  unfolding read
  word_read w h small e =
      let here : at + 0 ≡ at = omega arith in
      let whole : eight ≡ take 8 (drop at s) = rw here at (read_all 8 0 (omega arith)) in
      octets_read (take 8 (drop at s)) w (sym (ap length whole)) (octets_fit s 8 at small) (e ∙ ap (from_le_bytes w64) whole)

-- the n octets of a text from the index at + k on, as one number
unfoldable pub word_at : List ℕ → ℕ → ℕ → ℕ → ℕ
word_at s at k zero = 0
word_at s at k (suc n) = word_at s at (suc k) n * 256 + get_or s (at + k) 0

module _ (s : List ℕ) (at : ℕ) (octet : (i : ℕ) → get_or s i 0 < 256) where
  pub octets_at_lem : (n k : ℕ) → at + k + n ≤ length s → octets_of n (word_at s at k n) ≡ take n (drop (at + k) s)
  unfolding octets_of word_at
  octets_at_lem zero k h = refl
  octets_at_lem (suc n) k h =
      let known = octet (at + k) in
      let next : at + suc k ≡ at + k + 1 = omega arith in
      rw (drop_one s (at + k) 0 (omega arith))
      (ap₂ ◌∷◌ (omega arith)
      (ap (octets_of n) (omega arith) ∙ octets_at_lem n (suc k) (omega arith) ∙ ap (λ (i : ℕ). take n (drop i s)) next))
