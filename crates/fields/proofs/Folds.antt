-- A field's name that a text begins with, eight octets at a time: all are compared with the bit 32 set. Assumes nothing.
use Prim.Native.Nat.{ℕ, zero, suc, ◌+◌, ◌-◌, ◌/◌, ◌%◌, ◌^◌, ◌≤◌, ◌<◌}
use Prim.Native.Char.{code}
use mathlib.Core.Path.{◌≡◌, refl, sym, ap, ap₂, ◌∙◌}
use mathlib.Core.Bool.{Bool, true, false, ◌&&◌, ◌||◌, and-true, and-false, and_assoc}
use mathlib.Core.List.{List, [], ◌∷◌, ◌++◌, map, tail, zip_with}
use native.Mathlib.Omega.{arith}
use lib.Bits.{bit_and, bit_or, and_zero_r, and_le_r}
use lib.Dec.{eqb}
use lib.ListN.{length, take, drop, get_or, replicate, length-take, take-append-drop}
use lib.Seq.{take_all, take-append-le, length-take-le}
use borrow.Author.Tests.{eqb-true, eqb-false}
use Rattle.lists.specs.Lists.{numbers_from, same}
use Rattle.lists.proofs.Bools.{split}
use Rattle.lists.proofs.Scans.{drop_one}
use Rattle.lists.proofs.Tests.{same_equal}
use Rattle.octets.proofs.Every.{every_octet_lem}
use Rattle.protocol.specs.declared.Side.{Side}
use Rattle.protocol.specs.Octets.{within, upper, lower_case}
use Rattle.protocol.specs.Text.{octets, same_ignoring_case}
use Rattle.words.specs.Words.{octets_of}
use Rattle.words.proofs.Words.{same_word, octets_and, repeated, octets_repeated, each_self, each_or}
use Rattle.fields.specs.declared.Field.{Field}
use Rattle.fields.specs.Names.{name_of, name_length, begins_name}
use Rattle.fields.specs.Near.{name_front, name_word, kept_word, folded, word_begins}

-- a test of two words is that of their octets
word_same : (n a b : ℕ) → a < 256 ^ n → b < 256 ^ n → eqb a b ≡ same (octets_of n a) (octets_of n b)
word_same n a b ha hb =
    let both = same_equal (octets_of n a) (octets_of n b) in
    split (eqb a b) (λ e. e ∙ sym (both.1 (ap (octets_of n) (eqb-true a b e))))
    (λ e.
    split (same (octets_of n a) (octets_of n b)) (λ d. absurd (eqb-false a b e (same_word n a b (both.0 d) ha hb)))
    (λ d. e ∙ sym d))

-- 255 keeps an octet
all_kept : (x : ℕ) → x < 256 → bit_and x 255 ≡ x
unfolding numbers_from
all_kept = every_octet_lem (λ x. bit_and x 255) (λ x. x) refl

-- and where nothing is kept, all are zeros
none_kept : (k w : ℕ) → same (zip_with bit_and (octets_of k w) (replicate k 0)) (replicate k 0) ≡ true
unfolding same zip_with octets_of
none_kept zero w = refl
none_kept (suc k) w = rw (and_zero_r (w % 256)) (none_kept k (w / 256))

-- a name of any length, and k octets behind it
kept_begin : (n : List ℕ) (k w : ℕ)
    → same (zip_with bit_and (octets_of (length n + k) w) (map (λ x. 255) n ++ replicate k 0)) (map (λ x. x) n ++ replicate k 0)
    ≡ same (take (length n) (octets_of (length n + k) w)) n
unfolding same zip_with octets_of
kept_begin [] k w = let e : 0 + k ≡ k = omega arith in rw e (none_kept k w)
kept_begin (c ∷ n) k w =
    let e : suc (length n) + k ≡ suc (length n + k) = omega arith in
    rw (e, all_kept (w % 256) (omega arith)) (ap (λ (b : Bool). eqb (w % 256) c && b) (kept_begin n k (w / 256)))

module _ (f : Field) (w : ℕ) where
  eight_begin : same (zip_with bit_and (octets_of 8 w) (kept_word f)) (name_word f) ≡ word_begins f (octets_of 8 w)
  eight_begin =
      let e : length (name_front f) + (8 - length (name_front f)) ≡ 8 = omega (arith, length-take 8 (octets (name_of f))) in
      rw e at (kept_begin (name_front f) (8 - length (name_front f)) w)

  -- as the code asks
  pub word_begins_lem : (b c : ℕ) → octets_of 8 b ≡ kept_word f → octets_of 8 c ≡ name_word f → b < 256 ^ 8 → c < 256 ^ 8
      → eqb (bit_and w b) c ≡ word_begins f (octets_of 8 w)
  word_begins_lem b c q r hb hc =
      let and = octets_and 8 w b ∙ ap (zip_with bit_and (octets_of 8 w)) q in
      word_same 8 (bit_and w b) c (omega (arith, and_le_r w b)) hc ∙ ap₂ same and r ∙ eight_begin

-- eight octets, folded at once
pub word_folded : (w : ℕ) → octets_of 8 (bit_or w 0x2020202020202020) ≡ folded (octets_of 8 w)
unfolding repeated
word_folded w = each_or 8 w (λ x. x) (λ x. 32) w 0x2020202020202020 (each_self 8 w) (octets_repeated 32 8 w (omega arith))

-- An octet x is the octet c of a name, ASCII case ignored: by the letter, and by the bit, where an octet that isn't a letter is asked for itself.
abbrev by_letter : ℕ → ℕ → Bool
by_letter x c = eqb (lower_case x) (lower_case c)

abbrev plain : ℕ → ℕ → Bool
plain x c = within (code "a") (code "z") c || eqb x c

abbrev by_bit : ℕ → ℕ → Bool
by_bit x c = eqb (bit_or x 32) c && plain x c

abbrev Folds : List ℕ → Type 0
Folds n = (x : ℕ) → x < 256 → map (by_letter x) n ≡ map (by_bit x) n

-- computed at all octets, for each name
name_folds : (f : Field) → Folds (name_front f)
unfolding numbers_from octets lower_case upper
name_folds Field.Agent = every_octet_lem (λ x. map (by_letter x) (name_front Field.Agent)) (λ x. map (by_bit x) (name_front Field.Agent)) refl
name_folds (Field.Rule Side.Allow) = every_octet_lem (λ x. map (by_letter x) (name_front (Field.Rule Side.Allow))) (λ x. map (by_bit x) (name_front (Field.Rule Side.Allow))) refl
name_folds (Field.Rule Side.Disallow) = every_octet_lem (λ x. map (by_letter x) (name_front (Field.Rule Side.Disallow))) (λ x. map (by_bit x) (name_front (Field.Rule Side.Disallow))) refl

-- the octets of a name that aren't letters stand in a text from the index i on
unfoldable pub plain_from : List ℕ → List ℕ → ℕ → Bool
plain_from [] s i = true
plain_from (c ∷ n) s i = plain (get_or s i 0) c && plain_from n s (i + 1)

both_apart : (a b c d : Bool) → ((a && b) && (c && d)) ≡ ((a && c) && (b && d))
both_apart true true c d = refl
both_apart true false c d = sym (and-false c)
both_apart false b c d = refl

-- a text, folded, begins with a name
folds_begin : (n s : List ℕ) (i : ℕ) → Folds n → ((k : ℕ) → get_or s k 0 < 256) → i + length n ≤ length s
    → same_ignoring_case (take (length n) (drop i s)) n ≡ (same (folded (take (length n) (drop i s))) n && plain_from n s i)
unfolding same same_ignoring_case plain_from
folds_begin [] s i h known fits = refl
folds_begin (c ∷ n) s i h known fits =
    let x = get_or s i 0 in
    let rest : List ℕ = take (length n) (drop (i + 1) s) in
    let first : by_letter x c ≡ by_bit x c = let both = h x (known i) in cc in
    let others = folds_begin n s (i + 1) (λ y k. ap tail (h y k)) known (omega arith) in
    rw (drop_one s i 0 (omega arith))
    (ap₂ ◌&&◌ first others ∙ both_apart (eqb (bit_or x 32) c) (plain x c) (same (folded rest) n) (plain_from n s (i + 1)))

-- a name and one octet more
case_next : (n : List ℕ) (c : ℕ) (s : List ℕ) → length n < length s
    → same_ignoring_case (take (suc (length n)) s) (n ++ (c ∷ [])) ≡ (same_ignoring_case (take (length n) s) n && by_letter (get_or s (length n) 0) c)
unfolding same same_ignoring_case
case_next n c [] h = absurd (omega arith)
case_next [] c (x ∷ s) h = and-true (by_letter x c)
case_next (y ∷ n) c (x ∷ s) h =
    ap (λ (b : Bool). by_letter x y && b) (case_next n c s (omega arith))
    ∙ sym (and_assoc (by_letter x y) (same_ignoring_case (take (length n) s) n) (by_letter (get_or s (length n) 0) c))

take_folded : (k : ℕ) (l : List ℕ) → take k (folded l) ≡ folded (take k l)
take_folded zero l = refl
take_folded (suc k) [] = refl
take_folded (suc k) (x ∷ l) = ap (λ (m : List ℕ). bit_or x 32 ∷ m) (take_folded k l)

-- the first eight octets of a text, folded
module _ (s : List ℕ) (w : ℕ) (front : octets_of 8 w ≡ folded (take 8 s)) (known : (k : ℕ) → get_or s k 0 < 256) where
  front_begins : (f : Field) → 8 ≤ length s
      → same_ignoring_case (take (length (name_front f)) s) (name_front f) ≡ (word_begins f (octets_of 8 w) && plain_from (name_front f) s 0)
  front_begins f h =
      let k = length (name_front f) in
      let short : k ≤ length (take 8 s) = omega (arith, length-take 8 (octets (name_of f)), length-take-le 8 s h) in
      let whole : take k s ≡ take k (take 8 s) = rw (take-append-drop 8 s) at (take-append-le k (take 8 s) (drop 8 s) short) in
      let same-front : folded (take k s) ≡ take k (octets_of 8 w) = ap folded whole ∙ sym (ap (take k) front ∙ take_folded k (take 8 s)) in
      folds_begin (name_front f) s 0 (name_folds f) known (omega (arith, length-take 8 (octets (name_of f))))
      ∙ ap (λ (l : List ℕ). same l (name_front f) && plain_from (name_front f) s 0) same-front

  -- a name of letters that goes no further
  pub short_begins : (f : Field) → 8 ≤ length s → name_length f ≤ 8 → plain_from (name_front f) s 0 ≡ true → word_begins f (octets_of 8 w) ≡ begins_name f s
  short_begins f h short letters =
      sym (ap (λ (n : List ℕ). same_ignoring_case (take (length n) s) n) (sym (take_all 8 (octets (name_of f)) short))
      ∙ front_begins f h
      ∙ rw letters (and-true (word_begins f (octets_of 8 w))))

  pub rule_begins : (side : Side) → 10 ≤ length s → word_begins (Field.Rule side) (octets_of 8 w) ≡ begins_name (Field.Rule side) s
  unfolding octets plain_from
  rule_begins Side.Allow h = short_begins (Field.Rule Side.Allow) (omega arith) (omega arith) refl
  rule_begins Side.Disallow h = short_begins (Field.Rule Side.Disallow) (omega arith) (omega arith) refl

  -- the agent's name has a hyphen, and its last two octets stand behind them
  pub agent_begins : 10 ≤ length s
      → begins_name Field.Agent s
      ≡ (((word_begins Field.Agent (octets_of 8 w) && eqb (get_or s 4 0) (code "-")) && by_letter (get_or s 8 0) (code "n")) && by_letter (get_or s 9 0) (code "t"))
  unfolding octets plain_from
  agent_begins h =
      let hyphen : plain_from (name_front Field.Agent) s 0 ≡ eqb (get_or s 4 0) (code "-") = and-true (eqb (get_or s 4 0) (code "-")) in
      let eight = front_begins Field.Agent (omega arith) ∙ ap (λ (b : Bool). word_begins Field.Agent (octets_of 8 w) && b) hyphen in
      case_next (octets "user-agen") (code "t") s (omega arith)
      ∙ ap (λ (b : Bool). b && by_letter (get_or s 9 0) (code "t"))
      (case_next (octets "user-age") (code "n") s (omega arith) ∙ ap (λ (b : Bool). b && by_letter (get_or s 8 0) (code "n")) eight)
