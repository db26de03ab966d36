-- A pattern in which star and dollar are plain octets is one run without stars, and matches where it begins the path. Assumes nothing.
use Rattle.std.specs.Prelude.{if◌then◌else◌}
use Prim.Native.Nat.{ℕ, zero, suc, ◌+◌, ◌-◌, ◌/◌, ◌%◌}
use Prim.Native.Char.{code}
use mathlib.Core.Path.{◌≡◌, refl, sym, ap, ◌∙◌}
use mathlib.Core.Bool.{Bool, true, false, ◌&&◌, not, and-true, and-false, true≢false, false≢true}
use mathlib.Core.Logic.{◌↔◌}
use mathlib.Core.List.{List, [], ◌∷◌, ◌++◌}
use native.Mathlib.Omega.{arith}
use lib.Dec.{leb, ltb}
use lib.ListN.{length, get_or}
use borrow.Author.Tests.{leb-true, eqb-true, eqb-false, ne_eqb, not-true}
use Rattle.lists.specs.Lists.{all, up_to}
use Rattle.lists.proofs.Bools.{split, and_left, and_right}
use Rattle.protocol.specs.Octets.{is, upper, lower, digit, unreserved, hex, upper_case, hex_digit}
use Rattle.protocol.specs.Text.{begins}
use Rattle.protocol.specs.Normal.{encoded, meant, escape, is_escape, escape_at, special, is_encoded, plain, replacement, normal, normal_path}
use Rattle.protocol.specs.Pattern.{plain_shape, weight, is_star, first_run, later_runs, runs}
use Rattle.protocol.specs.Matching.{filled}
use Rattle.protocol.specs.Walk.{first, later, walk_runs, walk}
use Rattle.protocol.proofs.Sizes.{no_percent}
use Rattle.protocol.proofs.Found.{walk_finds}

-- what passes a test that "*" doesn't pass is no star
not_star : (f : ℕ → Bool) → f (code "*") ≡ false → (x : ℕ) → f x ≡ true → is_star x ≡ false
not_star f n x h =
    split (is_star x) (λ e. absurd (true≢false (sym h ∙ ap f (eqb-true x (code "*") e) ∙ n))) (λ e. e)

pub unreserved_not_star : (x : ℕ) → unreserved x ≡ true → is_star x ≡ false
unfolding unreserved upper lower digit
unreserved_not_star = not_star unreserved refl

pub hex_not_star : (x : ℕ) → hex x ≡ true → is_star x ≡ false
unfolding hex digit
hex_not_star = not_star hex refl

-- nor is a hex digit in upper case,
upper_not_star : (x : ℕ) → hex x ≡ true → is_star (upper_case x) ≡ false
unfolding upper_case lower
upper_not_star x h =
    split (lower x)
    (λ e. rw e (ne_eqb (x - 32) 42 (λ z. omega (arith, leb-true 97 x (and_left (leb 97 x) (leb x 122) e)))))
    (λ e. rw e (hex_not_star x h))

-- nor a written one, whatever its number
digit_not_star : (n : ℕ) → is_star (hex_digit n) ≡ false
unfolding hex_digit
digit_not_star n =
    split (ltb n 10) (λ e. rw e (ne_eqb (48 + n) 42 (λ z. omega arith))) (λ e. rw e (ne_eqb (65 + (n - 10)) 42 (λ z. omega arith)))

-- an escape has two hex digits
pub escape_hex : (x d e : ℕ) (l : List ℕ) → is_escape x (d ∷ e ∷ l) ≡ true → (hex d ≡ true) × (hex e ≡ true)
unfolding is_escape
escape_hex x d e l h =
    (and_right (is "%" x) (hex d) (and_left (is "%" x && hex d) (hex e) h), and_right (is "%" x && hex d) (hex e) h)

-- no star is among these octets
abbrev pub Clear : List ℕ → Type 0
Clear l = all (λ x. not (is_star x)) l ≡ true

clear_append : (a b : List ℕ) → Clear a → Clear b → Clear (a ++ b)
unfolding all
clear_append [] b h k = k
clear_append (x ∷ a) b h k =
    rw (and_left (not (is_star x)) (all (λ y. not (is_star y)) a) h) (clear_append a b (and_right (not (is_star x)) (all (λ y. not (is_star y)) a) h) k)

-- what stands for an octet that is no star, or where a star is none, holds none
escape_clear : (d e : ℕ) → hex d ≡ true → hex e ≡ true → Clear (escape d e)
unfolding escape all
escape_clear d e h k =
    split (unreserved (meant d e)) (λ u. rw (u, unreserved_not_star (meant d e) u)) (λ u. rw (u, upper_not_star d h, upper_not_star e k))

abbrev pub NoStar : Bool → ℕ → Type 0
NoStar stars c = (is_star c && stars) ≡ false

kept_not_star : (stars : Bool) (c : ℕ) → NoStar stars c → is_encoded stars c ≡ false → is_star c ≡ false
unfolding special
kept_not_star true c h e = rw (and-true (is_star c)) at h
kept_not_star false c h e =
    split (is_star c) (λ s. absurd (true≢false (rw (eqb-true c (code "*") s) at e))) (λ s. s)

plain_clear : (stars : Bool) (c : ℕ) → NoStar stars c → Clear (plain stars c)
unfolding plain encoded all
plain_clear stars c h =
    split (is_encoded stars c) (λ e. rw (e, digit_not_star (c / 16), digit_not_star (c % 16)))
    (λ e. rw (e, kept_not_star stars c h e))

pub replacement_clear : (stars : Bool) (c : ℕ) (l : List ℕ) → NoStar stars c → Clear (replacement stars c l)
unfolding replacement is_escape escape_at all
replacement_clear stars c [] h = plain_clear stars c h
replacement_clear stars c (d ∷ []) h = plain_clear stars c h
replacement_clear stars c (d ∷ e ∷ l) h =
    split (is_escape c (d ∷ e ∷ l)) (λ k. rw k (escape_clear d e (escape_hex c d e l k).0 (escape_hex c d e l k).1))
    (λ k. rw k (plain_clear stars c h))

-- so a text that is normalised as a path holds none
normal_clear : (n : ℕ) (l : List ℕ) → Clear (normal false n l)
unfolding normal all
normal_clear n [] = refl
normal_clear zero (c ∷ l) =
    let n : ℕ = if is_escape c l then 2 else 0 in
    clear_append (replacement false c l) (normal false n l) (replacement_clear false c l (and-false (is_star c))) (normal_clear n l)
normal_clear (suc n) (c ∷ l) = normal_clear n l

-- a text without stars is one run, and filling its stars changes nothing
record Whole (text : List ℕ) : Type 0 where
  first : first_run text ≡ text
  later : later_runs text ≡ []
  filled : (fillings : List (List ℕ)) → filled text fillings ≡ text

whole : (text : List ℕ) → Clear text → Whole text
unfolding all first_run up_to later_runs filled
whole [] h = record { first = refl; later = refl; filled = λ fillings. refl }
whole (x ∷ text) h =
    let none : is_star x ≡ false = not-true (is_star x) (and_left (not (is_star x)) (all (λ y. not (is_star y)) text) h) in
    let rest : Whole text = whole text (and_right (not (is_star x)) (all (λ y. not (is_star y)) text) h) in
    record {
      first = rw none (ap (λ (l : List ℕ). x ∷ l) rest.first);
      later = rw none rest.later;
      filled = λ fillings. rw none (ap (λ (l : List ℕ). x ∷ l) (rest.filled fillings));
    }

module _ (raw : List ℕ) where
  plain_whole : Whole (normal_path raw)
  unfolding normal_path
  plain_whole = whole (normal_path raw) (normal_clear 0 raw)

  -- M-113: "a pattern is one run without stars"
  pub plain_runs : runs (plain_shape raw) ≡ normal_path raw ∷ []
  plain_runs = rw (plain_whole.first, plain_whole.later)

  pub plain_walk : (path : List ℕ) → walk (plain_shape raw) path ≡ first false (normal_path raw) path
  unfolding walk walk_runs later
  plain_walk path = rw (plain_whole.first, plain_whole.later)

  -- its weight is its normalised octets
  pub plain_weight : weight (plain_shape raw) ≡ length (normal_path raw)
  unfolding weight
  plain_weight = omega arith

  -- and it matches where it begins the path
  pub plain_begins : (path : List ℕ) → ((walk (plain_shape raw) path).stood ≡ true) ↔ ((rest : List ℕ) × (normal_path raw ++ rest ≡ path))
  plain_begins path =
      let (there, back) = walk_finds (plain_shape raw) path in (
        λ h. let m = there h in (m.rest, rw (plain_whole.filled m.fillings) at m.gives),
        λ (rest, e). back (record { fillings = []; rest = rest; gives = rw (plain_whole.filled []) e; whole = λ z. absurd (false≢true z) }),
      )

-- A pattern that begins with a star is "%2A" in front, and a path that isn't refused begins with "/": it matches none.
pub star_unmatched : (l path rest : List ℕ) → begins "/" path ≡ true → normal_path (code "*" ∷ l) ++ rest ≡ normal_path path → ⊥
unfolding begins normal_path normal replacement plain encoded special
star_unmatched l [] rest h e = absurd (false≢true h)
star_unmatched l (c ∷ path) rest h e =
    let front : List ℕ → ℕ = λ m. get_or m 0 0 in
    let star : front (normal_path (code "*" ∷ l) ++ rest) ≡ 37 = rw (no_percent (code "*") l (eqb-false (code "*") (code "%") refl)) refl in
    let slash : front (normal_path (c ∷ path)) ≡ 47 = rw (eqb-true c (code "/") h, no_percent (code "/") path (eqb-false (code "/") (code "%") refl)) refl in
    omega (arith, star, slash, ap front e)
