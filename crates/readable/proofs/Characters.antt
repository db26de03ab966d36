-- What is due after each octet, and what a text's answer is from one octet to the next. Assumes nothing.
use Rattle.std.specs.Prelude.{if◌then◌else◌}
use Prim.Native.Nat.{ℕ, zero, suc, ◌+◌, ◌-◌, ◌≤◌, ◌<◌}
use mathlib.Core.Path.{◌≡◌, refl, sym, ap, ◌∙◌}
use mathlib.Core.Bool.{true, false, not}
use mathlib.Core.List.{List, [], ◌∷◌}
use native.Mathlib.Omega.{arith}
use lib.Dec.{leb, eqb}
use lib.ListN.{length, drop, get_or, replicate, drop_of_length-le}
use borrow.Author.Tests.{leb-true, lt-leb, le-leb, ne_eqb}
use Rattle.lists.specs.Lists.{up_to}
use Rattle.lists.proofs.Bools.{split, and_left}
use Rattle.lists.proofs.Scans.{drop_one}
use Rattle.lists.proofs.Parts.{up_to_stop, up_to_on}
use Rattle.protocol.specs.Octets.{within}
use Rattle.protocol.specs.Readable.{Range, holds, utf8_tail, never, character_forms, due_after, well_formed}
use Rattle.readable.specs.Due.{ranges, due_past, ordinary, unusual}

ordinary_due : (x : ℕ) → ordinary x ≡ true → [] ≡ due_after x character_forms
unfolding due_after character_forms
ordinary_due x h =
    let low : 0x24 ≤ x = leb-true 0x24 x (and_left (leb 0x24 x) (leb x 0x7F) h) in
    rw (le-leb 0x21 x (omega arith), lt-leb x 0x21 (omega arith), le-leb 0x22 x (omega arith), lt-leb x 0x22 (omega arith), h)

tails : (n : ℕ) → ranges 0x80 0xBF n ≡ replicate n utf8_tail
tails zero = refl
tails (suc n) = refl

-- one octet more, where nothing is due, and where something is
module _ (low high x : ℕ) where
  pub past_none : (n : ℕ) → n ≡ 0 → due_after x character_forms ≡ due_past (ranges low high n) x
  unfolding due_past
  past_none n e = rw e

  past_ordinary : (n : ℕ) → n ≡ 0 → ordinary x ≡ true → ranges low high n ≡ due_past (ranges low high n) x
  unfolding due_past
  past_ordinary n e h = rw e (ordinary_due x h)

  pub past_some : (n : ℕ) → (n ≡ 0 → ⊥) → due_past (ranges low high n) x ≡ (if within low high x then ranges 0x80 0xBF (n - 1) else never ∷ [])
  unfolding due_past
  past_some zero k = absurd (k refl)
  past_some (suc n) k = let e : suc n - 1 ≡ n = omega arith in rw (e, tails n)

never_false : (l : List ℕ) → well_formed (never ∷ []) l ≡ false
unfolding well_formed
never_false [] = refl
never_false (zero ∷ l) = refl
never_false (suc x ∷ l) = rw (le-leb 1 (suc x) (omega arith), lt-leb (suc x) 0 (omega arith))

pub well_formed_past : (due : List Range) (x : ℕ) (l : List ℕ) → well_formed due (x ∷ l) ≡ well_formed (due_past due x) l
unfolding well_formed due_past
well_formed_past [] x l = refl
well_formed_past (r ∷ due) x l = split (holds r x) (λ e. rw e) (λ e. rw e (sym (never_false l)))

-- one octet more
pub well_formed_on : (due : List Range) (l : List ℕ) (i : ℕ) → i < length l → well_formed (due_past due (get_or l i 0)) (drop (i + 1) l) ≡ well_formed due (drop i l)
well_formed_on due l i h = sym (ap (well_formed due) (drop_one l i 0 h) ∙ well_formed_past due (get_or l i 0) (drop (i + 1) l))

-- and where no octet makes it whole
pub well_formed_never : (due : List Range) (l : List ℕ) (i : ℕ) → i < length l → never ∷ [] ≡ due_past due (get_or l i 0) → well_formed due (drop i l) ≡ false
well_formed_never due l i h e = sym (well_formed_on due l i h) ∙ ap (λ (d : List Range). well_formed d (drop (i + 1) l)) (sym e) ∙ never_false (drop (i + 1) l)

-- at the end of a text nothing may be due
pub well_formed_end : (low high n i : ℕ) (l : List ℕ) → length l ≤ i → well_formed (ranges low high n) (drop i l) ≡ eqb n 0
unfolding well_formed
well_formed_end low high zero i l h = rw (drop_of_length-le l h)
well_formed_end low high (suc n) i l h = rw (drop_of_length-le l h, ne_eqb (suc n) 0 (λ e. omega arith))

-- the ordinary octets in front tell nothing
pub well_formed_front : (l : List ℕ) → well_formed [] (drop (length (up_to unusual l)) l) ≡ well_formed [] l
unfolding up_to
well_formed_front [] = refl
well_formed_front (x ∷ l) =
    split (ordinary x)
    (λ e. rw (up_to_on unusual x l (ap not e)) (well_formed_front l ∙ ap (λ (due : List Range). well_formed due l) (past_ordinary 0 0 x 0 refl e) ∙ sym (well_formed_past [] x l)))
    (λ e. rw (up_to_stop unusual x l (ap not e)))

-- a text of ordinary octets alone
pub well_formed_ordinary : (l : List ℕ) → length (up_to unusual l) ≡ length l → true ≡ well_formed [] l
unfolding well_formed
well_formed_ordinary l h = ap (well_formed []) (sym (drop_of_length-le l (omega (arith, h)))) ∙ well_formed_front l
