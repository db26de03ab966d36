-- The line ending that a text begins with, and the leading mark of a file, octet by octet; an octet that closes its line, and any other.
-- Assumes nothing.
use Prim.Native.Nat.{ℕ, suc, ◌+◌, ◌≤◌, ◌<◌}
use mathlib.Core.Path.{◌≡◌, refl, sym, ap, ap₂, ◌∙◌}
use mathlib.Core.Bool.{Bool, true, false, ◌&&◌, ◌||◌, not, and-false, true≢false, false≢true}
use mathlib.Core.List.{List, [], ◌∷◌}
use native.Mathlib.Omega.{arith}
use lib.Dec.{eqb}
use lib.ListN.{length, drop, get_or, drop_of_length-le}
use borrow.Author.Rules.{rules}
use borrow.Author.Tests.{eqb-true, eqb-false, eq-eqb, ne_eqb}
use Rattle.std.specs.List.{starts_with}
use Rattle.lists.proofs.Bools.{split}
use Rattle.protocol.specs.declared.LineNumber.{LineNumber}
use Rattle.protocol.specs.declared.Place.{Place}
use Rattle.protocol.specs.Octets.{is, line_end}
use Rattle.protocol.specs.Text.{begins}
use Rattle.protocol.specs.Lines.{number_after, place_after, ending_length, line_length, lines_from, has_leading_mark}
use Rattle.protocol.proofs.FrontToBack.{length_on, length_ending, lines_behind}
use Rattle.lines.specs.Skips.{closes}

-- an ending of CR LF, and any other
module _ (c : ℕ) (l : List ℕ) where
  cr_lf_ending : (is "\r" c && begins "\n" l) ≡ true → ending_length (c ∷ l) ≡ 2
  unfolding ending_length
  cr_lf_ending h = rw h

  other_ending : line_end c ≡ true → (is "\r" c && begins "\n" l) ≡ false → ending_length (c ∷ l) ≡ 1
  unfolding ending_length
  other_ending e h = rw (h, e)

-- CR LF, and any other ending, which may be the last octet
pub ending_cr_lf : (s : List ℕ) → 2 ≤ length s → get_or s 0 0 ≡ 13 → get_or s 1 0 ≡ 10 → ending_length s ≡ 2
unfolding begins
ending_cr_lf [] h e g = absurd (omega arith)
ending_cr_lf (c ∷ []) h e g = absurd (omega arith)
ending_cr_lf (c ∷ d ∷ l) h e g = cr_lf_ending c (d ∷ l) (rw (eq-eqb c 13 e, eq-eqb d 10 g))

pub ending_last : (s : List ℕ) → line_end (get_or s 0 0) ≡ true → length s < 2 → ending_length s ≡ 1
unfolding begins line_end
ending_last [] e h = absurd (false≢true e)
ending_last (c ∷ []) e h = other_ending c [] e (and-false (is "\r" c))
ending_last (c ∷ d ∷ l) e h = absurd (omega arith)

pub ending_no_cr : (s : List ℕ) → line_end (get_or s 0 0) ≡ true → (get_or s 0 0 ≡ 13 → ⊥) → ending_length s ≡ 1
unfolding begins line_end
ending_no_cr [] e g = absurd (false≢true e)
ending_no_cr (c ∷ l) e g = other_ending c l e (rw (ne_eqb c 13 g))

pub ending_no_lf : (s : List ℕ) → line_end (get_or s 0 0) ≡ true → (get_or s 1 0 ≡ 10 → ⊥) → ending_length s ≡ 1
unfolding begins line_end
ending_no_lf [] e g = absurd (false≢true e)
ending_no_lf (c ∷ []) e g = ending_last (c ∷ []) e (omega arith)
ending_no_lf (c ∷ d ∷ l) e g = other_ending c (d ∷ l) e (rw (ne_eqb d 10 g) (and-false (is "\r" c)))

-- an octet closes its line where it is CR or LF and no LF follows it
-- an ending has two octets at most, and behind the file's end there is none
pub ending_few : (s : List ℕ) → ending_length s ≤ 2
unfolding ending_length
ending_few [] = omega arith
ending_few (c ∷ l) =
    split (is "\r" c && begins "\n" l) (λ e. rw e (omega arith)) (λ e. rw e (split (line_end c) (λ g. rw g (omega arith)) (λ g. rw g (omega arith))))

pub no_ending : (file : List ℕ) (e : Place) → length file ≤ e.offset → e ≡ place_after e (ending_length (drop e.offset file))
unfolding ending_length
no_ending file e h = let same : e.offset + 0 ≡ e.offset = omega arith in rw (drop_of_length-le file h, same)

pub ends_closed : (c : ℕ) → line_end c ≡ true → closes c false ≡ true
unfolding line_end
ends_closed c = go (is "\r" c) (is "\n" c)
  where
    go : (r f : Bool) → (r || f) ≡ true → (f || (r && true)) ≡ true
    go r true e = refl
    go true false e = refl
    go false false e = e

-- an octet that closes its line
module _ (c : ℕ) (lf : Bool) where
  pub closing_ends : closes c lf ≡ true → line_end c ≡ true
  unfolding line_end
  closing_ends = go (is "\r" c) (is "\n" c) lf
    where
      go : (r f lf : Bool) → (f || (r && not lf)) ≡ true → (r || f) ≡ true
      go true f lf e = refl
      go false true lf e = refl
      go false false lf e = e

  -- is no CR of a CR LF
  closing_other : closes c lf ≡ true → (is "\r" c && lf) ≡ false
  closing_other e = split (is "\n" c) (λ f. rw (eqb-true c 10 f)) (λ f. go (is "\r" c) lf (rw f at e))
    where
      go : (r lf : Bool) → (r && not lf) ≡ true → (r && lf) ≡ false
      go true true h = absurd (false≢true h)
      go true false h = refl
      go false lf h = refl

  -- any other ending octet is
  open_cr : closes c lf ≡ false → line_end c ≡ true → (is "\r" c ≡ true) × (lf ≡ true)
  unfolding line_end
  open_cr = go (is "\r" c) (is "\n" c) lf
    where
      go : (r f lf : Bool) → (f || (r && not lf)) ≡ false → (r || f) ≡ true → (r ≡ true) × (lf ≡ true)
      go r true lf e g = absurd (true≢false e)
      go true false true e g = (refl, refl)
      go true false false e g = absurd (true≢false e)
      go false false lf e g = absurd (true≢false (sym g))

-- It is the last octet of its line, and behind any other the same line goes on.
pub length_closed : (c : ℕ) (l : List ℕ) → closes c (begins "\n" l) ≡ true → line_length (c ∷ l) ≡ 1
length_closed c l e =
    let g = closing_ends c (begins "\n" l) e in length_ending c l g ∙ other_ending c l g (closing_other c (begins "\n" l) e)

length_cr : (c : ℕ) (l : List ℕ) → closes c (begins "\n" l) ≡ false → line_end c ≡ true → line_length (c ∷ l) ≡ suc (line_length l)
unfolding begins
length_cr c [] e g = absurd (true≢false (sym (open_cr c false e g).1))
length_cr c (d ∷ l) e g =
    let cr = open_cr c (is "\n" d) e g in
    let two : line_length (c ∷ d ∷ l) ≡ 2 = length_ending c (d ∷ l) g ∙ cr_lf_ending c (d ∷ l) (ap₂ ◌&&◌ cr.0 cr.1) in
    let one : line_length (d ∷ l) ≡ 1 = length_closed d l (ap (λ (f : Bool). f || (is "\r" d && not (begins "\n" l))) cr.1) in
    omega arith

pub length_open : (c : ℕ) (l : List ℕ) → closes c (begins "\n" l) ≡ false → line_length (c ∷ l) ≡ suc (line_length l)
length_open c l e = split (line_end c) (length_cr c l e) (length_on c l)

-- so the lines behind it are those behind the octet, or behind the line that goes on
module _ (n : LineNumber) (p : Place) (c : ℕ) (l : List ℕ) where
  pub behind_closed : closes c (begins "\n" l) ≡ true → lines_behind n p (c ∷ l) ≡ lines_from (number_after n 1) (place_after p 1) 0 l
  unfolding lines_from
  behind_closed e = rw (length_closed c l e)

  pub behind_open : closes c (begins "\n" l) ≡ false → lines_behind n p (c ∷ l) ≡ lines_behind n (place_after p 1) l
  unfolding lines_from
  behind_open e = rw (length_open c l e)

eqb_swap : (a b : ℕ) → eqb a b ≡ eqb b a
eqb_swap a b = split (eqb b a) (λ e. rw e (eq-eqb a b (sym (eqb-true b a e)))) (λ e. rw e (ne_eqb a b (λ q. eqb-false b a e (sym q))))

pub leading_mark_starts : (s : List ℕ) → has_leading_mark s ≡ starts_with eqb s (0xEF ∷ 0xBB ∷ 0xBF ∷ [])
unfolding has_leading_mark
leading_mark_starts [] = refl
leading_mark_starts (a ∷ []) = sym (and-false (eqb 0xEF a))
leading_mark_starts (a ∷ b ∷ []) = sym (ap (λ (x : Bool). eqb 0xEF a && x) (and-false (eqb 0xBB b)) ∙ and-false (eqb 0xEF a))
leading_mark_starts (a ∷ b ∷ c ∷ l) = rw (eqb_swap 0xEF a, eqb_swap 0xBB b, eqb_swap 0xBF c) (search rules)
