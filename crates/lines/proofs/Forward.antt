-- The lines of a file, from one to the next: where the line behind the one at a place begins. Assumes nothing.
use Prim.Native.Nat.{ℕ, zero, suc, ◌+◌, ◌-◌, ◌≤◌, ◌<◌}
use mathlib.Core.Path.{◌≡◌, refl, sym, ap, ◌∙◌}
use mathlib.Core.Bool.{true}
use mathlib.Core.List.{List, [], ◌∷◌}
use native.Mathlib.Omega.{arith}
use lib.ListN.{length, take, drop, get_or, length-drop, drop_of_length-le}
use lib.Seq.{drop-drop, get_or-drop}
use borrow.Author.Tests.{ne_eqb}
use Rattle.lists.specs.Lists.{up_to, from}
use Rattle.lists.proofs.Bools.{split}
use Rattle.lists.proofs.Parts.{up_to_stop, up_to_on}
use Rattle.lists.proofs.Scans.{up_to_fits, up_to_stops, drop_up_to, drop_one, rest_of}
use Rattle.protocol.specs.declared.Place.{Place}
use Rattle.protocol.specs.Octets.{line_end}
use Rattle.protocol.specs.Lines.{place_at, place_after, line_text, ending_length, line_length}
use Rattle.protocol.proofs.FrontToBack.{length_on, length_ending, line_fits, line_some}
use Rattle.lines.specs.Spans.{text_at, next_at}

-- what is left of a line, told by its first octet: LF, CR or another
module _ (s : List ℕ) (i : ℕ) (h : i < length s) where
  pub left_lf : get_or s i 0 ≡ 10 → line_length (drop i s) ≡ 1
  unfolding line_length ending_length line_end up_to from
  left_lf e = rw (drop_one s i 0 h, e)

  -- what is lent from a CR on begins with an ending, and the line ends with it
  pub left_ends : get_or s i 0 ≡ 13 → line_end (get_or (take (length s - i) (drop i s)) 0 0) ≡ true
  unfolding line_end
  left_ends e = rw (rest_of i s, drop_one s i 0 h, e)

  pub left_cr : get_or s i 0 ≡ 13 → ending_length (take (length s - i) (drop i s)) ≡ line_length (drop i s)
  unfolding line_end
  left_cr e = rw (rest_of i s, drop_one s i 0 h, e) (sym (length_ending 13 (drop (i + 1) s) refl))

  pub left_fits : i + line_length (drop i s) ≤ length s
  left_fits = omega (arith, line_fits (drop i s), length-drop i s)

  pub left_inner : (get_or s i 0 ≡ 10 → ⊥) → (get_or s i 0 ≡ 13 → ⊥) → line_length (drop i s) ≡ suc (line_length (drop (i + 1) s))
  unfolding line_end
  left_inner n r = rw (drop_one s i 0 h) (length_on (get_or s i 0) (drop (i + 1) s) (rw (ne_eqb (get_or s i 0) 13 r, ne_eqb (get_or s i 0) 10 n)))

module _ (file : List ℕ) (p : Place) where
  -- behind the text of the line at p, at e, stands its ending
  module _ (e : Place) (h : e ≡ place_after p (length (text_at file p))) where
    pub next_of : place_after e (ending_length (drop e.offset file)) ≡ next_at file p
    unfolding line_length
    next_of =
        let rest : List ℕ = drop p.offset file in
        let size : ℕ = length (line_text rest) in
        rw (h, ← drop-drop size p.offset file, drop_up_to line_end rest) (ap place_at (omega arith))

    -- an ending it is, where octets are left
    pub ends_there : e.offset < length file → line_end (get_or (drop e.offset file) 0 0) ≡ true
    ends_there k =
        let rest : List ℕ = drop p.offset file in
        let size : ℕ = length (line_text rest) in
        let z : size + 0 ≡ size = omega arith in
        let inside : size < length rest = omega (arith, ap (λ (q : Place). q.offset) h, length-drop p.offset file) in
        ap (λ (q : Place). line_end (get_or (drop q.offset file) 0 0)) h
        ∙ ap (λ (l : List ℕ). line_end (get_or l 0 0)) (sym (drop-drop size p.offset file))
        ∙ ap line_end (get_or-drop size rest 0 0 ∙ ap (λ n. get_or rest n 0) z)
        ∙ up_to_stops line_end rest 0 inside

    -- where no octet is left, none is
    pub next_end : length file ≤ e.offset → e ≡ next_at file p
    unfolding ending_length
    next_end k = ap place_at (omega (arith, ap ending_length (drop_of_length-le file k))) ∙ next_of

  -- The next line begins behind p,
  pub next_further : p.offset < length file → p.offset < (next_at file p).offset
  next_further h =
      let some_octet : 1 ≤ line_length (drop p.offset file)
      = rw (drop_one file p.offset 0 h) (line_some (get_or file p.offset 0) (drop (p.offset + 1) file)) in
      omega (arith, some_octet)

  -- and inside the file or at its end.
  pub next_inside : p.offset ≤ length file → (next_at file p).offset ≤ length file
  next_inside h = omega (arith, line_fits (drop p.offset file), length-drop p.offset file)

-- looked for from inside a line, the next one begins at the same place
mid_line : (l : List ℕ) (q : ℕ) → q ≤ length (line_text l) → q + line_length (drop q l) ≡ line_length l
unfolding up_to
mid_line l zero h = omega arith
mid_line [] (suc q) h = absurd (omega arith)
mid_line (c ∷ l) (suc q) h =
    split (line_end c) (λ e. absurd (let z : suc q ≤ 0 = rw (up_to_stop line_end c l e) at h in omega arith))
    (λ e. let f : suc q ≤ suc (length (line_text l)) = rw (up_to_on line_end c l e) at h in omega (arith, length_on c l e, mid_line l q (omega arith)))

pub next_mid : (file : List ℕ) (p : Place) (q : ℕ) → q ≤ length (text_at file p) → next_at file (place_after p q) ≡ next_at file p
next_mid file p q h = ap place_at (rw (← drop-drop q p.offset file) (omega (arith, mid_line (drop p.offset file) q h)))

-- the text of a line lies inside the file, and in front of the next line
module _ (file : List ℕ) (p : Place) where
  pub text_inside : p.offset ≤ length file → p.offset + length (text_at file p) ≤ length file
  text_inside h = omega (arith, up_to_fits line_end (drop p.offset file), length-drop p.offset file)

  pub text_next : p.offset + length (text_at file p) ≤ (next_at file p).offset
  unfolding line_length
  text_next = omega arith
