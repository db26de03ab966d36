-- The lines and the entries of a text `front ++ back`, where front is empty or ends in a line ending; and that a line with its ending, in front
-- of a text, is read as this line. Assumes nothing.
use Prim.Native.Nat.{ℕ, zero, suc, ◌+◌, ◌≤◌, ◌<◌}
use Prim.Native.Char.{code}
use mathlib.Core.Path.{◌≡◌, refl, sym, ap, ◌∙◌}
use mathlib.Core.Bool.{Bool, true, false, ◌&&◌, and-false, or-true, true≢false}
use mathlib.Core.Logic.{◌⊎◌, inl, inr, ⊎_elim}
use mathlib.Core.List.{List, [], ◌∷◌, ◌++◌, append_assoc, append-nil}
use native.Mathlib.Omega.{arith}
use lib.ListN.{length, drop, length-drop}
use lib.Seq.{drop-nil, drop-append-le, drop-append-add, drop-length, drop-append_seam}
use borrow.Author.Tests.{eqb-true}
use Rattle.lists.specs.Choice.{one_if}
use Rattle.lists.specs.Lists.{empty, any, from}
use Rattle.lists.proofs.Bools.{split, and_right}
use Rattle.lists.proofs.Cuts.{up_to_none, from_none}
use Rattle.lists.proofs.Parts.{up_to_stop, from_stop}
use Rattle.lists.proofs.Appends.{up_to_front, up_to_back, from_back}
use Rattle.protocol.specs.declared.LineNumber.{LineNumber}
use Rattle.protocol.specs.declared.Place.{Place}
use Rattle.protocol.specs.Octets.{is, line_end}
use Rattle.protocol.specs.Text.{begins, ends}
use Rattle.protocol.specs.Lines.{Line, line, number_after, place_after, line_text, ending_length, line_length, lines_from, ended}
use Rattle.protocol.specs.Kinds.{kind_of}
use Rattle.protocol.specs.Entries.{role_of, group_at, ruled_after, entry_of, entries_from}
use Rattle.protocol.proofs.FrontToBack.{length_on, length_ending, line_some, line_fits, lines_skip, first_line_lem}

-- "CR LF (one ending)": the last octet of front and the first of back are one
abbrev pub joined : List ℕ → List ℕ → Bool
joined front back = ends "\r" front && begins "\n" back

-- the lines of a text that isn't empty: its first one, and those behind that and its ending
lines_first : (n : LineNumber) (p : Place) (l : List ℕ) → empty l ≡ false
    → lines_from n p 0 l ≡ line n p (line_text l) ∷ lines_from (number_after n 1) (place_after p (line_length l)) 0 (drop (line_length l) l)
lines_first n p [] h = absurd (true≢false h)
lines_first n p (c ∷ l) h =
    first_line_lem n p c l
    ∙ ap (λ (ls : List Line). line n p (line_text (c ∷ l)) ∷ ls) (lines_skip (number_after n 1) p (line_length (c ∷ l)) (c ∷ l))

no_lines : (n : LineNumber) (p : Place) → lines_from n p 0 [] ≡ []
unfolding lines_from
no_lines n p = refl

-- an octet with which an ending begins is CR or LF
ending_octet : (c : ℕ) (l : List ℕ) → 0 < ending_length (c ∷ l) → line_end c ≡ true
unfolding ending_length line_end
ending_octet c l h =
    split (is "\r" c) (λ e. rw e) (λ e. split (is "\n" c) (λ d. rw (d, or-true (is "\r" c))) (λ d. absurd (omega (arith, none_there e d))))
  where
    none_there : is "\r" c ≡ false → is "\n" c ≡ false → ending_length (c ∷ l) ≡ 0
    none_there e d = rw (e, d)

-- the three endings
pub lf_ending : (l : List ℕ) → ending_length (code "\n" ∷ l) ≡ 1
unfolding ending_length line_end
lf_ending l = refl

pub cr_ending : (l : List ℕ) → begins "\n" l ≡ false → ending_length (code "\r" ∷ l) ≡ 1
unfolding ending_length line_end
cr_ending l h = rw h

pub cr_lf_ending : (l : List ℕ) → ending_length (code "\r" ∷ code "\n" ∷ l) ≡ 2
unfolding ending_length begins
cr_lf_ending l = refl

module _ (n : LineNumber) (p : Place) where
  -- A line t without CR and LF, and its ending e, in front of the text back; e is all of the ending that stands there.
  pub ended_line : (t e back : List ℕ) → any line_end t ≡ false → ending_length (e ++ back) ≡ length e → 0 < length e
      → lines_from n p 0 (t ++ (e ++ back)) ≡ line n p t ∷ lines_from (number_after n 1) (place_after p (length t + length e)) 0 back
  unfolding line_length
  ended_line t [] back h k there = absurd (omega arith)
  ended_line t (c ∷ e) back h k there =
      let l : List ℕ = c ∷ (e ++ back) in
      let at : line_end c ≡ true = ending_octet c (e ++ back) (omega arith) in
      let text : line_text (t ++ l) ≡ t = up_to_back line_end t l h ∙ rw (up_to_stop line_end c (e ++ back) at) (append-nil t) in
      let rest : from line_end (t ++ l) ≡ l = from_back line_end t l h ∙ from_stop line_end c (e ++ back) at in
      lines_first n p (t ++ l) (not_empty t)
      ∙ rw (text, rest, k, drop-append-add t l (length (c ∷ e)), drop-append_seam (c ∷ e) back)
    where
      not_empty : (m : List ℕ) → empty (m ++ (c ∷ (e ++ back))) ≡ false
      not_empty [] = refl
      not_empty (x ∷ m) = refl

  -- A last line, without an ending
  pub last_line : (t : List ℕ) → any line_end t ≡ false → empty t ≡ false → lines_from n p 0 t ≡ line n p t ∷ []
  unfolding line_length ending_length lines_from
  last_line t h there =
      let e : length t + 0 ≡ length t = omega arith in
      lines_first n p t there ∙ rw (up_to_none line_end t h, from_none line_end t h, e, drop-length t)

-- the end of a text of two octets or more is that of the text behind its first octet
ended_single : (c : ℕ) → ended (c ∷ []) ≡ line_end c
unfolding ended ends line_end
ended_single c = refl

ended_behind : (c d : ℕ) (l : List ℕ) → ended (c ∷ d ∷ l) ≡ ended (d ∷ l)
unfolding ended ends
ended_behind c d l = refl

joined_behind : (c d : ℕ) (l back : List ℕ) → joined (c ∷ d ∷ l) back ≡ joined (d ∷ l) back
unfolding ends
joined_behind c d l back = refl

pub ended_drop : (k : ℕ) (l : List ℕ) → ended l ≡ true → ended (drop k l) ≡ true
unfolding ended
ended_drop zero l h = h
ended_drop (suc k) [] h = refl
ended_drop (suc k) (c ∷ []) h = rw (drop-nil k)
ended_drop (suc k) (c ∷ d ∷ l) h = ended_drop k (d ∷ l) (sym (ended_behind c d l) ∙ h)

-- a text that is ended and not empty has an ending
pub ended_some : (c : ℕ) (l : List ℕ) → ended (c ∷ l) ≡ true → any line_end (c ∷ l) ≡ true
unfolding any
ended_some c [] h = rw (sym (ended_single c) ∙ h)
ended_some c (d ∷ l) h = rw (ended_some d l (sym (ended_behind c d l) ∙ h)) (or-true (line_end c))

-- Where the first line of front ends: in front of octets of front,
record Inside (front back : List ℕ) : Type 0 where
  size : line_length (front ++ back) ≡ line_length front
  fits : line_length front ≤ length front
  joint : joined (drop (line_length front) front) back ≡ joined front back

-- or with front, but for an LF of back
record AtEnd (front back : List ℕ) : Type 0 where
  all : line_length front ≡ length front
  size : line_length (front ++ back) ≡ length front + one_if (joined front back)

-- an ending at the front of front
ending_cut : (c : ℕ) (l back : List ℕ) → line_end c ≡ true → Inside (c ∷ l) back ⊎ AtEnd (c ∷ l) back
unfolding ending_length begins ends
ending_cut c [] back e =
    inr
    (record {
      all = length_ending c [] e ∙ rw (e, and-false (is "\r" c));
      size = length_ending c back e ∙ rw e (split (is "\r" c && begins "\n" back) (λ j. rw j) (λ j. rw j));
    })
ending_cut c (d ∷ l) back e =
    inl
    (record {
      size = length_ending c (d ∷ (l ++ back)) e ∙ sym (length_ending c (d ∷ l) e);
      fits = line_fits (c ∷ d ∷ l);
      joint = rw (length_ending c (d ∷ l) e) (split (is "\r" c && is "\n" d) (λ j. rw j (two l j)) (λ j. rw (j, e)));
    })
  where
    two : (m : List ℕ) → (is "\r" c && is "\n" d) ≡ true → joined m back ≡ joined (d ∷ m) back
    two [] j = let lf : d ≡ code "\n" = eqb-true d (code "\n") (and_right (is "\r" c) (is "\n" d) j) in rw lf
    two (x ∷ m) j = refl

first_cut : (c : ℕ) (l back : List ℕ) → ended (c ∷ l) ≡ true → Inside (c ∷ l) back ⊎ AtEnd (c ∷ l) back
first_cut c [] back h = ending_cut c [] back (sym (ended_single c) ∙ h)
first_cut c (d ∷ l) back h =
    split (line_end c) (λ e. ending_cut c (d ∷ l) back e)
    (λ e.
    ⊎_elim
    (λ (i : Inside (d ∷ l) back).
    inl
    (record {
      size = length_on c (d ∷ (l ++ back)) e ∙ ap suc i.size ∙ sym (length_on c (d ∷ l) e);
      fits = line_fits (c ∷ d ∷ l);
      joint = rw (length_on c (d ∷ l) e) (i.joint ∙ sym (joined_behind c d l back));
    }))
    (λ (a : AtEnd (d ∷ l) back).
    inr
    (record {
      all = length_on c (d ∷ l) e ∙ ap suc a.all;
      size = length_on c (d ∷ (l ++ back)) e ∙ rw (a.size, joined_behind c d l back) (omega arith);
    }))
    (first_cut d l back (sym (ended_behind c d l) ∙ h)))

-- the lines of back behind front, of which ls are the lines
abbrev pub back_lines : LineNumber → Place → List ℕ → List Line → List ℕ → List Line
back_lines n p front ls back = lines_from (number_after n (length ls)) (place_after p (length front)) (one_if (joined front back)) back

module _ (back : List ℕ) where
  abbrev Appends : LineNumber → Place → List ℕ → Type 0
  Appends n p front = lines_from n p 0 (front ++ back) ≡ lines_from n p 0 front ++ back_lines n p front (lines_from n p 0 front) back

  append_inside : (n : LineNumber) (p : Place) (c : ℕ) (l : List ℕ) → any line_end (c ∷ l) ≡ true → Inside (c ∷ l) back
      → Appends (number_after n 1) (place_after p (line_length (c ∷ l))) (drop (line_length (c ∷ l)) (c ∷ l)) → Appends n p (c ∷ l)
  append_inside n p c l h i on =
      let front : List ℕ = c ∷ l in
      let k : ℕ = line_length front in
      let ls : List Line = lines_from (number_after n 1) (place_after p k) 0 (drop k front) in
      let a : n.number + 1 + length ls ≡ n.number + suc (length ls) = omega arith in
      let b : p.offset + k + length (drop k front) ≡ p.offset + length front
      = omega (arith, i.fits, length-drop k front) in
      lines_first n p (front ++ back) refl
      ∙ rw (up_to_front line_end front back h, i.size, drop-append-le k front back i.fits, on, i.joint, a, b, lines_first n p front refl)

  single_line : (n : LineNumber) (p : Place) (c : ℕ) (l : List ℕ) → AtEnd (c ∷ l) back → lines_from n p 0 (c ∷ l) ≡ line n p (line_text (c ∷ l)) ∷ []
  single_line n p c l a = lines_first n p (c ∷ l) refl ∙ rw (a.all, drop-length (c ∷ l), no_lines (number_after n 1) (place_after p (length (c ∷ l))))

  append_end : (n : LineNumber) (p : Place) (c : ℕ) (l : List ℕ) → any line_end (c ∷ l) ≡ true → AtEnd (c ∷ l) back → Appends n p (c ∷ l)
  append_end n p c l h a =
      let front : List ℕ = c ∷ l in
      let j : ℕ = one_if (joined front back) in
      let past : p.offset + (length front + j) ≡ p.offset + length front + j = omega arith in
      lines_first n p (front ++ back) refl
      ∙ rw (up_to_front line_end front back h, a.size, drop-append-add front back j, past, single_line n p c l a)
      (ap (λ (ls : List Line). line n p (line_text front) ∷ ls) (sym (lines_skip (number_after n 1) (place_after p (length front)) j back)))

  append_none : (n : LineNumber) (p : Place) → Appends n p []
  unfolding lines_from ends
  append_none n p =
      let a : n.number + 0 ≡ n.number = omega arith in
      let b : p.offset + 0 ≡ p.offset = omega arith in
      rw (a, b)

  -- where it holds for shorter texts
  append_by : (n : LineNumber) (p : Place) (front : List ℕ)
      → ((m : LineNumber) (q : Place) (l : List ℕ) → length l < length front → ended l ≡ true → Appends m q l)
      → ended front ≡ true → Appends n p front
  append_by n p [] on h = append_none n p
  append_by n p (c ∷ l) on h =
      let k : ℕ = line_length (c ∷ l) in
      let ending : any line_end (c ∷ l) ≡ true = ended_some c l h in
      ⊎_elim
      (λ (i : Inside (c ∷ l) back).
      append_inside n p c l ending i
      (on (number_after n 1) (place_after p k) (drop k (c ∷ l)) (omega (arith, line_some c l, length-drop k (c ∷ l))) (ended_drop k (c ∷ l) h)))
      (λ (a : AtEnd (c ∷ l) back). append_end n p c l ending a)
      (first_cut c l back h)

  append_within : (m : ℕ) (n : LineNumber) (p : Place) (front : List ℕ) → length front ≤ m → ended front ≡ true → Appends n p front
  append_within zero n p front k h = append_by n p front (λ o q l lt e. absurd (omega arith)) h
  append_within (suc m) n p front k h = append_by n p front (λ o q l lt e. append_within m o q l (omega arith) e) h

-- The lines of front ++ back are those of front and behind them those of back. Where front ends in CR and back begins with LF, this LF belongs
-- to the last line of front, and back's first line, a blank one, is lost.
pub lines_append : (n : LineNumber) (p : Place) (front back : List ℕ) → ended front ≡ true
    → lines_from n p 0 (front ++ back) ≡ lines_from n p 0 front ++ back_lines n p front (lines_from n p 0 front) back
lines_append n p front back h = append_within back (length front) n p front (omega arith) h

-- the line that is lost
pub lines_joined : (n : LineNumber) (p : Place) (front back : List ℕ) → joined front back ≡ true
    → lines_from n p 0 back ≡ line n p [] ∷ lines_from (number_after n 1) p 1 back
unfolding begins any
lines_joined n p front [] j = absurd (true≢false (sym j ∙ and-false (ends "\r" front)))
lines_joined n p front (c ∷ back) j =
    let lf : c ≡ code "\n" = eqb-true c (code "\n") (and_right (ends "\r" front) (is "\n" c) j) in
    rw lf
    (ended_line n p [] (code "\n" ∷ []) back refl (lf_ending back) (omega arith)
    ∙ ap (λ (ls : List Line). line n p [] ∷ ls) (sym (lines_skip (number_after n 1) p 1 (code "\n" ∷ back))))

-- Lines of a text, each with its ending
pub record Written : Type 0 where
  pub text : List ℕ
  pub ending : List ℕ

-- their octets, and behind them the text back
unfoldable pub written_on : List Written → List ℕ → List ℕ
written_on [] back = back
written_on (w ∷ ws) back = w.text ++ (w.ending ++ written_on ws back)

-- each is without CR and LF, and ended: its ending is all of the ending that stands there
abbrev pub Whole : List Written → List ℕ → Type 0
Whole [] back = Unit {0}
Whole (w ∷ ws) back =
    (any line_end w.text ≡ false) × (ending_length (w.ending ++ written_on ws back) ≡ length w.ending) × (0 < length w.ending) × Whole ws back

-- what they are read as: these lines, with numbers and places, and then the lines of back
unfoldable pub read_on : LineNumber → Place → List Written → List ℕ → List Line
read_on n p [] back = lines_from n p 0 back
read_on n p (w ∷ ws) back = line n p w.text ∷ read_on (number_after n 1) (place_after p (length w.text + length w.ending)) ws back

-- A text of whole lines, each without CR and LF and each ended, reads as these lines.
pub lines_written : (n : LineNumber) (p : Place) (ws : List Written) (back : List ℕ) → Whole ws back
    → lines_from n p 0 (written_on ws back) ≡ read_on n p ws back
unfolding written_on read_on
lines_written n p [] back h = refl
lines_written n p (w ∷ ws) back (text, ending, there, rest) =
    ended_line n p w.text w.ending (written_on ws back) text ending there
    ∙ ap (λ (ls : List Line). line n p w.text ∷ ls)
    (lines_written (number_after n 1) (place_after p (length w.text + length w.ending)) ws back rest)

-- The group above behind lines, and whether a rule line stands between there and the agent line before
unfoldable pub above_behind : ℕ → Bool → List Line → ℕ
above_behind above ruled [] = above
above_behind above ruled (l ∷ ls) =
    let role = role_of (kind_of l.text) in above_behind (group_at above ruled role) (ruled_after ruled role) ls

unfoldable pub ruled_behind : Bool → List Line → Bool
ruled_behind ruled [] = ruled
ruled_behind ruled (l ∷ ls) = ruled_behind (ruled_after ruled (role_of (kind_of l.text))) ls

-- The entries of lines and of lines behind them
pub entries_append : (above : ℕ) (ruled : Bool) (ls ms : List Line)
    → entries_from above ruled (ls ++ ms) ≡ entries_from above ruled ls ++ entries_from (above_behind above ruled ls) (ruled_behind ruled ls) ms
unfolding entries_from above_behind ruled_behind
entries_append above ruled [] ms = refl
entries_append above ruled (l ∷ ls) ms =
    let k = kind_of l.text in
    let role = role_of k in
    let group = group_at above ruled role in
    let rest = ruled_after ruled role in
    rw (entries_append group rest ls ms)
    (sym
    (append_assoc (entry_of group l k role) (entries_from group rest ls) (entries_from (above_behind group rest ls) (ruled_behind rest ls) ms)))

-- The entries of front ++ back: those of front, and then those of back, which go on from the group that is above.
pub entries_both : (above : ℕ) (ruled : Bool) (n : LineNumber) (p : Place) (front back : List ℕ) → ended front ≡ true
    → (let ls = lines_from n p 0 front in
    entries_from above ruled (lines_from n p 0 (front ++ back))
    ≡ entries_from above ruled ls ++ entries_from (above_behind above ruled ls) (ruled_behind ruled ls) (back_lines n p front ls back))
entries_both above ruled n p front back h =
    let ls = lines_from n p 0 front in rw (lines_append n p front back h) (entries_append above ruled ls (back_lines n p front ls back))
