-- Laws of one replacement, one octet or one copy at a time: what is left at an index, and behind it. Assumes nothing.
use Prim.Native.Nat.{ℕ, suc, ◌+◌, ◌-◌, ◌≤◌, ◌<◌}
use Prim.Native.Char.{Char}
use mathlib.Core.Path.{◌≡◌, refl, sym, ap, ◌∙◌}
use mathlib.Core.Bool.{Bool, true, false}
use mathlib.Core.List.{List, [], ◌∷◌, ◌++◌}
use native.Mathlib.Omega.{arith}
use native.Mathlib.Numerals.{unary_clauses}
use lib.ListN.{length, take, drop, get_or, length-append, length-drop, take-append-drop}
use lib.Seq.{drop-drop, get_or-take, length-take-le, sets}
use borrow.Author.Tests.{not-true, not-false}
use Rattle.lists.specs.Lists.{all, up_to}
use Rattle.lists.proofs.Bools.{split}
use Rattle.lists.proofs.Scans.{drop_one, scan_none, scan_stop, scan_on}
use Rattle.lists.proofs.Parts.{up_to_stop, up_to_on}
use Rattle.lists.proofs.Fronts.{up_to_clear}
use Rattle.protocol.specs.Octets.{is}
use Rattle.protocol.specs.Text.{ends}
use Rattle.protocol.specs.Normal.{is_escape, is_encoded, replacement, normal}
use Rattle.protocol.specs.Pattern.{raw_text}
use Rattle.protocol.proofs.Sizes.{end_mark_length}
use Rattle.escapes.specs.Escapes.{kept, taken}
use Rattle.words.specs.Words.{among}
use Rattle.text.proofs.Seeks.{only_one}
use Rattle.normal.specs.Literal.{literal}
use Rattle.normal.proofs.Literal.{literal_kept}
use Rattle.normal.proofs.Steps.{normal_cons, normal_kept, Stores, store_on}

-- an escape is whole
taken_whole : (c : ℕ) (l : List ℕ) → taken c l ≤ suc (length l)
unfolding is_escape
taken_whole c [] = omega arith
taken_whole c (d ∷ []) = omega arith
taken_whole c (d ∷ e ∷ l) = split (is_escape c (d ∷ e ∷ l)) (λ h. rw h (omega arith)) (λ h. rw h (omega arith))

taken_some : (c : ℕ) (l : List ℕ) → 0 < taken c l
taken_some c l = split (is_escape c l) (λ h. rw h (omega arith)) (λ h. rw h (omega arith))

-- what is left at the index i is a replacement's octets and what is left behind it; the replacement takes some octets, and no more than there are
pub record Turn (stars : Bool) (s : List ℕ) (i : ℕ) (octets : List ℕ) (taken : ℕ) : Type 0 where
  pub on : normal stars 0 (drop i s) ≡ octets ++ normal stars 0 (drop (i + taken) s)
  pub whole : length (normal stars 0 (drop i s)) ≡ length octets + length (normal stars 0 (drop (i + taken) s))
  pub inside : i + taken ≤ length s
  pub further : i < i + taken

module _ (stars : Bool) (s : List ℕ) (i : ℕ) (h : i < length s) where
  pub turn : (octets : List ℕ) (n : ℕ) → octets ≡ replacement stars (get_or s i 0) (drop (i + 1) s) → n ≡ taken (get_or s i 0) (drop (i + 1) s)
      → Turn stars s i octets n
  turn octets n e f =
      let c = get_or s i 0 in
      let l = drop (i + 1) s in
      let o : normal stars 0 (drop i s) ≡ octets ++ normal stars 0 (drop (i + n) s) =
      rw (e, f, ← drop-drop (taken c l) i s, drop_one s i 0 h) (normal_cons stars c l) in
      record {
        on = o;
        whole = ap length o ∙ length-append octets (normal stars 0 (drop (i + n) s));
        inside = omega (arith, taken_whole c l, length-drop (i + 1) s);
        further = omega (arith, taken_some c l);
      }

  -- an octet that stays is the first of the octets in front, and of what is left; any other ends those in front
  pub front_ends : kept stars (get_or s i 0) ≡ false → up_to (is_encoded stars) (drop i s) ≡ []
  front_ends e = rw (drop_one s i 0 h) (up_to_stop (is_encoded stars) _ _ (not-false _ e))

  pub front_on : kept stars (get_or s i 0) ≡ true → up_to (is_encoded stars) (drop i s) ≡ get_or s i 0 ∷ up_to (is_encoded stars) (drop (i + 1) s)
  front_on e = rw (drop_one s i 0 h) (up_to_on (is_encoded stars) _ _ (not-true _ e))

  pub normal_on : kept stars (get_or s i 0) ≡ true → normal stars 0 (drop i s) ≡ get_or s i 0 ∷ normal stars 0 (drop (i + 1) s)
  normal_on e = rw (drop_one s i 0 h) (normal_kept stars _ _ (not-true _ e))

-- the next octet of a front that is copied, and those behind it
pub copy_on : (s : List ℕ) (n i : ℕ) → i < n → n ≤ length s → drop i (take n s) ≡ get_or s i 0 ∷ drop (i + 1) (take n s)
copy_on s n i h k = drop_one (take n s) i 0 (omega (arith, length-take-le n s k)) ∙ rw (get_or-take n s i 0 h)

-- literal octets stand in front of the first that is encoded
literal_first : (stars : Bool) (n : ℕ) (s : List ℕ) → all literal (take n s) ≡ true → up_to (is_encoded stars) s ≡ take n s ++ up_to (is_encoded stars) (drop n s)
literal_first stars n s h =
    ap (up_to (is_encoded stars)) (sym (take-append-drop n s))
    ∙ up_to_clear literal (is_encoded stars) (λ x e. literal_kept x e stars) (take n s) (drop n s) h

-- `copy` holds literal octets of the front, n of them: what is left of the front, stored behind them
module _ (stars : Bool) (s out : List ℕ) (n : ℕ) (copy : List ℕ) (e : (n ≤ length s) × (all literal (take n s) ≡ true) × (copy ≡ sets out 0 (take n s))) where
  pub literal_stored : Stores out (up_to (is_encoded stars) s) 0 copy (up_to (is_encoded stars) (drop n s)) n
  literal_stored =
      let z : 0 + length (take n s) ≡ n = omega (arith, length-take-le n s e.0) in
      let start : Stores out (up_to (is_encoded stars) s) 0 out (up_to (is_encoded stars) s) 0 = record { end = refl; size = refl; same = refl } in
      rw e.2 (rw z at (store_on start (take n s) (up_to (is_encoded stars) (drop n s)) (literal_first stars n s e.1)))

  pub front_rest : {r : ℕ} {o : List ℕ} → (r ≡ n + length (up_to (is_encoded stars) (drop n s))) × (o ≡ sets copy n (up_to (is_encoded stars) (drop n s)))
      → (r ≡ length (up_to (is_encoded stars) s)) × (o ≡ sets out 0 (up_to (is_encoded stars) s))
  front_rest (f, g) = (omega (arith, f, literal_stored), g ∙ literal_stored.same)

-- the last octet, by its index
ends_last : (c : Char) (l : List ℕ) → 0 < length l → ends c l ≡ is c (get_or l (length l - 1) 0)
unfolding ends
ends_last c [] h = absurd (omega arith)
ends_last c (x ∷ []) h = refl
ends_last c (x ∷ y ∷ l) h = simp unary_clauses (simp unary_clauses at (ends_last c (y ∷ l) (omega arith)))

module _ (raw : List ℕ) where
  text_end_marked : ends "$" raw ≡ true → length (raw_text raw) ≡ length raw - 1
  text_end_marked h = omega (arith, rw h at (end_mark_length raw))

  text_without_end_mark : ends "$" raw ≡ false → length (raw_text raw) ≡ length raw
  text_without_end_mark h = omega (arith, rw h at (end_mark_length raw))

  -- a "$" looked for from the last octet on
  pub end_mark_sought : 0 < length raw → length raw - 1 + length (up_to (among 36 36 true) (drop (length raw - 1) raw)) ≡ length (raw_text raw)
  end_mark_sought h =
      let last = length raw - 1 in
      let there = only_one 36 (get_or raw last 0) ∙ sym (ends_last "$" raw h) in
      split (ends "$" raw)
      (λ e. omega (arith, scan_stop (among 36 36 true) raw last 0 (omega arith) (there ∙ e), text_end_marked e))
      (λ e.
      omega (
        arith,
        scan_on (among 36 36 true) raw last 0 (omega arith) (there ∙ e),
        scan_none (among 36 36 true) raw (last + 1) 0 (omega arith),
        text_without_end_mark e,
      ))
