-- `kinds::entry::ordinary_words` meets its contract: what is left to search gives the whole search's outcome. Assumes nothing.
use Prim.Native.Nat.{ℕ, ◌+◌, ◌-◌, ◌≤◌, ◌<◌}
use mathlib.Core.Path.{◌≡◌, refl, sym, ap, ◌∙◌}
use mathlib.Core.Bool.{true, false}
use mathlib.Core.Logic.{◌↔◌}
use mathlib.Core.List.{List}
use native.Mathlib.Omega.{arith}
use lib.ListN.{length, take, drop, get_or, length-take, length-drop}
use lib.Seq.{length-take-le, get_or-take, get_or-drop}
use borrow.Author.Tests.{ltb-true}
use borrow.Author.Rules.{rules}
use Rattle.lists.specs.Lists.{any, up_to}
use Rattle.lists.proofs.Bools.{split}
use Rattle.lists.proofs.Cuts.{up_to_none}
use Rattle.lists.proofs.Scans.{rest_of, scan_stop, up_to_fits, up_to_stops, any_found}
use Rattle.readable.specs.Due.{unusual}
use Rattle.words.specs.Words.{octets_of}
use Rattle.words.proofs.Markings.{first_found, no_marks}
use Rattle.text.proofs.Seeks.{up_to_part, scan_from}
use Rattle.kinds.proofs.entry.ordinary_words.Statement.{statement}
use Rattle.kinds.proofs.entry.ordinary_words.Tie as tie

abbrev invariant-loop-i : tie.invariant-loop-i
invariant-loop-i s i₀ i = (i ≤ length s) × (i + length (up_to unusual (drop i s)) ≡ length (up_to unusual s))

abbrev decreases-loop-i : tie.decreases-loop-i
decreases-loop-i s i₀ i = length s - i

loop-i-init : tie.Need-loop-i-init invariant-loop-i decreases-loop-i
loop-i-init c = (omega arith, omega arith)

overflow_sub-s : tie.Need-overflow_sub-s invariant-loop-i decreases-loop-i
overflow_sub-s c = omega (arith, c.loop-i.invariant.0)

word_at-requires : tie.Need-word_at-requires invariant-loop-i decreases-loop-i
word_at-requires c κs = omega (arith, c.before.loop-i.invariant.0)

marks-m-requires : tie.Need-marks-m-requires invariant-loop-i decreases-loop-i
marks-m-requires c κs = omega arith

first_mark-requires : tie.Need-first_mark-requires invariant-loop-i decreases-loop-i
first_mark-requires c κs = tt

-- the text, where the search has come to, and the word there
module _ (l : tie.At-loop-i invariant-loop-i decreases-loop-i) where
  abbrev text : List ℕ
  text = l.before.before.args.s.now

  abbrev here : ℕ
  here = l.loop-i.i

  abbrev eight : List ℕ
  eight = take 8 (drop here text)

  abbrev front : ℕ
  front = length (up_to unusual eight)

  on : (r : ℕ) → r ≡ here + front → r + length (up_to unusual (drop r text)) ≡ length (up_to unusual text)
  on r e = scan_from unusual text here _ r (up_to_part unusual 8 (drop here text)) e ∙ l.loop-i.invariant.1

module _ (c : tie.After-marks-m invariant-loop-i decreases-loop-i) where
  abbrev loop : tie.At-loop-i invariant-loop-i decreases-loop-i
  loop = c.before.before.before

  zero-none : (c.marks-m.result ≡ 0) ↔ (any unusual (octets_of 8 c.before.word_at.result) ≡ false)
  zero-none = no_marks unusual 8 c.marks-m.result (octets_of 8 c.before.word_at.result) (omega arith) c.marks-m.ensures

  noted : any unusual (octets_of 8 c.before.word_at.result) ≡ any unusual (eight loop)
  noted = ap (any unusual) c.before.word_at.ensures

  -- a word of ordinary octets
  none : c.marks-m.result ≡ 0 → front loop ≡ 8
  none z =
      ap length (up_to_none unusual (eight loop) (sym noted ∙ zero-none.0 z))
      ∙ length-take-le 8 (drop (here loop) (text loop)) (simp length-drop (omega arith))

  -- one with an unusual octet, which then stands at its front
  some : (c.marks-m.result ≡ 0 → ⊥) → length (up_to unusual (drop (here loop + front loop) (text loop))) ≡ 0
  some z =
      let l = loop in
      let seen : any unusual (eight l) ≡ true = split (any unusual (eight l)) (λ e. e) (λ e. absurd (z (zero-none.1 (noted ∙ e)))) in
      let inside : front l < length (eight l) = ltb-true (front l) (length (eight l)) (any_found unusual (eight l) ∙ seen) in
      let size : length (eight l) ≤ 8 = omega (arith, length-take 8 (drop (here l) (text l))) in
      let there : unusual (get_or (text l) (here l + front l) 0) ≡ true
      = ap unusual (sym (get_or-take 8 (drop (here l) (text l)) (front l) 0 (omega arith) ∙ get_or-drop (here l) (text l) (front l) 0)) ∙ up_to_stops unusual (eight l) 0 inside in
      scan_stop unusual (text l) (here l + front l) 0 (omega (arith, length-take 8 (drop (here l) (text l)), length-drop (here l) (text l))) there

-- the first unusual octet of a word
module _ (c : tie.After-first_mark invariant-loop-i decreases-loop-i) where
  abbrev marked : tie.After-marks-m invariant-loop-i decreases-loop-i
  marked = c.before.before

  found : c.first_mark.result ≡ front (loop marked)
  found =
      c.first_mark.ensures
      ∙ first_found unusual 8 marked.before.word_at.result marked.marks-m.result (eight (loop marked))
      marked.before.word_at.ensures marked.marks-m.ensures

overflow_add-result : tie.Need-overflow_add-result invariant-loop-i decreases-loop-i
overflow_add-result c =
    let l = loop (marked c) in
    omega (arith, found c, up_to_fits unusual (eight l), length-take 8 (drop (here l) (text l)), l.loop-i.invariant.0)

returns-then-m-ne0 : tie.Need-returns-then-m-ne0 invariant-loop-i decreases-loop-i
returns-then-m-ne0 c =
    let l = loop (marked c) in
    omega (arith, found c, on l (here l + front l) refl, some (marked c) c.before.if-m-ne0.true)

overflow_add-i : tie.Need-overflow_add-i invariant-loop-i decreases-loop-i
overflow_add-i c = let l = loop c.before in omega (arith, l.loop-i.invariant.0)

loop-i-smaller : tie.Need-loop-i-smaller invariant-loop-i decreases-loop-i
loop-i-smaller c = omega arith

loop-i-preserved : tie.Need-loop-i-preserved invariant-loop-i decreases-loop-i
loop-i-preserved c =
    let m = c.before in
    let l = loop m in
    (omega arith, on l (here l + 8) (omega (arith, none m c.if-m-ne0.false)))

slice_bounds-ordinary_front-count : tie.Need-slice_bounds-ordinary_front-count invariant-loop-i decreases-loop-i
slice_bounds-ordinary_front-count c = c.before.loop-i.invariant.0

slice_bounds-ordinary_front-start : tie.Need-slice_bounds-ordinary_front-start invariant-loop-i decreases-loop-i
slice_bounds-ordinary_front-start c = c.before.loop-i.invariant.0

slice_bounds-ordinary_front-end : tie.Need-slice_bounds-ordinary_front-end invariant-loop-i decreases-loop-i
slice_bounds-ordinary_front-end c = search rules

ordinary_front-requires : tie.Need-ordinary_front-requires invariant-loop-i decreases-loop-i
ordinary_front-requires c κs = tt

-- past the last whole word
module _ (c : tie.After-ordinary_front invariant-loop-i decreases-loop-i) where
  abbrev last : tie.At-loop-i invariant-loop-i decreases-loop-i
  last = c.before.before.before

  whole : here last + c.ordinary_front.result ≡ length (up_to unusual (text last))
  whole = ap (λ (n : ℕ). here last + n) (c.ordinary_front.ensures ∙ ap (λ (l : List ℕ). length (up_to unusual l)) (rest_of (here last) (text last))) ∙ last.loop-i.invariant.1

overflow_add-result-2 : tie.Need-overflow_add-result-2 invariant-loop-i decreases-loop-i
overflow_add-result-2 c = omega (arith, whole c, up_to_fits unusual (text (last c)))

returns : tie.Need-returns invariant-loop-i decreases-loop-i
returns c = whole c

pub ordinary_words_spec : {M : Type 1} → statement M
ordinary_words_spec = tie.close (tie.spec invariant-loop-i decreases-loop-i loop-i-init overflow_sub-s word_at-requires marks-m-requires first_mark-requires overflow_add-result returns-then-m-ne0 overflow_add-i loop-i-smaller loop-i-preserved slice_bounds-ordinary_front-count slice_bounds-ordinary_front-start slice_bounds-ordinary_front-end ordinary_front-requires overflow_add-result-2 returns)
