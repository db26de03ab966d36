-- Where nothing but spaces and tabs stand behind the ordinary octets, these are the value. Assumes nothing.
use Rattle.std.proofs.Common.{ℕ, Bool, List, ◌≡◌, ◌+◌, ◌-◌, ◌≤◌, ◌∙◌, ap, sym, true, false, length, take, drop, length-drop, arith}
use lib.Seq.{drop-drop, length-take-le}
use Rattle.lists.specs.Lists.{all, up_to, from}
use Rattle.lists.proofs.Scans.{rest_of, take_up_to, drop_up_to, up_to_fits}
use Rattle.text.proofs.Trims.{trim_fits}
use Rattle.protocol.specs.Text.{solid, lead, trim_end}
use Rattle.protocol.specs.Classes.{stop}
use Rattle.readable.specs.Due.{ordinary, unusual}
use Rattle.fields.specs.Fields.{ended}
use Rattle.kinds.specs.Entries.{value_front}
use Rattle.kinds.proofs.Fronts.{value_read, value_fits}
use Rattle.kinds.proofs.Values.{ended_solid, ordinary_told, value_ordinary, value_behind, value_spaces}
use Rattle.kinds.proofs.entry.value_in.Goals as goal

module _ (s : List ℕ) (n : ℕ) (k : n ≡ length (up_to unusual s)) where
  abbrev rest : List ℕ
  rest = take (length s - n) (drop n s)

  rest-known : drop n s ≡ from unusual s
  rest-known = ap (λ (i : ℕ). drop i s) k ∙ drop_up_to unusual s

  -- behind the spaces and tabs
  behind : (m : ℕ) → m ≡ lead (drop n s) → drop (n + m) s ≡ from solid (from unusual s)
  unfolding lead
  behind m e =
      ap (λ (i : ℕ). drop (n + i) s) e ∙ sym (drop-drop (lead (drop n s)) n s) ∙ drop_up_to solid (drop n s) ∙ ap (from solid) rest-known

  ended-here : ended (drop n s) ≡ true → ended (from solid (from unusual s)) ≡ true
  ended-here e =
      let here : ended (from unusual s) ≡ true = ap ended (sym rest-known) ∙ e in
      ap ended (ended_solid (from unusual s) here) ∙ here

  ended-behind : (m : ℕ) (b : Bool) → m ≡ lead rest → ended (drop (n + m) s) ≡ b → ended (from solid (from unusual s)) ≡ b
  ended-behind m b e h = ap ended (sym (behind m (e ∙ ap lead (rest_of n s)))) ∙ h

  -- whether all octets of the value are ordinary
  usual-known : (b : Bool) (v : List ℕ) → v ≡ value_front s → ended (from solid (from unusual s)) ≡ b → b ≡ all ordinary v
  usual-known b v e h = sym h ∙ sym (ordinary_told s) ∙ ap (all ordinary) (sym e)

  whole : ended (from solid (from unusual s)) ≡ true → take n s ≡ value_front s
  whole e = ap (λ (i : ℕ). take i s) k ∙ take_up_to unusual s ∙ value_ordinary s e

  whole-usual : ended (from solid (from unusual s)) ≡ true → true ≡ all ordinary (take n s)
  whole-usual e = usual-known true (take n s) (whole e) e

  -- spaces and tabs behind them, and what stands behind those, which isn't ended
  module _ (spaces : ℕ) (e : spaces ≡ lead rest) (other : ended (drop (n + spaces) s) ≡ false) where
    unended : ended (from solid (from unusual s)) ≡ false
    unended = ended-behind spaces false e other

    module _ (m : ℕ) (told : m ≡ length (trim_end (up_to stop (take (length s - (n + spaces)) (drop (n + spaces) s))))) where
      last-size : m ≡ length (trim_end (up_to stop (from solid (from unusual s))))
      last-size = told ∙ ap (λ (l : List ℕ). length (trim_end (up_to stop l))) (rest_of (n + spaces) s ∙ behind spaces (e ∙ ap lead (rest_of n s)))

      spaces-known : spaces ≡ lead (from unusual s)
      spaces-known = e ∙ ap lead (rest_of n s ∙ rest-known)

      part-size : n + spaces + m ≡ length (value_front s)
      part-size = omega (arith, last-size, spaces-known, value_spaces (from unusual s) unended, k, value_behind s)

      part-in : n + spaces + m ≤ length s
      part-in = omega (arith, part-size, value_fits s)

      part : take (n + spaces + m) s ≡ value_front s
      part = ap (λ (i : ℕ). take i s) part-size ∙ value_read s

pub slice_bounds-result-end : goal.slice_bounds-result-end
slice_bounds-result-end c = sym (length-take-le _ _ (omega (arith, c.ordinary_words-n.ensures, up_to_fits unusual c.args.s.now)))

pub invariant_of-result : goal.invariant_of-result
invariant_of-result c =
    let s = c.args.s.now in
    let n = c.ordinary_words-n.result in
    let k = c.ordinary_words-n.ensures in
    record { told = whole-usual s n k (ended-here s n k (sym c.ends_at.ensures ∙ c.if-ends_at.true)) }

pub returns-then-ends_at : goal.returns-then-ends_at
returns-then-ends_at c =
    let s = c.args.s.now in
    let n = c.ordinary_words-n.result in
    let k = c.ordinary_words-n.ensures in
    whole s n k (ended-here s n k (sym c.ends_at.ensures ∙ c.if-ends_at.true))

pub overflow_add-end : goal.overflow_add-end
overflow_add-end c =
    let s = c.args.s.now in
    let n = c.ordinary_words-n.result in
    omega (arith, c.lead.ensures, ap lead (rest_of n s), trim_fits (drop n s), length-drop n s, c.ordinary_words-n.ensures, up_to_fits unusual s)

pub invariant_of-result-then-ends_at-2 : goal.invariant_of-result-then-ends_at-2
invariant_of-result-then-ends_at-2 c =
    let s = c.args.s.now in
    let n = c.ordinary_words-n.result in
    let k = c.ordinary_words-n.ensures in
    record { told = whole-usual s n k (ended-behind s n k c.lead.result true c.lead.ensures (sym c.ends_at-2.ensures ∙ c.if-ends_at-2.true)) }

pub returns-then-ends_at-2 : goal.returns-then-ends_at-2
returns-then-ends_at-2 c =
    let s = c.args.s.now in
    let n = c.ordinary_words-n.result in
    let k = c.ordinary_words-n.ensures in
    whole s n k (ended-behind s n k c.lead.result true c.lead.ensures (sym c.ends_at-2.ensures ∙ c.if-ends_at-2.true))

-- the value that goes on behind spaces and tabs
module _ (c : goal.After-value_length) where
  abbrev text : List ℕ
  text = c.args.s.now

  abbrev front : ℕ
  front = c.ordinary_words-n.result

  other : ended (drop (front + c.lead.result) text) ≡ false
  other = sym c.ends_at-2.ensures ∙ c.if-ends_at-2.false

  size-in : front + c.lead.result + c.value_length.result ≤ length text
  size-in = part-in text front c.ordinary_words-n.ensures c.lead.result c.lead.ensures other c.value_length.result c.value_length.ensures

  read : take (front + c.lead.result + c.value_length.result) text ≡ value_front text
  read = part text front c.ordinary_words-n.ensures c.lead.result c.lead.ensures other c.value_length.result c.value_length.ensures

pub overflow_add-all : goal.overflow_add-all
overflow_add-all c = omega (arith, size-in c)

pub slice_bounds-result-end-2 : goal.slice_bounds-result-end-2
slice_bounds-result-end-2 c = sym (length-take-le _ _ (size-in c))

pub invariant_of-result-2 : goal.invariant_of-result-2
invariant_of-result-2 c =
    let s = c.args.s.now in
    let n = c.ordinary_words-n.result in
    let k = c.ordinary_words-n.ensures in
    record { told = usual-known s n k false _ (read c) (unended s n k c.lead.result c.lead.ensures (other c)) }

pub returns : goal.returns
returns c =
    part c.args.s.now c.ordinary_words-n.result c.ordinary_words-n.ensures c.lead.result c.lead.ensures
    (sym c.ends_at-2.ensures ∙ c.if-ends_at-2.false) c.value_length.result c.value_length.ensures
