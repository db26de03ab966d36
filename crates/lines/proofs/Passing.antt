-- Lines that are passed over, and what is asked of a file's lines. Assumes nothing.
use Prim.Native.Nat.{ℕ, zero, suc, ◌+◌, ◌-◌, ◌*◌, ◌≤◌, ◌<◌}
use mathlib.Core.Path.{◌≡◌, refl, sym, ap, ◌∙◌}
use mathlib.Core.Bool.{Bool, true, false, false≢true}
use mathlib.Core.List.{List, [], ◌∷◌}
use native.Mathlib.Omega.{arith}
use lib.ListN.{length, take, drop, length-drop}
use lib.Seq.{drop-drop, drop-nil}
use borrow.Author.Tests.{not-true, eqb-true}
use Rattle.lists.specs.Choice.{one_if}
use Rattle.lists.specs.Lists.{any, up_to, total}
use Rattle.lists.proofs.Bools.{split, and_left, and_right, or_left, or_right}
use Rattle.lists.proofs.Parts.{up_to_stop, up_to_on}
use Rattle.protocol.specs.declared.LineNumber.{LineNumber}
use Rattle.protocol.specs.declared.Place.{Place}
use Rattle.protocol.specs.declared.Position.{Position}
use Rattle.protocol.specs.Octets.{is, upper, blank, line_end, lower_case}
use Rattle.protocol.specs.Text.{begins}
use Rattle.protocol.specs.Lines.{Line, line, number_after, place_after, line_text, lines_from}
use Rattle.protocol.proofs.FrontToBack.{lines_behind, lines_behind_lem, first_line_lem, lines_at}
use Rattle.lines.specs.Skips.{agent_octet, entry_octet, pairs, between, opens, closes, endings, agent_front, next_agent, blocks_at, PassedOver}
use Rattle.lines.specs.Spans.{next_at}
use Rattle.lines.proofs.Endings.{closing_ends, ends_closed, behind_closed, behind_open}
use Rattle.lines.proofs.Forward.{next_further}
use Rattle.lines.proofs.Pairs.{pairs_rest}
use Rattle.lines.proofs.Skips.{over_few}

-- Lines that begin with an octet that doesn't pass the test don't change what is asked.
abbrev pub Unasked : {X : Type 0} → (ℕ → Bool) → (List Line → X) → Type 0
Unasked first ask = (n : LineNumber) (p : Place) (c : ℕ) (l : List ℕ) (ls : List Line) → first c ≡ false → ask (line n p (line_text (c ∷ l)) ∷ ls) ≡ ask ls

-- behind the last octet is none
none_behind : (n : LineNumber) (p : Place) (c : ℕ) → lines_behind n p (c ∷ []) ≡ []
unfolding begins lines_from
none_behind n p c = split (closes c false) (λ e. behind_closed n p c [] e) (λ e. behind_open n p c [] e)

module _ {X : Type 0} (ask : List Line → X) (first : ℕ → Bool) (same : Unasked first ask) where
  -- one quiet octet
  octet_passed : (n : LineNumber) (p : Place) (c d : ℕ) (l : List ℕ) → opens first (c, d) ≡ false
      → ask (lines_behind n p (c ∷ d ∷ l)) ≡ ask (lines_behind (number_after n (one_if (closes c (is "\n" d)))) (place_after p 1) (d ∷ l))
  unfolding begins
  octet_passed n p c d l h =
      let m = number_after n 1 in
      let q = place_after p 1 in
      split (closes c (is "\n" d))
      (λ e.
      let g : first d ≡ false = rw (closing_ends c (is "\n" d) e) at h in
      rw e (ap ask (behind_closed n p c (d ∷ l) e ∙ first_line_lem m q d l) ∙ same m q d l _ g))
      (λ e. let z : n.number + 0 ≡ n.number = omega arith in rw (e, z) (ap ask (behind_open n p c (d ∷ l) e)))

  -- many
  passed : (k : ℕ) (n : LineNumber) (p : Place) (l : List ℕ) → any (opens first) (take k (pairs l)) ≡ false
      → ask (lines_behind n p l) ≡ ask (lines_behind (number_after n (endings (take k (pairs l)))) (place_after p k) (drop k l))
  unfolding any total lines_from
  passed zero n p l h = let q : n.number + 0 ≡ n.number = omega arith in let r : p.offset + 0 ≡ p.offset = omega arith in rw (q, r)
  passed (suc k) n p [] h = refl
  passed (suc k) n p (c ∷ []) h = rw (drop-nil {A = ℕ} k, none_behind n p c)
  passed (suc k) n p (c ∷ d ∷ l) h =
      let one = one_if (closes c (is "\n" d)) in
      let more = endings (take k (pairs (d ∷ l))) in
      let q : n.number + one + more ≡ n.number + (one + more) = omega arith in
      let r : p.offset + 1 + k ≡ p.offset + suc k = omega arith in
      let rest : Bool = any (opens first) (take k (pairs (d ∷ l))) in
      octet_passed n p c d l (or_left (opens first (c, d)) rest h)
      ∙ rw (← q, ← r) (passed k (number_after n one) (place_after p 1) (d ∷ l) (or_right (opens first (c, d)) rest h))

-- The lines behind the one at p are asked as those behind the one at r.
module _ {X : Type 0} (ask : List Line → X) (same : Unasked entry_octet ask) where
  pub past_on : (file : List ℕ) (p r : Position) → PassedOver file p r
      → ask (lines_at file (number_after p.number 1) (next_at file p.place)) ≡ ask (lines_at file (number_after r.number 1) (next_at file r.place))
  past_on file p r o =
      let n = p.number in
      let k = 64 * o.blocks in
      let rest : List ℕ = drop p.place.offset file in
      let blocks : List (ℕ × ℕ) = take k (pairs rest) in
      let m : LineNumber = number_after n (endings blocks) in
      let q : Place = place_after p.place k in
      let part : blocks ≡ blocks_at file p.place o.blocks = ap (take k) (pairs_rest file p.place.offset) in
      let there : lines_behind m q (drop k rest) ≡ lines_at file (number_after m 1) (next_at file q)
      = rw (drop-drop k p.place.offset file) (lines_behind_lem file m q) in
      let off : any (opens entry_octet) blocks ≡ false = rw part (not-true _ o.still) in
      sym (ap ask (lines_behind_lem file n p.place)) ∙ rw (o.number, o.place, ← part) (passed ask entry_octet same k n p.place rest off ∙ ap ask there)

-- Behind an octet behind which an agent line may begin, a line begins.
opening_closes : (c d : ℕ) → opens agent_octet (c, d) ≡ true → closes c (is "\n" d) ≡ true
unfolding agent_octet blank lower_case upper
opening_closes c d h =
    split (is "\n" d) (λ e. absurd (false≢true (and_right (line_end c) _ (rw (eqb-true d 10 e) at h))))
    (λ e. rw e (ends_closed c (and_left (line_end c) _ h)))

-- So the lines behind the one at p are asked as those from the next one on that may be an agent line; its number is the one after the line
-- endings that are passed.
module _ {X : Type 0} (ask : List Line → X) (same : Unasked agent_octet ask) where
  agents_behind : (n : LineNumber) (p : Place) (l : List ℕ) → 0 < length l → let k = agent_front (pairs l) + 1 in
      ask (lines_behind n p l) ≡ ask (lines_from (number_after n (endings (take k (pairs l)))) (place_after p k) 0 (drop k l))
  unfolding up_to total begins lines_from
  agents_behind n p [] i = absurd (omega arith)
  agents_behind n p (c ∷ []) i = ap ask (none_behind n p c)
  agents_behind n p (c ∷ d ∷ l) i =
      let one = one_if (closes c (is "\n" d)) in
      split (opens agent_octet (c, d))
      (λ h.
      let e = opening_closes c d h in
      rw (up_to_stop (opens agent_octet) (c, d) (pairs (d ∷ l)) h, e) (ap ask (behind_closed n p c (d ∷ l) e)))
      (λ h.
      let w = agent_front (pairs (d ∷ l)) in
      let k = w + 1 in
      let more : suc w + 1 ≡ suc k = omega arith in
      let e : p.offset + 1 + k ≡ p.offset + suc k = omega arith in
      let rest = endings (take k (pairs (d ∷ l))) in
      let q : n.number + one + rest ≡ n.number + (one + rest) = omega arith in
      rw (up_to_on (opens agent_octet) (c, d) (pairs (d ∷ l)) h, more, ← e, ← q)
      (octet_passed ask agent_octet same n p c d l h ∙ agents_behind (number_after n one) (place_after p 1) (d ∷ l) (omega arith)))

  pub agents_on : (file : List ℕ) (n : LineNumber) (p : Place) → p.offset < length file
      → ask (lines_at file (number_after n 1) (next_at file p))
      ≡ ask (lines_at file (number_after n (endings (between file p (next_agent file p)))) (next_agent file p))
  agents_on file n p h =
      let k = agent_front (drop p.offset (pairs file)) + 1 in
      let size : p.offset + k - p.offset ≡ k = omega arith in
      let on = rw (pairs_rest file p.offset) at (agents_behind n p (drop p.offset file) (simp length-drop (omega arith))) in
      sym (ap ask (lines_behind_lem file n p)) ∙ rw size (on ∙ rw (drop-drop k p.offset file))

-- Past blocks the next line begins further on, inside the file or at its end; and no more lines than octets are passed over.
module _ (file : List ℕ) (p r : Position) (o : PassedOver file p r) where
  there : r.place.offset ≡ p.place.offset + 64 * o.blocks
  there = ap (λ (x : Place). x.offset) o.place

  pub past_inside : p.place.offset < length file → r.place.offset < length file
  past_inside h = omega (arith, there, o.inside)

  pub past_further : p.place.offset < length file → p.place.offset < (next_at file r.place).offset
  past_further h = omega (arith, there, next_further file r.place (past_inside h))

  -- a line's number is at most its place and 1: so it is for the next line too
  pub past_few : p.place.offset < length file → p.number.number ≤ p.place.offset + 1
      → (number_after r.number 1).number ≤ (next_at file r.place).offset + 1
  past_few h k = omega (arith, over_few file p r o, next_further file r.place (past_inside h))

-- The next line that may be an agent line begins further on too.
pub agents_further : (file : List ℕ) (p : Place) → p.offset < (next_agent file p).offset
agents_further file p = omega arith
