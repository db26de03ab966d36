-- Quiet octets and the line endings among them: octet by octet, and from one block to the next. Assumes nothing.
use Prim.Native.Nat.{ℕ, suc, min, ◌+◌, ◌-◌, ◌*◌, ◌≤◌, ◌<◌}
use mathlib.Core.Path.{◌≡◌, refl, sym, ap, ap₂, ◌∙◌}
use mathlib.Core.Bool.{Bool, true, false, ◌&&◌, ◌||◌, not, false≢true, true≢false}
use mathlib.Core.List.{List, [], ◌∷◌}
use Rattle.std.specs.Prelude.{Option, Some, None, MatchOption, cond}
use Rattle.std.specs.Ordering.{ord_min, nat_cmp}
use Rattle.std.specs.List.{position, position_or_len, zip}
use Rattle.std.proofs.lemmas.List.Recursion.{is_position_or_len}
use native.Mathlib.Omega.{arith}
use lib.Bits.{bit_or}
use lib.Dec.{eqb, ltb}
use lib.ListN.{length, take, drop, get_or, length-take, length-drop}
use lib.Seq.{drop-drop, take_all}
use borrow.Author.Tests.{not-true, not-false, ltb-true, ltb-false, lt-ltb, le-ltb}
use Rattle.lists.specs.Choice.{one_if}
use Rattle.lists.specs.Lists.{any, up_to, total, numbers_from}
use Rattle.lists.proofs.Bools.{one_at_most, split, and_left, and_right}
use Rattle.lists.proofs.Parts.{up_to_stop, up_to_on}
use Rattle.lists.proofs.Scans.{up_to_fits, any_found}
use Rattle.lists.proofs.Cuts.{up_to_within, up_to_over}
use Rattle.octets.proofs.Every.{every_octet_lem}
use Rattle.protocol.specs.declared.LineNumber.{LineNumber}
use Rattle.protocol.specs.declared.Place.{Place}
use Rattle.protocol.specs.declared.Position.{Position}
use Rattle.protocol.specs.Octets.{is, upper, blank, line_end, lower_case}
use Rattle.protocol.specs.Lines.{line_number, place_at, number_after, place_after}
use Rattle.words.specs.Words.{among}
use Rattle.text.proofs.Seeks.{end_low}
use Rattle.lines.specs.Skips.{agent_octet, entry_octet, pairs, between, opens, quiet, closes, endings, agent_front, blocks_at, PassedOver, PassedFrom}
use Rattle.lines.proofs.Pairs.{pairs_length, pairs_part, zip_next, any_parts, total_parts}

-- without a branch: a letter with the bit 32 set is the lower-case one
pub agent_bits : (x : ℕ) → x < 256 → (eqb (bit_or x 32) 117 || eqb x 32 || eqb x 9) ≡ agent_octet x
unfolding numbers_from agent_octet blank lower_case upper
agent_bits = every_octet_lem (λ x. eqb (bit_or x 32) 117 || eqb x 32 || eqb x 9) agent_octet refl

pub entry_bits : (x : ℕ) → x < 256 → (eqb (bit_or x 32) 97 || eqb (bit_or x 32) 100 || agent_octet x) ≡ entry_octet x
unfolding numbers_from entry_octet agent_octet blank lower_case upper
entry_bits = every_octet_lem (λ x. eqb (bit_or x 32) 97 || eqb (bit_or x 32) 100 || agent_octet x) entry_octet refl

-- one turn of a search
module _ {x : ℕ × ℕ} {l rest : List (ℕ × ℕ)} (e : l ≡ x ∷ rest) where
  pub front_here : opens agent_octet x ≡ true → agent_front l ≡ 0
  front_here h = rw (e, up_to_stop (opens agent_octet) x rest h)

  pub front_on : opens agent_octet x ≡ false → agent_front l ≡ suc (agent_front rest)
  front_on h = rw (e, up_to_on (opens agent_octet) x rest h)

-- the least of two numbers, as the code has it
pub least : (a b : ℕ) → ord_min nat_cmp a b ≡ min a b
least a b =
    split (ltb b a) (λ e. rw e (omega (arith, ltb-true b a e)))
    (λ e. rw e (split (eqb b a) (λ f. rw f (omega (arith, ltb-false b a e))) (λ f. rw f (omega (arith, ltb-false b a e)))))

-- what a search by position finds
module _ (l : List (ℕ × ℕ)) where
  front_is : position_or_len (opens agent_octet) l ≡ agent_front l
  unfolding up_to
  front_is = sym (is_position_or_len (λ m. length (up_to (opens agent_octet) m)) (opens agent_octet) refl step l)
    where
      step : (x : ℕ × ℕ) (m : List (ℕ × ℕ)) → length (up_to (opens agent_octet) (x ∷ m)) ≡ cond (opens agent_octet x) 0 (1 + length (up_to (opens agent_octet) m))
      step x m = split (opens agent_octet x) (λ e. rw (up_to_stop (opens agent_octet) x m e, e)) (λ e. rw (up_to_on (opens agent_octet) x m e, e) (omega arith))

  pub front_found : (i : ℕ) → i ≡ agent_front l → i < length l → Some i ≡ position (opens agent_octet) l
  front_found i e h = let k : agent_front l < length l = omega arith in rw (front_is, lt-ltb _ _ k, e)

  pub front_missed : length l ≤ agent_front l → None ≡ position (opens agent_octet) l
  front_missed h = rw (front_is, le-ltb _ _ h)

  pub front_sort : MatchOption (position (opens agent_octet) l) (agent_front l ≡ length l) (λ i. (i ≡ agent_front l) × (i < length l))
  front_sort =
      split (ltb (agent_front l) (length l)) (λ e. rw (front_is, e) (refl, ltb-true _ _ e))
      (λ e. rw (front_is, e) (omega (arith, ltb-false _ _ e, up_to_fits (opens agent_octet) l)))

pub front_at : (l : List (ℕ × ℕ)) (r : Option ℕ) → r ≡ position (opens agent_octet) l
    → MatchOption r (agent_front l ≡ length l) (λ i. (i ≡ agent_front l) × (i < length l))
front_at l r e = rw e (front_sort l)

pub front_quiet : (l : List (ℕ × ℕ)) → quiet agent_octet l ≡ true → agent_front l ≡ length l
front_quiet l h = omega (arith, ltb-false _ _ (any_found (opens agent_octet) l ∙ not-true _ h), up_to_fits (opens agent_octet) l)

-- as far as a part goes, and behind it
module _ (s : List ℕ) (i k : ℕ) (f : i + k < length s) (part : List (ℕ × ℕ)) (e : part ≡ take k (drop i (pairs s))) where
  abbrev rest : List (ℕ × ℕ)
  rest = drop i (pairs s)

  size : length (take k rest) ≡ k
  size = simp (length-take, length-drop, pairs_length) (omega arith)

  holds : ltb (agent_front part) k ≡ any (opens agent_octet) (take k rest)
  holds = rw e (rw size at (any_found (opens agent_octet) (take k rest)))

  pub front_near : agent_front part < k → agent_front part ≡ agent_front rest
  front_near h = ap agent_front e ∙ up_to_within (opens agent_octet) k rest (sym holds ∙ lt-ltb _ k h)

  pub front_behind : k ≤ agent_front part → agent_front rest ≡ k + agent_front (drop (i + k) (pairs s))
  front_behind h =
      let fits : k ≤ length rest = omega (arith, length-drop i (pairs s), pairs_length s) in
      rw (← drop-drop k i (pairs s)) (up_to_over (opens agent_octet) k rest fits (sym holds ∙ le-ltb _ k h))

  -- as a search finds it there
  pub front_searched : (r : Option ℕ) → r ≡ position (opens agent_octet) part
      → MatchOption r (agent_front rest ≡ k + agent_front (drop (i + k) (pairs s))) (λ j. (j ≡ agent_front rest) × (j < k))
  front_searched None h = front_behind (omega (arith, front_at part None h, ap length e, size))
  front_searched (Some j) h =
      let found = front_at part (Some j) h in
      let inside : j < k = omega (arith, found, ap length e, size) in
      (omega (arith, found, front_near (omega (arith, found))), inside)

  pub quiet_behind : quiet agent_octet part ≡ true → agent_front rest ≡ k + agent_front (drop (i + k) (pairs s))
  quiet_behind h = front_behind (omega (arith, front_quiet part h, ap length e, size))

-- no line ends in front of the first octet from LF to CR
pub front_sought : (s : List ℕ) (i : ℕ) → i ≡ length (up_to (among 10 13 true) s) → i < length s → agent_front (pairs s) ≡ i + agent_front (drop i (pairs s))
unfolding up_to
front_sought [] i e h = absurd (omega arith)
front_sought (x ∷ []) i e h =
    split (among 10 13 true x) (λ a. let none : i ≡ 0 = rw a at e in rw none (omega arith))
    (λ a. let one : i ≡ 1 = rw a at e in absurd (omega arith))
front_sought (x ∷ y ∷ l) i e h =
    split (among 10 13 true x) (λ a. let none : i ≡ 0 = rw a at e in rw none (omega arith))
    (λ a.
    let j = length (up_to (among 10 13 true) (y ∷ l)) in
    let more : i ≡ suc j = rw a at e in
    let inner : line_end x ≡ false = split (line_end x) (λ b. absurd (true≢false (sym (end_low 10 (omega arith) x b) ∙ a))) (λ b. b) in
    let on = front_on {x = (x, y)} {rest = pairs (y ∷ l)} refl (rw inner) in
    rw more (omega (arith, on, front_sought (y ∷ l) j refl (omega arith))))

pub front_fits : (s : List ℕ) (i : ℕ) → agent_front (drop i (pairs s)) ≤ length s - 1 - i
front_fits s i = omega (arith, up_to_fits (opens agent_octet) (drop i (pairs s)), length-drop i (pairs s), pairs_length s)

-- two parts
neither : (a b : Bool) → not (a || b) ≡ (not a && not b)
neither true b = refl
neither false b = refl

quiet_parts : (l : List (ℕ × ℕ)) (n m : ℕ) → quiet entry_octet (take (n + m) l) ≡ (quiet entry_octet (take n l) && quiet entry_octet (take m (drop n l)))
quiet_parts l n m = ap not (any_parts (opens entry_octet) n m l) ∙ neither (any (opens entry_octet) (take n l)) (any (opens entry_octet) (take m (drop n l)))

-- one block more
module _ (s : List ℕ) (p : Place) (k : ℕ) where
  abbrev behind : Place
  behind = place_after p (64 * k)

  more : 64 * (k + 1) ≡ 64 * k + 64
  more = omega arith

  quiet_more : quiet entry_octet (blocks_at s p (k + 1)) ≡ (quiet entry_octet (blocks_at s p k) && quiet entry_octet (blocks_at s behind 1))
  quiet_more =
      rw (more, ← drop-drop (64 * k) p.offset (pairs s)) (quiet_parts (drop p.offset (pairs s)) (64 * k) 64)

  endings_more : endings (blocks_at s p (k + 1)) ≡ endings (blocks_at s p k) + endings (blocks_at s behind 1)
  endings_more = rw (more, ← drop-drop (64 * k) p.offset (pairs s)) (total_parts _ (64 * k) 64 (drop p.offset (pairs s)))

-- each octet closes one line at most
endings_few : (l : List (ℕ × ℕ)) → endings l ≤ length l
unfolding total
endings_few [] = omega arith
endings_few (x ∷ l) = omega (arith, endings_few l, one_at_most (closes x.0 (is "\n" x.1)))

pub endings_fit : (n : ℕ) (l : List (ℕ × ℕ)) → endings (take n l) ≤ n
endings_fit n l = omega (arith, endings_few (take n l), length-take n l)

pub endings_left : (n : ℕ) (l : List (ℕ × ℕ)) → endings (drop n l) ≤ length l - n
endings_left n l = omega (arith, endings_few (drop n l), length-drop n l)

-- up to an octet, and from there on
pub endings_cut : (n : ℕ) (l : List (ℕ × ℕ)) → endings l ≡ endings (take n l) + endings (drop n l)
endings_cut n l =
    rw (take_all (n + length l) l (omega arith), take_all (length l) (drop n l) (omega (arith, length-drop n l))) at (total_parts (λ (x : ℕ × ℕ). one_if (closes x.0 (is "\n" x.1))) n (length l) l)

-- and a block more
pub endings_block : (n k : ℕ) (l : List (ℕ × ℕ)) → k ≡ n + 64 → endings (take k l) ≡ endings (take n l) + endings (take 64 (drop n l))
endings_block n k l e = rw e (total_parts _ n 64 l)

-- from one place up to another
module _ (s : List ℕ) where
  pub endings_between : (p q r : Place) → p.offset ≤ q.offset → q.offset ≤ r.offset
      → endings (between s p r) ≡ endings (between s p q) + endings (between s q r)
  endings_between p q r h k =
      let i = p.offset in
      let n = q.offset - i in
      let m = r.offset - q.offset in
      let all : r.offset - i ≡ n + m = omega arith in
      let there : i + n ≡ q.offset = omega arith in
      let rest = drop-drop n i (pairs s) ∙ ap (λ (j : ℕ). drop j (pairs s)) there in
      rw (all, ← rest) (total_parts _ n m (drop i (pairs s)))

  pub few_between : (p q : Place) → endings (between s p q) ≤ q.offset - p.offset
  few_between p q = endings_fit (q.offset - p.offset) (drop p.offset (pairs s))

  pub none_between : (p : Place) → endings (between s p p) ≡ 0
  none_between p = omega (arith, few_between p p)

-- a part of quiet octets is quiet
quiet_part : (l : List (ℕ × ℕ)) (n k m : ℕ) → k + m ≤ n → quiet entry_octet (take n l) ≡ true → quiet entry_octet (take m (drop k l)) ≡ true
quiet_part l n k m h e =
    let rest = n - k - m in
    let all : n ≡ k + (m + rest) = omega arith in
    let front : Bool = quiet entry_octet (take k l) in
    let part : Bool = quiet entry_octet (take m (drop k l)) in
    let back : Bool = quiet entry_octet (take rest (drop m (drop k l))) in
    and_left part back (sym (quiet_parts (drop k l) m rest) ∙ and_right front _ (sym (quiet_parts l k (m + rest)) ∙ rw all at e))

module _ (s : List ℕ) (p : Position) where
  -- nothing is passed over yet
  pub over_none : PassedOver s p p
  unfolding any total
  over_none =
      record {
        blocks = 0;
        place = ap place_at (omega arith);
        inside = omega arith;
        still = refl;
        number = ap line_number (omega arith);
      }

  pub none_passed : length s < p.place.offset + 65 → PassedFrom s p p
  none_passed h = record { over = over_none; ended = λ k. absurd (omega arith) }

  -- and then one quiet block more
  pub over_more : (q : Position) → PassedOver s p q → q.place.offset + 65 ≤ length s → quiet entry_octet (blocks_at s q.place 1) ≡ true
      → PassedOver s p (record { number = number_after q.number (endings (blocks_at s q.place 1)); place = place_after q.place 64 })
  over_more q o h e =
      let there : q.place.offset ≡ p.place.offset + 64 * o.blocks = ap (λ (x : Place). x.offset) o.place in
      let count = ap (λ (n : LineNumber). n.number) o.number in
      let block = ap (λ (x : Place). endings (blocks_at s x 1)) o.place in
      record {
        blocks = o.blocks + 1;
        place = ap place_at (omega arith);
        inside = omega arith;
        still = quiet_more s p.place o.blocks ∙ ap₂ ◌&&◌ o.still (rw o.place at e);
        number = ap line_number (omega (arith, count, block, endings_more s p.place o.blocks));
      }

  -- no more lines than octets
  pub over_few : (q : Position) → PassedOver s p q → q.number.number + p.place.offset ≤ p.number.number + q.place.offset
  over_few q o =
      omega (
        arith,
        ap (λ (x : Place). x.offset) o.place,
        ap (λ (n : LineNumber). n.number) o.number,
        endings_fit (64 * o.blocks) (drop p.place.offset (pairs s)),
      )

  -- What is passed over is determined: who passes over fewer blocks has stopped at a block that the other found quiet.
  not_fewer : (r q : Position) (a : PassedFrom s p r) (b : PassedFrom s p q) → b.over.blocks ≤ a.over.blocks
  not_fewer r q a b =
      let k = a.over.blocks in
      let m = b.over.blocks in
      split (ltb k m)
      (λ h.
      let less : k < m = ltb-true k m h in
      let there : r.place.offset ≡ p.place.offset + 64 * k = ap (λ (x : Place). x.offset) a.over.place in
      let block = quiet_part (drop p.place.offset (pairs s)) (64 * m) (64 * k) 64 (omega arith) b.over.still in
      let stop = a.ended (omega (arith, b.over.inside)) in
      absurd (false≢true (sym stop ∙ rw (there, ← drop-drop (64 * k) p.place.offset (pairs s)) block)))
      (λ h. ltb-false k m h)

  pub passed_one : (r q : Position) → PassedFrom s p r → PassedFrom s p q → r ≡ q
  passed_one r q a b =
      let e : a.over.blocks ≡ b.over.blocks = omega (arith, not_fewer r q a b, not_fewer q r b a) in
      ap₂ (λ (n : LineNumber) (x : Place). record { number = n; place = x })
      (a.over.number ∙ ap (λ (k : ℕ). number_after p.number (endings (blocks_at s p.place k))) e ∙ sym b.over.number)
      (a.over.place ∙ ap (λ (k : ℕ). place_after p.place (64 * k)) e ∙ sym b.over.place)

-- one turn over two texts, whatever the second octets are asked for
module _ (l m : List ℕ) (i : ℕ) (h : i < length l) (k : i < length m) where
  pub opens_next : (first : ℕ → Bool)
      → any (opens first) (drop i (zip l m)) ≡ (line_end (get_or l i 0) && first (get_or m i 0)) || any (opens first) (drop (i + 1) (zip l m))
  unfolding any
  opens_next first = rw (zip_next l m i h k)

  pub endings_next : endings (drop i (zip l m)) ≡ one_if (closes (get_or l i 0) (is "\n" (get_or m i 0))) + endings (drop (i + 1) (zip l m))
  unfolding total
  endings_next = rw (zip_next l m i h k)

-- in a part that is lent, and behind it
module _ (s : List ℕ) (i k n m : ℕ) (e : n ≡ k) (g : m ≡ k) where
  abbrev lent : List (ℕ × ℕ)
  lent = zip (take n (drop i s)) (take m (drop (i + 1) s))

  pub front_inside : quiet agent_octet lent ≡ false → agent_front lent ≡ agent_front (drop i (pairs s))
  front_inside h =
      let part = pairs_part s i k n m e g in
      rw part (up_to_within (opens agent_octet) k (drop i (pairs s)) (not-false _ (rw part at h)))

  pub front_past : i + k < length s → quiet agent_octet lent ≡ true → agent_front (drop i (pairs s)) ≡ k + agent_front (drop (i + k) (pairs s))
  front_past f h =
      let rest : List (ℕ × ℕ) = drop i (pairs s) in
      let fits : k ≤ length rest = omega (arith, length-drop i (pairs s), pairs_length s) in
      rw (← drop-drop k i (pairs s)) (up_to_over (opens agent_octet) k rest fits (not-true _ (rw (pairs_part s i k n m e g) at h)))
