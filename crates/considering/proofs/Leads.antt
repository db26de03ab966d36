-- What rules come to, one after the other, gives document 01's decision among them, in the RFC's dialect. Assumes nothing.
use Prim.Native.Nat.{ℕ, ◌+◌, ◌*◌, ◌≤◌, ◌<◌}
use mathlib.Core.Path.{◌≡◌, refl, ◌∙◌}
use mathlib.Core.List.{List, [], ◌∷◌}
use mathlib.Core.Option.{Option, none, some}
use native.Mathlib.Omega.{arith}
use lib.Dec.{ltb}
use borrow.Author.Tests.{ltb-true, ltb-false, lt-ltb, le-ltb}
use Rattle.lists.specs.Lists.{kept, total}
use Rattle.lists.specs.Each.{Each}
use Rattle.lists.proofs.Bools.{split}
use Rattle.protocol.specs.declared.Dialect.{Dialect}
use Rattle.protocol.specs.declared.Side.{Side}
use Rattle.protocol.specs.declared.Rule.{Rule}
use Rattle.protocol.specs.Decision.{pattern_of, weight_in, weight_of, walk_of, matching, allows, chosen, heaviest, deciding, walked, compared_by, decided_by, decided_among}
use Rattle.protocol.proofs.Deciding.{rank_by, rank, outdoes_rank}
use Rattle.walk.specs.Weights.{weighed}
use Rattle.considering.specs.declared.Best.{Best}
use Rattle.considering.specs.declared.Considered.{Considered}
use Rattle.considering.specs.Considering.{no_best, none_considered, better, added, best_with, walked_once, considered, considered_all, decided_as, concluded}
use Rattle.considering.proofs.Weighs.{Weighs}

pub added_count : (side : Side) (b : Best) (n : ℕ) (s : Considered) → (added side b n s).compared ≡ s.compared + n
unfolding added
added_count Side.Allow b n s = refl
added_count Side.Disallow b n s = refl

module _ (a b : Best) where
  pub better_later : a.weight < b.weight → better a b ≡ b
  unfolding better
  better_later h = rw (lt-ltb a.weight b.weight h)

  pub better_earlier : b.weight ≤ a.weight → better a b ≡ a
  unfolding better
  better_earlier h = rw (le-ltb a.weight b.weight h)

  better_under : (n : ℕ) → a.weight < n → b.weight < n → (better a b).weight < n
  unfolding better
  better_under n h k = split (ltb a.weight b.weight) (λ e. rw e k) (λ e. rw e h)

-- the weight of the heaviest rule of a side
abbrev pub weight_on : Considered → Side → ℕ
weight_on s Side.Allow = s.allow.weight
weight_on s Side.Disallow = s.disallow.weight

-- a rule that is no heavier changes nothing but the count
pub added_past : (side : Side) (b : Best) (n : ℕ) (s : Considered) → b.weight ≤ weight_on s side
    → added side b n s ≡ record { allow = s.allow; disallow = s.disallow; compared = s.compared + n }
unfolding added
added_past Side.Allow b n s h = rw (better_earlier s.allow b h)
added_past Side.Disallow b n s h = rw (better_earlier s.disallow b h)

-- a rule's rank, by its side and weight
abbrev rank_as : Side → ℕ → ℕ
rank_as side w = rank_by w (allows side)

rank_most : (side : Side) (w : ℕ) → (2 * w ≤ rank_as side w) × (rank_as side w ≤ 2 * w + 1)
rank_most Side.Allow w = omega arith
rank_most Side.Disallow w = omega arith

-- b leads with its side, and the other side's heaviest ranks below it
abbrev Leads : Side → Best → Considered → Type 0
Leads Side.Allow b s = (s.allow ≡ b) × (s.disallow.weight < b.weight + 1)
Leads Side.Disallow b s = (s.disallow ≡ b) × (s.allow.weight < b.weight)

module _ (b c : Best) (n : ℕ) (s : Considered) where
  -- a later rule that ranks higher takes the lead
  lead_taken : (side side' : Side) → Leads side b s → rank_as side b.weight < rank_as side' c.weight
      → Leads side' c (added side' c n s)
  unfolding added
  lead_taken Side.Allow Side.Allow (e, h) lt = (rw e (better_later b c (omega arith)), omega arith)
  lead_taken Side.Allow Side.Disallow (e, h) lt = (better_later s.disallow c (omega arith), rw e (omega arith))
  lead_taken Side.Disallow Side.Allow (e, h) lt = (better_later s.allow c (omega arith), rw e (omega arith))
  lead_taken Side.Disallow Side.Disallow (e, h) lt = (rw e (better_later b c (omega arith)), omega arith)

  -- and otherwise doesn't
  lead_kept : (side side' : Side) → Leads side b s → rank_as side' c.weight ≤ rank_as side b.weight
      → Leads side b (added side' c n s)
  unfolding added
  lead_kept Side.Allow Side.Allow (e, h) le = (rw e (better_earlier b c (omega arith)), h)
  lead_kept Side.Allow Side.Disallow (e, h) le = (e, better_under s.disallow c (b.weight + 1) h (omega arith))
  lead_kept Side.Disallow Side.Allow (e, h) le = (e, better_under s.allow c b.weight h (omega arith))
  lead_kept Side.Disallow Side.Disallow (e, h) le = (rw e (better_earlier b c (omega arith)), h)

lead_rank : (side : Side) (b : Best) (s : Considered) → Leads side b s → 1 ≤ rank_as side b.weight
lead_rank Side.Allow b s h = omega arith
lead_rank Side.Disallow b s h = omega arith

-- what leads decides
lead_decides : (side : Side) (b : Best) (s : Considered) (u : ℕ) → Leads side b s → concluded s u ≡ decided_as side b u s.compared
unfolding concluded
lead_decides Side.Allow b s u (e, h) = rw (e, le-ltb b.weight s.disallow.weight (omega arith))
lead_decides Side.Disallow b s u (e, h) = rw (e, lt-ltb s.allow.weight b.weight h)

module _ (file : List ℕ) where
  module _ (r s : Rule) where
    chosen_later : rank file r < rank file s → chosen file r (some s) ≡ some s
    unfolding chosen
    chosen_later h = rw (outdoes_rank file s r, lt-ltb (rank file r) (rank file s) h)

    chosen_earlier : rank file s ≤ rank file r → chosen file r (some s) ≡ some r
    unfolding chosen
    chosen_earlier h = rw (outdoes_rank file s r, le-ltb (rank file r) (rank file s) h)

  -- what an earlier rule, or none, and the rules behind it come to
  abbrev before : Option Rule → Option Rule → Option Rule
  before none o = o
  before (some r) o = chosen file r o

  before_none : (o : Option Rule) → before o none ≡ o
  unfolding chosen
  before_none none = refl
  before_none (some r) = refl

  before_assoc : (q : Option Rule) (r : Rule) (o : Option Rule) → before (before q (some r)) o ≡ before q (chosen file r o)
  unfolding chosen
  before_assoc none r o = refl
  before_assoc (some q) r none = before_none (chosen file q (some r))
  before_assoc (some q) r (some s) =
      split (ltb (rank file q) (rank file r))
      (λ a.
      let qr : rank file q < rank file r = ltb-true _ _ a in
      let left : chosen file q (some r) ≡ some r = chosen_later q r qr in
      split (ltb (rank file r) (rank file s))
      (λ b.
      let rs : rank file r < rank file s = ltb-true _ _ b in
      rw (left, chosen_later r s rs, chosen_later q s (omega arith)))
      (λ b. rw (left, chosen_earlier r s (ltb-false _ _ b), left)))
      (λ a.
      let rq : rank file r ≤ rank file q = ltb-false _ _ a in
      let left : chosen file q (some r) ≡ some q = chosen_earlier q r rq in
      split (ltb (rank file r) (rank file s))
      (λ b. rw (left, chosen_later r s (ltb-true _ _ b)))
      (λ b.
      let sr : rank file s ≤ rank file r = ltb-false _ _ b in
      rw (left, chosen_earlier r s sr, chosen_earlier q s (omega arith), left)))

  -- the deciding rule, or none, as what leads
  abbrev side_of : Option Rule → Side
  side_of none = Side.Allow
  side_of (some r) = r.side

  abbrev best_of : Option Rule → Best
  best_of none = no_best
  best_of (some r) = best_with r (weight_of file r)

  abbrev Settled : Option Rule → Considered → Type 0
  Settled o s = Leads (side_of o) (best_of o) s

  -- one rule more, which matches
  settled_with : (o : Option Rule) (s : Considered) (r : Rule) (n : ℕ) → Settled o s → Weighs Dialect.Rfc9309 file r
      → Settled (before o (some r)) (added r.side (best_of (some r)) n s)
  unfolding rank
  settled_with none s r n h w =
      lead_taken no_best (best_of (some r)) n s Side.Allow r.side h (omega (arith, rank_most r.side (weight_of file r)))
  settled_with (some q) s r n h w =
      split (ltb (rank file q) (rank file r))
      (λ e.
      let l : rank file q < rank file r = ltb-true _ _ e in
      rw (chosen_later q r l) (lead_taken (best_of (some q)) (best_of (some r)) n s q.side r.side h l))
      (λ e.
      let l : rank file r ≤ rank file q = ltb-false _ _ e in
      rw (chosen_earlier q r l) (lead_kept (best_of (some q)) (best_of (some r)) n s q.side r.side h l))

  -- one that doesn't
  settled_past : (o : Option Rule) (s : Considered) (r : Rule) (n : ℕ) → Settled o s → Settled o (added r.side (best_with r 0) n s)
  settled_past o s r n h =
      lead_kept (best_of o) (best_with r 0) n s (side_of o) r.side h
      (omega (arith, rank_most r.side 0, lead_rank (side_of o) (best_of o) s h))

  module _ (path : List ℕ) where
    settled_over : (o : Option Rule) (s : Considered) (rs : List Rule) → Settled o s → Each (Weighs Dialect.Rfc9309 file) rs
        → Settled (before o (heaviest file (matching Dialect.Rfc9309 file path rs))) (considered_all Dialect.Rfc9309 file path s rs)
    unfolding heaviest matching kept considered_all considered walked_once weighed walk_of weight_in
    settled_over o s [] h w = rw (before_none o) h
    settled_over o s (r ∷ rs) h w =
        let n = (walk_of Dialect.Rfc9309 file path r).count in
        let with = settled_over (before o (some r)) (added r.side (best_of (some r)) n s) rs (settled_with o s r n h w.0) w.1 in
        let past = settled_over o (added r.side (best_with r 0) n s) rs (settled_past o s r n h) w.1 in
        split (walk_of Dialect.Rfc9309 file path r).stood
        (λ e. rw e (rw (before_assoc o r (heaviest file (matching Dialect.Rfc9309 file path rs))) at with))
        (λ e. rw e past)

    over_compared : (s : Considered) (rs : List Rule) → (considered_all Dialect.Rfc9309 file path s rs).compared ≡ s.compared + compared_by Dialect.Rfc9309 file path rs
    unfolding considered_all considered walked_once weighed walk_of walked compared_by total
    over_compared s [] = omega arith
    over_compared s (r ∷ rs) =
        let n = (walk_of Dialect.Rfc9309 file path r).count in
        let b = best_with r (weighed Dialect.Rfc9309 (pattern_of file r) path).weight in
        omega (arith, over_compared (added r.side b n s) rs, added_count r.side b n s)

    -- What rules that all weigh something come to gives the decision among them.
    pub concluded_heaviest : (rs : List Rule) (s : Considered) (u : ℕ) → Each (Weighs Dialect.Rfc9309 file) rs → s ≡ considered_all Dialect.Rfc9309 file path none_considered rs
        → concluded s u ≡ decided_among Dialect.Rfc9309 file path rs u
    unfolding decided_among decided_by deciding
    concluded_heaviest rs s u w e =
        let o = heaviest file (matching Dialect.Rfc9309 file path rs) in
        let settled : Settled o s = rw e (settled_over none none_considered rs (refl, omega arith) w) in
        let counted : s.compared ≡ compared_by Dialect.Rfc9309 file path rs = rw e (omega (arith, over_compared none_considered rs)) in
        lead_decides (side_of o) (best_of o) s u settled ∙ rw counted (said o (compared_by Dialect.Rfc9309 file path rs))
      where
        said : (o : Option Rule) (c : ℕ) → decided_as (side_of o) (best_of o) u c ≡ decided_by o u c
        said none c = refl
        said (some r) c = refl
