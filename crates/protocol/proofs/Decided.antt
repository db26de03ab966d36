-- Demand 2 about a path that isn't refused, from any entries: which rule is named, and, in the RFC's dialect, when the answer is disallow. Assumes nothing.
use Prim.Native.Nat.{ℕ, ◌+◌, ◌≤◌, ◌<◌}
use mathlib.Core.Path.{◌≡◌, refl, sym, ap, ◌∙◌}
use mathlib.Core.Bool.{Bool, true, false, ◌&&◌, true≢false}
use mathlib.Core.Logic.{◌↔◌, ◌⊎◌, inl, inr, ⊎_elim}
use mathlib.Core.List.{List, ◌∷◌, Memᴰ}
use mathlib.Core.Option.{Option, none, some}
use native.Mathlib.Omega.{arith}
use lib.ListN.{length}
use Rattle.lists.specs.Ascending.{Ascending}
use Rattle.lists.specs.Each.{Each}
use Rattle.lists.specs.Lists.{kept}
use Rattle.lists.proofs.Bools.{split, and_left, and_right}
use Rattle.lists.proofs.Members.{each_member, kept_kept, ascending_member, ascending_behind}
use Rattle.protocol.specs.declared.Dialect.{Dialect}
use Rattle.protocol.specs.declared.LineNumber.{LineNumber}
use Rattle.protocol.specs.declared.Side.{Side}
use Rattle.protocol.specs.Forms.{Decision}
use Rattle.protocol.specs.Lines.{line_number}
use Rattle.protocol.specs.Readable.{readable_pattern}
use Rattle.protocol.specs.Entries.{Entry}
use Rattle.protocol.specs.declared.Rule.{Rule}
use Rattle.protocol.specs.Rules.{applying, unread}
use Rattle.protocol.specs.Pattern.{shape_of, shape_in}
use Rattle.protocol.specs.Decision.{pattern_of, weight_of, readable_rules, allows, walk_of, is_match, matching, heaviest, deciding, compared_by, decided_by, is_robots_file, answered}
use Rattle.protocol.specs.Meaning.{RuleFor, MatchesIn, Candidate, Closed, Before, heavier, allowing, Tie, Decides, DecidesInOrder, Undecided, NamesRule, NamesNone, Named, by_none, by_rule, entry_lines, rule_lines}
use Rattle.protocol.proofs.Inside.{ValueInFile}
use Rattle.protocol.proofs.Found.{walk_finds}
use Rattle.protocol.proofs.Plain.{plain_begins}
use Rattle.protocol.proofs.Applying.{addressee, applies}
use Rattle.protocol.proofs.Answered.{answered_robots, answered_other}
use Rattle.protocol.proofs.Ascending.{applying_lines_ascend}
use Rattle.protocol.proofs.Deciding.{First, Choice, choice, before_rank, tie_rank}

-- the sides are two
pub differ : Side.Allow ≡ Side.Disallow → ⊥
differ e = true≢false (ap allows e)

-- readable, and the walk finds a match
abbrev pub found : Dialect → List ℕ → List ℕ → Rule → Bool
found d file path r = readable_pattern (pattern_of file r) && is_match d file path r

pub found_matches : (d : Dialect) (file path : List ℕ) (r : Rule) → (found d file path r ≡ true) ↔ MatchesIn d file path r
unfolding walk_of shape_in
found_matches Dialect.Rfc9309 file path r =
    let (there, back) = walk_finds (shape_of (pattern_of file r)) path in
    let readable = readable_pattern (pattern_of file r) in (
      λ h. record { readable = and_left readable _ h; matches = there (and_right readable _ h) },
      λ m. rw m.readable (back m.matches),
    )
found_matches Dialect.Draft1996 file path r =
    let (there, back) = plain_begins (pattern_of file r) path in
    let readable = readable_pattern (pattern_of file r) in (
      λ h.
          let (rest, begins) = there (and_right readable _ h) in
          record { readable = and_left readable _ h; rest = rest; begins = begins },
      λ m. rw m.readable (back (m.rest, m.begins)),
    )

-- what is named where a rule decides, and where none does
names_rule : (d : Decision) (r : Rule) (u c : ℕ) → d ≡ decided_by (some r) u c → NamesRule d r
unfolding decided_by
names_rule d r u c e =
    record {
      side = ap (λ (x : Decision). x.side) e;
      line = ap (λ (x : Decision). x.line) e;
      place = ap (λ (x : Decision). x.place) e;
      length = ap (λ (x : Decision). x.length) e;
    }

names_none : (d : Decision) (u c : ℕ) → d ≡ decided_by none u c → NamesNone d
unfolding decided_by
names_none d u c e =
    record {
      side = ap (λ (x : Decision). x.side) e;
      line = ap (λ (x : Decision). x.line) e;
      place = ap (λ (x : Decision). x.place) e;
      length = ap (λ (x : Decision). x.length) e;
    }

module _ (d : Dialect) (file : List ℕ) (es : List Entry) (name path : List ℕ) where
  abbrev rules : List Rule
  rules = applying file es name

  -- the deciding rule is chosen among the rules that are found
  abbrev pick : Option Rule
  pick = deciding d file (kept (found d file path) rules)

  pub no_candidate : Each (λ s. found d file path s ≡ false) rules → (r : Rule) → Candidate d file es name path r → ⊥
  no_candidate h r c =
      true≢false (sym ((found_matches d file path r).1 c.matches) ∙ each_member _ rules r h c.applies)

  -- the decision by the rule that is picked
  answered_pick : is_robots_file path ≡ false → answered d file es name path ≡ decided_by pick (unread file es) (compared_by d file path (readable_rules file rules))
  unfolding matching readable_rules
  answered_pick e =
      answered_other d file es name path e
      ∙ ap (λ (rs : List Rule). decided_by (deciding d file rs) (unread file es) (compared_by d file path (readable_rules file rules))) (kept_kept _ _ rules)

  -- what is known of the deciding rule, by any words for it that say so much
  module _ (Decider : Rule → Type 0) where
    -- the answer d names the rule that decides, or none where none does
    abbrev NamedBy : Decision → Type 0
    NamedBy a = Named (Undecided d file es name path) Decider a

    abbrev pub Picked : Option Rule → Type 0
    Picked none = Each (λ s. found d file path s ≡ false) rules
    Picked (some r) = Decider r

    pub answered_named : (is_robots_file path ≡ false → Picked pick) → NamedBy (answered d file es name path)
    answered_named h =
        split (is_robots_file path)
        (λ e. by_none (inl e) (names_none (answered d file es name path) (unread file es) 0 (answered_robots d file es name path e)))
        (λ e. go pick (h e) (answered_pick e))
      where
        go : (o : Option Rule) → Picked o → answered d file es name path ≡ decided_by o (unread file es) (compared_by d file path (readable_rules file rules))
            → NamedBy (answered d file es name path)
        go none h e = by_none (inr (no_candidate h)) (names_none (answered d file es name path) (unread file es) _ e)
        go (some r) h e = by_rule r h (names_rule (answered d file es name path) r (unread file es) _ e)

    module _ (other : (r : Rule) → Decider r → is_robots_file path ≡ false) (candidate : (r : Rule) → Decider r → Candidate d file es name path r) where
      -- Where no rule decides, none is named.
      pub named_undecided : (a : Decision) → NamedBy a → Undecided d file es name path → NamesNone a
      named_undecided a (by_none v n) u = n
      named_undecided a (by_rule r k n) (inl e) = absurd (true≢false (sym e ∙ other r k))
      named_undecided a (by_rule r k n) (inr h) = absurd (h r (candidate r k))

      -- Where the entries' values lie inside the file, the octets that are named do.
      pub named_inside : (a : Decision) → NamedBy a → Each (ValueInFile file) es → a.place.offset + a.length ≤ length file
      named_inside a (by_none u n) inside = rw (n.place, n.length) (omega arith)
      named_inside a (by_rule r k n) inside =
          let f : RuleFor file es (addressee file es name) r = (applies file es name r).0 (candidate r k).applies in
          let here : ValueInFile file f.entry = each_member (ValueInFile file) es f.entry inside f.among in
          rw (n.place, n.length) (omega (arith, here, ap (λ (x : Rule). x.place.offset) f.same, ap (λ (x : Rule). x.length) f.same))

      -- Where the entries' lines ascend, as in a file, the line is 0 exactly when no rule decides.
      pub named_line_none : (a : Decision) → NamedBy a → Ascending 0 (entry_lines es) → (a.line ≡ line_number 0) ↔ Undecided d file es name path
      named_line_none a named ascend = (there named, λ u. (named_undecided a named u).line)
        where
          there : NamedBy a → a.line ≡ line_number 0 → Undecided d file es name path
          there (by_none u n) e = u
          there (by_rule r k n) e =
              let applies : Memᴰ r rules = (candidate r k).applies in
              let first : 0 < r.line.number
              = ascending_member (λ (x : Rule). x.line.number) 0 rules r (applying_lines_ascend file es name ascend) applies in
              absurd (omega (arith, ap (λ (x : LineNumber). x.number) (sym n.line ∙ e)))

-- In the RFC's dialect
module _ (file : List ℕ) (es : List Entry) (name path : List ℕ) where
  abbrev listed : List Rule
  listed = applying file es name

  abbrev heard : Rule → Bool
  heard r = found Dialect.Rfc9309 file path r

  -- the first of the heaviest matches decides
  decides_first : is_robots_file path ≡ false → (r : Rule) → First file heard listed r → DecidesInOrder file es name path r
  decides_first other r c =
      record {
        other = other;
        front = c.front;
        back = c.back;
        whole = c.whole;
        matches = (found_matches Dialect.Rfc9309 file path r).0 c.passes;
        ahead = λ s m h. before_rank file r s (each_member _ c.front s c.ahead m ((found_matches Dialect.Rfc9309 file path s).1 h));
        behind = λ s m h. tie_rank file r s (each_member _ c.back s c.behind m ((found_matches Dialect.Rfc9309 file path s).1 h));
      }

  -- "The answer names the deciding rule's line and octets"
  pub answered_names : Named (Undecided Dialect.Rfc9309 file es name path) (DecidesInOrder file es name path) (answered Dialect.Rfc9309 file es name path)
  unfolding Choice deciding
  answered_names =
      answered_named Dialect.Rfc9309 file es name path (DecidesInOrder file es name path)
      (λ other. go other (heaviest file (kept heard listed)) (choice file heard listed))
    where
      go : is_robots_file path ≡ false → (o : Option Rule) → Choice file heard listed o → Picked Dialect.Rfc9309 file es name path (DecidesInOrder file es name path) o
      go other none h = h
      go other (some r) h = decides_first other r h

  abbrev NamedIn : Decision → Type 0
  NamedIn a = Named (Undecided Dialect.Rfc9309 file es name path) (DecidesInOrder file es name path) a

  module _ (r : Rule) (d : DecidesInOrder file es name path r) where
    -- the rule that decides is a candidate, and no other one comes before it
    decider : Candidate Dialect.Rfc9309 file es name path r
    decider =
        record { applies = rw d.whole (mathlib.Core.List.Memᴰ.append_right d.front (mathlib.Core.List.Memᴰ.head refl)); matches = d.matches }

    abbrev Ordered : Rule → Type 0
    Ordered s = Before file r s ⊎ (Tie file r s × Memᴰ s (r ∷ d.back))

    in_order : (s : Rule) → Candidate Dialect.Rfc9309 file es name path s → Ordered s
    in_order s c =
        ⊎_elim (λ (m : Memᴰ s d.front). inl (d.ahead s m c.matches))
        (λ (m : Memᴰ s (r ∷ d.back)). here m (mathlib.Core.List.Memᴰ.cases_cons m))
        (mathlib.Core.List.Memᴰ.append_cases d.front (rw d.whole at c.applies))
      where
        here : Memᴰ s (r ∷ d.back) → (s ≡ r) ⊎ Memᴰ s d.back → Ordered s
        here m (inl p) = inr (record { weight = ap (weight_of file) p; side = ap (λ (x : Rule). x.side) p }, m)
        here m (inr n) = ⊎_elim (λ (b : Before file r s). inl b) (λ (t : Tie file r s). inr (t, m)) (d.behind s n c.matches)

    -- Where the rules' lines ascend, the first has the earliest line.
    decides : Ascending 0 (rule_lines listed) → Decides file es name path r
    decides a = record { other = d.other; candidate = decider; first = λ s c. by_line s (in_order s c) }
      where
        by_line : (s : Rule) → Ordered s → Before file r s ⊎ (Tie file r s × (r.line.number ≤ s.line.number))
        by_line s (inl b) = inl b
        by_line s (inr (t, m)) =
            inr (
              t,
              ⊎_elim (λ (p : s ≡ r). rw p (omega arith))
                  (λ (n : Memᴰ s d.back).
                  omega (arith, ascending_behind (λ (x : Rule). x.line.number) 0 d.front d.back r s (rw d.whole at a) n))
                  (mathlib.Core.List.Memᴰ.cases_cons m),
            )

    closes : r.side ≡ Side.Disallow → Closed file es name path
    closes h = record { rule = r; candidate = decider; disallows = h; heavier = λ s c e. outweighs s e (in_order s c) }
      where
        outweighs : (s : Rule) → s.side ≡ Side.Allow → Ordered s → weight_of file s < weight_of file r
        outweighs s e (inl (heavier l)) = l
        outweighs s e (inl (allowing w p q)) = absurd (differ (sym p ∙ h))
        outweighs s e (inr (t, m)) = absurd (differ (sym e ∙ t.side ∙ h))

    opens : r.side ≡ Side.Allow → Closed file es name path → ⊥
    opens h k = outweighed (in_order k.rule k.candidate)
      where
        less : weight_of file r < weight_of file k.rule
        less = k.heavier r decider h

        outweighed : Ordered k.rule → ⊥
        outweighed (inl (heavier l)) = omega (arith, less)
        outweighed (inl (allowing w p q)) = omega (arith, less)
        outweighed (inr (t, m)) = omega (arith, less, t.weight)

  -- "the answer is disallow exactly when the normalised path isn't /robots.txt and [..] some disallow rule matches and weighs more than every
  -- allow rule that matches"
  pub answered_disallow : ((answered Dialect.Rfc9309 file es name path).side ≡ Side.Disallow) ↔ ((is_robots_file path ≡ false) × Closed file es name path)
  answered_disallow = (there answered_names, λ (other, k). back other k answered_names)
    where
      there : NamedIn (answered Dialect.Rfc9309 file es name path) → (answered Dialect.Rfc9309 file es name path).side ≡ Side.Disallow → (is_robots_file path ≡ false) × Closed file es name path
      there (by_none u n) e = absurd (differ (sym n.side ∙ e))
      there (by_rule r d n) e = (d.other, closes r d (sym n.side ∙ e))

      back : is_robots_file path ≡ false → Closed file es name path → NamedIn (answered Dialect.Rfc9309 file es name path) → (answered Dialect.Rfc9309 file es name path).side ≡ Side.Disallow
      back other k (by_none (inl e) n) = absurd (true≢false (sym e ∙ other))
      back other k (by_none (inr u) n) = absurd (u k.rule k.candidate)
      back other k (by_rule r d n) = n.side ∙ either r.side refl
        where
          either : (a : Side) → r.side ≡ a → a ≡ Side.Disallow
          either Side.Allow h = absurd (opens r d h k)
          either Side.Disallow h = refl

  -- Where the entries' lines ascend, as in a file, "then the earliest line" is named.
  pub answered_names_by_line : Ascending 0 (entry_lines es)
      → Named (Undecided Dialect.Rfc9309 file es name path) (Decides file es name path) (answered Dialect.Rfc9309 file es name path)
  answered_names_by_line ascend = go answered_names
    where
      go : {a : Decision} → NamedIn a → Named (Undecided Dialect.Rfc9309 file es name path) (Decides file es name path) a
      go (by_none u n) = by_none u n
      go (by_rule r d n) = by_rule r (decides r d (applying_lines_ascend file es name ascend)) n
