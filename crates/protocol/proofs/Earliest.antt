-- M-113, the draft's dialect, about a path that isn't refused: the first match in file order decides, and the rules behind it aren't walked.
-- Assumes nothing.
use Prim.Native.Nat.{ℕ, ◌≤◌}
use mathlib.Core.Path.{◌≡◌, refl, sym, ap, ◌∙◌}
use mathlib.Core.Bool.{Bool, true, false, true≢false}
use mathlib.Core.Logic.{◌↔◌, ◌⊎◌, inl, inr, ⊎_elim}
use mathlib.Core.List.Memᴰ
use mathlib.Core.List.{List, [], ◌∷◌, ◌++◌, Memᴰ}
use mathlib.Core.Option.{Option, none, some}
use native.Mathlib.Omega.{arith}
use Rattle.lists.specs.Ascending.{Ascending}
use Rattle.lists.specs.Each.{Each}
use Rattle.lists.specs.Lists.{kept, through}
use Rattle.lists.proofs.Bools.{split, and_left, and_right}
use Rattle.lists.proofs.Members.{each_member, kept_in, kept_out, kept_middle, through_none, through_first, ascending_behind, ascending_same}
use Rattle.protocol.specs.declared.Dialect.{Dialect}
use Rattle.protocol.specs.declared.Side.{Side}
use Rattle.protocol.specs.Readable.{readable_pattern}
use Rattle.protocol.specs.Entries.{Entry}
use Rattle.protocol.specs.declared.Rule.{Rule}
use Rattle.protocol.specs.Rules.{applying}
use Rattle.protocol.specs.Decision.{pattern_of, readable_rules, is_match, earliest, deciding, walked, is_robots_file, answered}
use Rattle.protocol.specs.Meaning.{Candidate, DecidesFirst, ClosedFirst, Undecided, Named, by_none, by_rule, UpToDecider, to_last, to_rule, entry_lines, rule_lines}
use Rattle.protocol.proofs.Ascending.{applying_lines_ascend}
use Rattle.protocol.proofs.Decided.{differ, found, found_matches, no_candidate, Picked, answered_named}

-- r is the first of rs that passes the test f
record Passing (f : Rule → Bool) (rs : List Rule) (r : Rule) : Type 0 where
  front : List Rule
  back : List Rule
  whole : rs ≡ front ++ (r ∷ back)
  passes : f r ≡ true
  ahead : Each (λ s. f s ≡ false) front

-- what the choice among rs comes to: nothing where none passes
abbrev FirstPassing : (Rule → Bool) → List Rule → Option Rule → Type 0
FirstPassing f rs none = Each (λ s. f s ≡ false) rs
FirstPassing f rs (some r) = Passing f rs r

passing_behind : (f : Rule → Bool) (x : Rule) (rs : List Rule) → f x ≡ false → (o : Option Rule) → FirstPassing f rs o → FirstPassing f (x ∷ rs) o
passing_behind f x rs e none h = (e, h)
passing_behind f x rs e (some r) h =
    record { front = x ∷ h.front; back = h.back; whole = ap (λ (l : List Rule). x ∷ l) h.whole; passes = h.passes; ahead = (e, h.ahead) }

first_passing : (f : Rule → Bool) (rs : List Rule) → FirstPassing f rs (earliest (kept f rs))
unfolding earliest kept
first_passing f [] = tt
first_passing f (x ∷ rs) =
    split (f x)
    (λ e. rw (kept_in f x rs e) (record { front = []; back = rs; whole = refl; passes = e; ahead = tt }))
    (λ e. rw (kept_out f x rs e) (passing_behind f x rs e (earliest (kept f rs)) (first_passing f rs)))

module _ (file : List ℕ) (es : List Entry) (name path : List ℕ) where
  abbrev draft : Dialect
  draft = Dialect.Draft1996

  abbrev rules : List Rule
  rules = applying file es name

  abbrev matches : Rule → Bool
  matches r = found draft file path r

  -- Where the entries' lines ascend, as in a file, the first match has the earliest line.
  module _ (ascend : Ascending 0 (entry_lines es)) (other : is_robots_file path ≡ false) where
    decides : (r : Rule) → Passing matches rules r → DecidesFirst file es name path r
    decides r p =
        record {
          other = other;
          candidate =
              record { applies = rw p.whole (Memᴰ.append_right p.front (Memᴰ.head refl)); matches = (found_matches draft file path r).0 p.passes };
          first = λ s c. earlier s c (Memᴰ.append_cases p.front (rw p.whole at c.applies));
        }
      where
        lines : Ascending 0 (rule_lines (p.front ++ (r ∷ p.back)))
        lines = rw p.whole at (applying_lines_ascend file es name ascend)

        earlier : (s : Rule) → Candidate draft file es name path s → Memᴰ s p.front ⊎ Memᴰ s (r ∷ p.back) → r.line.number ≤ s.line.number
        earlier s c (inl m) = absurd (true≢false (sym ((found_matches draft file path s).1 c.matches) ∙ each_member _ p.front s p.ahead m))
        earlier s c (inr m) =
            ⊎_elim (λ (e : s ≡ r). rw e (omega arith))
            (λ (n : Memᴰ s p.back). omega (arith, ascending_behind (λ (x : Rule). x.line.number) 0 p.front p.back r s lines n))
            (Memᴰ.cases_cons m)

    picked : Picked draft file es name path (DecidesFirst file es name path) (earliest (kept matches rules))
    picked = go (earliest (kept matches rules)) (first_passing matches rules)
      where
        go : (o : Option Rule) → FirstPassing matches rules o → Picked draft file es name path (DecidesFirst file es name path) o
        go none h = h
        go (some r) h = decides r h

    -- "the sum here ending with the deciding rule, if there is one"
    pub answered_walked : UpToDecider (Undecided draft file es name path) (DecidesFirst file es name path) (readable_rules file rules) (walked draft file path (readable_rules file rules))
    unfolding walked readable_rules
    answered_walked = go (earliest (kept matches rules)) (first_passing matches rules)
      where
        readable : Rule → Bool
        readable r = readable_pattern (pattern_of file r)

        go : (o : Option Rule) → FirstPassing matches rules o
            → UpToDecider (Undecided draft file es name path) (DecidesFirst file es name path) (readable_rules file rules) (walked draft file path (readable_rules file rules))
        go none h = to_last (inr (no_candidate draft file es name path h)) (through_none readable (is_match draft file path) rules h)
        go (some r) p =
            let in-text : readable r ≡ true = and_left (readable r) (is_match draft file path r) p.passes in
            let match : is_match draft file path r ≡ true = and_right (readable r) (is_match draft file path r) p.passes in
            to_rule (kept readable p.front) (kept readable p.back) r (decides r p)
            (ap (kept readable) p.whole ∙ kept_middle readable p.front p.back r in-text)
            (ap (λ (l : List Rule). through (is_match draft file path) (kept readable l)) p.whole
            ∙ through_first readable (is_match draft file path) p.front p.back r p.ahead in-text match)

  module _ (ascend : Ascending 0 (entry_lines es)) where
    -- "The first match found is used": the answer names it, or none where no rule matches
    pub answered_names_first : Named (Undecided draft file es name path) (DecidesFirst file es name path) (answered draft file es name path)
    unfolding deciding
    answered_names_first = answered_named draft file es name path (DecidesFirst file es name path) (λ other. picked ascend other)

    -- and is disallow exactly where a disallow rule decides.
    pub answered_disallow_first : ((answered draft file es name path).side ≡ Side.Disallow) ↔ ClosedFirst file es name path
    answered_disallow_first = (there answered_names_first, λ k. back k answered_names_first)
      where
        there : Named (Undecided draft file es name path) (DecidesFirst file es name path) (answered draft file es name path)
            → (answered draft file es name path).side ≡ Side.Disallow → ClosedFirst file es name path
        there (by_none u n) e = absurd (differ (sym n.side ∙ e))
        there (by_rule r d n) e = record { rule = r; decides = d; disallows = sym n.side ∙ e }

        same : (r s : Rule) → DecidesFirst file es name path r → DecidesFirst file es name path s → r ≡ s
        same r s d k =
            ascending_same (λ (x : Rule). x.line.number) 0 rules r s (applying_lines_ascend file es name ascend) d.candidate.applies k.candidate.applies
            (omega (arith, d.first s k.candidate, k.first r d.candidate))

        back : ClosedFirst file es name path → Named (Undecided draft file es name path) (DecidesFirst file es name path) (answered draft file es name path)
            → (answered draft file es name path).side ≡ Side.Disallow
        back k (by_none (inl e) n) = absurd (true≢false (sym e ∙ k.decides.other))
        back k (by_none (inr u) n) = absurd (u k.rule k.decides.candidate)
        back k (by_rule r d n) = n.side ∙ ap (λ (x : Rule). x.side) (same r k.rule d k.decides) ∙ k.disallows
