-- The rule that decides among those that pass a test: the first of the heaviest, allow before disallow. Assumes nothing.
use Prim.Native.Nat.{ℕ, ◌+◌, ◌≤◌, ◌<◌}
use mathlib.Core.Path.{◌≡◌, refl, sym, ap, subst, ◌∙◌}
use mathlib.Core.Bool.{Bool, true, false, ◌&&◌, ◌||◌, not, true≢false}
use mathlib.Core.Logic.{◌⊎◌, inl, inr}
use mathlib.Core.List.{List, [], ◌∷◌, ◌++◌}
use mathlib.Core.Option.{Option, none, some}
use native.Mathlib.Omega.{arith}
use lib.Dec.{ltb, eqb}
use borrow.Author.Tests.{ltb-true, ltb-false, eqb-true, eqb-false, lt-ltb, le-ltb}
use Rattle.lists.specs.Choice.{one_if}
use Rattle.lists.specs.Each.{Each}
use Rattle.lists.specs.Lists.{kept}
use Rattle.lists.proofs.Bools.{split, one_at_most}
use Rattle.lists.proofs.Parts.{each_append}
use Rattle.lists.proofs.Members.{each_map, kept_in, kept_out}
use Rattle.protocol.specs.declared.Side.{Side}
use Rattle.protocol.specs.declared.Rule.{Rule}
use Rattle.protocol.specs.Decision.{weight_of, allows, outdoes, chosen, heaviest}
use Rattle.protocol.specs.Meaning.{Before, heavier, allowing, Tie}

-- one number for a weight and a side
abbrev pub rank_by : ℕ → Bool → ℕ
rank_by w a = w + w + one_if a

-- at equal weight
side_test : (w : ℕ) (a b : Bool) → (a && not b) ≡ ltb (rank_by w b) (rank_by w a)
side_test w true true = sym (le-ltb (rank_by w true) (rank_by w true) (omega arith))
side_test w true false = sym (lt-ltb (rank_by w false) (rank_by w true) (omega arith))
side_test w false true = sym (le-ltb (rank_by w true) (rank_by w false) (omega arith))
side_test w false false = sym (le-ltb (rank_by w false) (rank_by w false) (omega arith))

rank_test : (v w : ℕ) (a b : Bool) → (ltb v w || (eqb v w && a && not b)) ≡ ltb (rank_by v b) (rank_by w a)
rank_test v w a b =
    split (ltb v w)
    (λ l. rw l (sym (lt-ltb (rank_by v b) (rank_by w a) (omega (arith, ltb-true v w l, one_at_most b)))))
    (λ l.
    split (eqb v w)
    (λ e. rw (l, e) (rw (eqb-true v w e) (side_test w a b)))
    (λ e. rw (l, e) (sym (le-ltb (rank_by v b) (rank_by w a) (omega (arith, ltb-false v w l, eqb-false v w e, one_at_most a))))))

unfoldable pub rank : List ℕ → Rule → ℕ
rank file r = rank_by (weight_of file r) (allows r.side)

module _ (file : List ℕ) (s r : Rule) where
  -- a rule outdoes another exactly when it ranks higher
  pub outdoes_rank : outdoes file s r ≡ ltb (rank file r) (rank file s)
  unfolding outdoes rank
  outdoes_rank = rank_test (weight_of file r) (weight_of file s) (allows s.side) (allows r.side)

  -- the higher rank comes before; at equal rank neither does
  before_by : (a b : Side) → s.side ≡ a → r.side ≡ b → rank_by (weight_of file r) (allows b) < rank_by (weight_of file s) (allows a) → Before file s r
  before_by Side.Allow Side.Allow p q h = heavier (omega arith)
  before_by Side.Allow Side.Disallow p q h =
      split (ltb (weight_of file r) (weight_of file s)) (λ e. heavier (ltb-true _ _ e)) (λ e. allowing (omega (arith, ltb-false (weight_of file r) (weight_of file s) e)) p q)
  before_by Side.Disallow Side.Allow p q h = heavier (omega arith)
  before_by Side.Disallow Side.Disallow p q h = heavier (omega arith)

  tie_by : (a b : Side) → s.side ≡ a → r.side ≡ b → rank_by (weight_of file r) (allows b) ≡ rank_by (weight_of file s) (allows a) → Tie file s r
  tie_by Side.Allow Side.Allow p q h = record { weight = omega arith; side = q ∙ sym p }
  tie_by Side.Allow Side.Disallow p q h = absurd (omega arith)
  tie_by Side.Disallow Side.Allow p q h = absurd (omega arith)
  tie_by Side.Disallow Side.Disallow p q h = record { weight = omega arith; side = q ∙ sym p }

  pub before_rank : rank file r < rank file s → Before file s r
  unfolding rank
  before_rank h = before_by s.side r.side refl refl h

  pub tie_rank : rank file r ≤ rank file s → Before file s r ⊎ Tie file s r
  unfolding rank
  tie_rank h =
      split (ltb (rank file r) (rank file s)) (λ e. inl (before_rank (ltb-true _ _ e)))
      (λ e. inr (tie_by s.side r.side refl refl (omega (arith, ltb-false (rank file r) (rank file s) e))))

-- r is the first of the highest rank among those of rs that pass the test f
pub record First (file : List ℕ) (f : Rule → Bool) (rs : List Rule) (r : Rule) : Type 0 where
  pub front : List Rule
  pub back : List Rule
  pub whole : rs ≡ front ++ (r ∷ back)
  pub passes : f r ≡ true
  pub ahead : Each (λ s. f s ≡ true → rank file s < rank file r) front
  pub behind : Each (λ s. f s ≡ true → rank file s ≤ rank file r) back

-- what the choice among rs comes to: nothing where none passes
unfoldable pub Choice : List ℕ → (Rule → Bool) → List Rule → Option Rule → Type 0
Choice file f rs none = Each (λ s. f s ≡ false) rs
Choice file f rs (some r) = First file f rs r

module _ (file : List ℕ) (f : Rule → Bool) (x : Rule) (rs : List Rule) where
  -- of rules with x in front, x is the first,
  first_here : f x ≡ true → Each (λ s. f s ≡ true → rank file s ≤ rank file x) rs → First file f (x ∷ rs) x
  first_here e h = record { front = []; back = rs; whole = refl; passes = e; ahead = tt; behind = h }

  -- or the first is the one behind x
  first_behind : (r : Rule) → (f x ≡ true → rank file x < rank file r) → First file f rs r → First file f (x ∷ rs) r
  first_behind r h c =
      record {
        front = x ∷ c.front;
        back = c.back;
        whole = ap (λ (l : List Rule). x ∷ l) c.whole;
        passes = c.passes;
        ahead = (h, c.ahead);
        behind = c.behind;
      }

  -- no rule of rs ranks higher than their first
  first_all : (r : Rule) → rank file r ≤ rank file x → First file f rs r → Each (λ s. f s ≡ true → rank file s ≤ rank file x) rs
  first_all r l c =
      let P : Rule → Type 0 = λ s. f s ≡ true → rank file s ≤ rank file x in
      subst (Each P) (sym c.whole)
      (each_append P c.front (r ∷ c.back)
      (each_map (λ s. f s ≡ true → rank file s < rank file r) P c.front (λ s h p. omega (arith, h p)) c.ahead)
      (λ p. l, each_map (λ s. f s ≡ true → rank file s ≤ rank file r) P c.back (λ s h p. omega (arith, h p)) c.behind))

  choice_in : f x ≡ true → (o : Option Rule) → Choice file f rs o → Choice file f (x ∷ rs) (chosen file x o)
  unfolding Choice chosen
  choice_in e none c =
      first_here e (each_map (λ s. f s ≡ false) (λ s. f s ≡ true → rank file s ≤ rank file x) rs (λ s p q. absurd (true≢false (sym q ∙ p))) c)
  choice_in e (some r) c =
      split (outdoes file r x)
      (λ o. rw o (first_behind r (λ p. ltb-true (rank file x) (rank file r) (sym (outdoes_rank file r x) ∙ o)) c))
      (λ o. rw o (first_here e (first_all r (ltb-false (rank file x) (rank file r) (sym (outdoes_rank file r x) ∙ o)) c)))

  choice_out : f x ≡ false → (o : Option Rule) → Choice file f rs o → Choice file f (x ∷ rs) o
  unfolding Choice
  choice_out e none c = (e, c)
  choice_out e (some r) c = first_behind r (λ p. absurd (true≢false (sym p ∙ e))) c

-- The rule that decides among those that pass is their first; none does where none passes.
pub choice : (file : List ℕ) (f : Rule → Bool) (rs : List Rule) → Choice file f rs (heaviest file (kept f rs))
unfolding Choice heaviest kept
choice file f [] = tt
choice file f (x ∷ rs) =
    split (f x)
    (λ e. rw (kept_in f x rs e) (choice_in file f x rs e (heaviest file (kept f rs)) (choice file f rs)))
    (λ e. rw (kept_out f x rs e) (choice_out file f x rs e (heaviest file (kept f rs)) (choice file f rs)))
