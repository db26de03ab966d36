-- What rules come to, one after the other, has the leader that they have: the rule that decides among them. Assumes nothing.
use Rattle.std.specs.Prelude.{if◌then◌else◌}
use Prim.Native.Nat.{ℕ, ◌≤◌, ◌<◌}
use mathlib.Core.Path.{◌≡◌, refl, sym, ap, ◌∙◌}
use mathlib.Core.Bool.{true, false, or-true}
use mathlib.Core.List.{List, [], ◌∷◌, ◌++◌}
use native.Mathlib.Omega.{arith}
use lib.Dec.{ltb, eqb}
use borrow.Author.Tests.{ltb-true, ltb-false, lt-ltb, le-ltb, eqb-true, eqb-false, eq-eqb, ne_eqb}
use Rattle.lists.specs.Each.{Each}
use Rattle.lists.proofs.Bools.{split}
use Rattle.protocol.specs.declared.Dialect.{Dialect}
use Rattle.protocol.specs.declared.Side.{Side}
use Rattle.protocol.specs.declared.Rule.{Rule}
use Rattle.protocol.specs.Forms.{Decision}
use Rattle.protocol.specs.Decision.{pattern_of, decided_among}
use Rattle.protocol.specs.Answers.{side_number}
use Rattle.walk.specs.Weights.{weighed}
use Rattle.considering.specs.declared.Best.{Best}
use Rattle.considering.specs.declared.Considered.{Considered}
use Rattle.considering.specs.Considering.{none_considered, added, best_with, settled as consideredSettled, walked_once, considered, considered_all, concluded}
use Rattle.considering.proofs.Leads.{better_later, better_earlier}
use Rattle.considering.proofs.Weighs.{Weighs}
use Rattle.considering.proofs.Firsts.{concluded_among}
use Rattle.leading.specs.declared.Leader.{Leader}
use Rattle.leading.specs.Leading.{no_leader, outdoes, settled, led, led_all}

-- a side's heaviest match as the leader
abbrev pub leading : Side → Best → Leader
leading side b = record { weight = b.weight; side = side_number side; line = b.line }

-- the leader in what rules have come to: allow, unless the heaviest disallow rule outweighs the heaviest allow rule
abbrev pub leader_of : Considered → Leader
leader_of c =
    if ltb c.allow.weight c.disallow.weight then leading Side.Disallow c.disallow
    else leading Side.Allow c.allow

-- whether a rule of that weight and side takes the lead
module _ (w side : ℕ) (l : Leader) where
  pub heavier_leads : l.weight < w → outdoes w side l ≡ true
  heavier_leads h = rw (lt-ltb l.weight w h)

  pub tie_leads : l.weight ≡ w → outdoes w side l ≡ ltb side l.side
  tie_leads h = rw (le-ltb l.weight w (omega (arith, h)), eq-eqb l.weight w h)

  pub lighter_follows : w < l.weight → outdoes w side l ≡ false
  lighter_follows h = rw (le-ltb l.weight w (omega (arith, h)), ne_eqb l.weight w (λ e. omega (arith, h, e)))

  side_leads : l.weight ≤ w → side < l.side → outdoes w side l ≡ true
  side_leads h k =
      split (eqb l.weight w) (λ e. tie_leads (eqb-true l.weight w e) ∙ lt-ltb side l.side k)
      (λ e. heavier_leads (omega (arith, h, eqb-false l.weight w e)))

  side_follows : w ≤ l.weight → l.side ≤ side → outdoes w side l ≡ false
  side_follows h k =
      split (eqb l.weight w) (λ e. tie_leads (eqb-true l.weight w e) ∙ le-ltb side l.side k)
      (λ e. lighter_follows (omega (arith, h, eqb-false l.weight w e)))

-- one rule more, as its walk found it
led_with : (side : Side) (b : Best) (n : ℕ) (c : Considered)
    → (if outdoes b.weight (side_number side) (leader_of c) then leading side b else leader_of c) ≡ leader_of (added side b n c)
unfolding added
led_with Side.Allow b n c =
    let A = c.allow.weight in
    let D = c.disallow.weight in
    let w = b.weight in
    split (ltb A w)
    (λ e.
    let aw : A < w = ltb-true A w e in
    rw (better_later c.allow b aw)
    (split (ltb A D)
    (λ f.
    split (ltb w D)
    (λ g.
    rw (f, g, lighter_follows w 0 (leading Side.Disallow c.disallow) (ltb-true w D g)))
    (λ g. rw (f, g, side_leads w 0 (leading Side.Disallow c.disallow) (ltb-false w D g) (omega arith))))
    (λ f.
    let da : D ≤ A = ltb-false A D f in
    rw (f, heavier_leads w 0 (leading Side.Allow c.allow) aw, le-ltb w D (omega (arith, aw, da))))))
    (λ e.
    let wa : w ≤ A = ltb-false A w e in
    rw (better_earlier c.allow b wa)
    (split (ltb A D)
    (λ f.
    let ad : A < D = ltb-true A D f in
    rw (f, lighter_follows w 0 (leading Side.Disallow c.disallow) (omega (arith, ad, wa))))
    (λ f. rw (f, side_follows w 0 (leading Side.Allow c.allow) wa (omega arith)))))
led_with Side.Disallow b n c =
    let A = c.allow.weight in
    let D = c.disallow.weight in
    let w = b.weight in
    split (ltb D w)
    (λ e.
    let dw : D < w = ltb-true D w e in
    rw (better_later c.disallow b dw)
    (split (ltb A w)
    (λ g. split (ltb A D) (λ f. rw (f, g, heavier_leads w 1 (leading Side.Disallow c.disallow) dw)) (λ f. rw (f, g)))
    (λ g.
    let wa : w ≤ A = ltb-false A w g in
    rw (le-ltb A D (omega (arith, dw, wa)), side_follows w 1 (leading Side.Allow c.allow) wa (omega arith), g))))
    (λ e.
    let wd : w ≤ D = ltb-false D w e in
    rw (better_earlier c.disallow b wd)
    (split (ltb A D)
    (λ f. rw (f, side_follows w 1 (leading Side.Disallow c.disallow) wd (omega arith)))
    (λ f. rw (f, side_follows w 1 (leading Side.Allow c.allow) (omega (arith, wd, ltb-false A D f)) (omega arith)))))

-- some rule has matched where the leader weighs something
settled_same : (d : Dialect) (c : Considered) → settled d (leader_of c) ≡ consideredSettled d c
settled_same Dialect.Rfc9309 c = refl
settled_same Dialect.Draft1996 c =
    let A = c.allow.weight in
    let D = c.disallow.weight in
    split (ltb A D)
    (λ f. rw (f, lt-ltb 0 D (omega (arith, ltb-true A D f))) (sym (or-true (ltb 0 A))))
    (λ f.
    let da : D ≤ A = ltb-false A D f in
    split (ltb 0 A) (λ e. rw (f, e)) (λ e. rw (f, e, le-ltb 0 D (omega (arith, da, ltb-false 0 A e)))))

module _ (d : Dialect) (file path : List ℕ) where
  led_rule : (c : Considered) (r : Rule) → led d file path (leader_of c) r ≡ leader_of (considered d (pattern_of file r) path r c)
  unfolding led considered walked_once
  led_rule c r =
      let w = weighed d (pattern_of file r) path in
      split (consideredSettled d c) (λ e. rw (settled_same d c, e))
      (λ e. rw (settled_same d c, e) (led_with r.side (best_with r w.weight) w.compared c))

  -- What rules come to, one after the other, has the leader that they have.
  pub led_considered : (c : Considered) (rs : List Rule) → led_all d file path (leader_of c) rs ≡ leader_of (considered_all d file path c rs)
  unfolding led_all considered_all
  led_considered c [] = refl
  led_considered c (r ∷ rs) =
      ap (λ (l : Leader). led_all d file path l rs) (led_rule c r) ∙ led_considered (considered d (pattern_of file r) path r c) rs

  pub led_none : (l : Leader) → led_all d file path l [] ≡ l
  unfolding led_all
  led_none l = refl

  pub led_append : (l : Leader) (rs ss : List Rule) → led_all d file path l (rs ++ ss) ≡ led_all d file path (led_all d file path l rs) ss
  unfolding led_all
  led_append l [] ss = refl
  led_append l (r ∷ rs) ss = led_append (led d file path l r) rs ss

-- the leader is what is concluded
leader_concluded : (c : Considered) (u : ℕ) → ((leader_of c).side ≡ side_number (concluded c u).side) × ((leader_of c).line ≡ (concluded c u).line)
unfolding concluded
leader_concluded c u =
    split (ltb c.allow.weight c.disallow.weight) (λ e. rw e (refl, refl)) (λ e. rw e (refl, refl))

-- The leader among rules that all weigh something decides among them.
pub led_decides : (d : Dialect) (file path : List ℕ) (rs : List Rule) (u : ℕ) → Each (Weighs d file) rs
    → ((led_all d file path no_leader rs).side ≡ side_number (decided_among d file path rs u).side)
    × ((led_all d file path no_leader rs).line ≡ (decided_among d file path rs u).line)
led_decides d file path rs u h =
    let c = considered_all d file path none_considered rs in
    let l : led_all d file path no_leader rs ≡ leader_of c = led_considered d file path none_considered rs in
    let e : concluded c u ≡ decided_among d file path rs u = concluded_among d file path rs c u h refl in
    let (side, line) = leader_concluded c u in (
      ap (λ (x : Leader). x.side) l ∙ side ∙ ap (λ (x : Decision). side_number x.side) e,
      ap (λ (x : Leader). x.line) l ∙ line ∙ ap (λ (x : Decision). x.line) e,
    )
