-- What the lent memory holds of each path within a round, and from round to round. Assumes nothing.
use Prim.Native.Nat.{ℕ, ◌+◌, ◌≤◌, ◌<◌}
use mathlib.Core.Path.{◌≡◌, refl, sym, ap, subst, ◌∙◌}
use mathlib.Core.List.{List, [], ◌++◌, append_assoc, append-nil}
use native.Mathlib.Omega.{arith}
use lib.Dec.{ltb}
use lib.ListN.{length, set, take}
use lib.Seq.{get_or-set_same, set-get_or}
use borrow.Author.Tests.{ltb-true, ltb-false, eq-eqb, ne_eqb}
use Rattle.lists.proofs.Bools.{split}
use Rattle.std.specs.Prelude.{Result, Ok, Err, is_err, true, false}
use Rattle.protocol.specs.declared.Dialect.{Dialect}
use Rattle.protocol.specs.declared.Refusal.{Refusal}
use Rattle.protocol.specs.Outcomes.{number_of}
use Rattle.protocol.proofs.Outcomes.{refused_number}
use Rattle.protocol.specs.declared.Rule.{Rule}
use Rattle.protocol.specs.Normal.{normal_path}
use Rattle.protocol.specs.Refusals.{path_rows, refusal}
use Rattle.listing.specs.Listing.{path_at}
use Rattle.listing.proofs.Tails.{tail_refl, tail_trans, tail_set, set_other}
use Rattle.tables.specs.declared.Kept.{Kept}
use Rattle.tables.specs.Tables.{rules_of, rules_from}
use Rattle.collecting.specs.declared.Pass.{Pass}
use Rattle.collecting.specs.declared.Collected.{Collected}
use Rattle.collecting.specs.Left.{left, Rounded}
use Rattle.leading.specs.declared.Leader.{Leader}
use Rattle.listing.specs.Memory.{Memory, Fits, Stays}
use Rattle.rounds.specs.Rounds.{leader_in, led_for, led_over, Placed, Round}
use Rattle.rounds.proofs.Overs.{over_none, over_append}

pub stays_refl : (n : ℕ) (m : Memory) → Stays n m m
stays_refl n m = record { refusals = tail_refl n m.refusals; sides = tail_refl n m.sides; lines = tail_refl n m.lines }

pub stays_trans : (n : ℕ) (a b c : Memory) → Stays n a b → Stays n b c → Stays n a c
stays_trans n a b c s t =
    record { refusals = tail_trans s.refusals t.refusals; sides = tail_trans s.sides t.sides; lines = tail_trans s.lines t.lines }

-- there are still so many places
pub stays_fits : (n : ℕ) (a b : Memory) → Fits n a → Stays n a b → Fits n b
stays_fits n a b f s =
    record {
      refusals = omega (arith, f.refusals, s.refusals.same);
      sides = omega (arith, f.sides, s.sides.same);
      lines = omega (arith, f.lines, s.lines.same);
    }

-- one path of a round: the others stay
module _ (d : Dialect) (file : List ℕ) (rs : List Rule) (path : List ℕ) (i n : ℕ) (m m' : Memory) (p : Placed d file rs path i m m') (h : i < n) (f : Fits n m) where
  pub placed_stays : Stays n m m'
  placed_stays =
      record {
        refusals = rw p.refusals (tail_set i _ h (tail_refl n m.refusals));
        sides = rw p.sides (tail_set i _ h (tail_refl n m.sides));
        lines = rw p.lines (tail_set i _ h (tail_refl n m.lines));
      }

  pub placed_here : leader_in m' i ≡ led_over d file rs path (leader_in m i)
  placed_here =
      let l : Leader = led_over d file rs path (leader_in m i) in
      rw (p.refusals, p.sides, p.lines, get_or-set_same m.refusals i l.weight 0 (omega (arith, h, f.refusals)), get_or-set_same m.sides i l.side 0 (omega (arith, h, f.sides)), get_or-set_same m.lines i l.line.number 0 (omega (arith, h, f.lines)))

  pub placed_other : (j : ℕ) → (j ≡ i → ⊥) → leader_in m' j ≡ leader_in m j
  placed_other j o =
      rw (p.refusals, p.sides, p.lines, set_other m.refusals i j _ o, set_other m.sides i j _ o, set_other m.lines i j _ o)

-- what is known of a refusal where there is an error, and where there is none
pub refused_known : (r : Result (Unit {0}) Refusal) {n : ℕ} → number_of r ≡ n → is_err r ≡ true → n ≡ 0 → ⊥
refused_known (Ok u) h e z = absurd (cc)
refused_known (Err r) {n} h e z = refused_number r n h z

pub answered_known : (r : Result (Unit {0}) Refusal) {n : ℕ} → number_of r ≡ n → is_err r ≡ false → n ≡ 0
answered_known (Ok u) h e = sym h
answered_known (Err r) h e = absurd (cc)

-- a path that is refused, and one that isn't
over_refused : (d : Dialect) (file : List ℕ) (rs : List Rule) (path : List ℕ) (l : Leader) → (refusal (path_rows path) ≡ 0 → ⊥) → led_over d file rs path l ≡ l
unfolding led_over
over_refused d file rs path l h = rw (ne_eqb (refusal (path_rows path)) 0 h)

over_answered : (d : Dialect) (file : List ℕ) (rs : List Rule) (path : List ℕ) (l : Leader) → refusal (path_rows path) ≡ 0
    → led_over d file rs path l ≡ led_for d file rs (normal_path path) l
unfolding led_over
over_answered d file rs path l z = rw (eq-eqb (refusal (path_rows path)) 0 z)

-- of the first nothing is stored
module _ (d : Dialect) (file : List ℕ) (rs : List Rule) (path : List ℕ) (i : ℕ) (m : Memory) where
  pub placed_refused : (refusal (path_rows path) ≡ 0 → ⊥) → Placed d file rs path i m m
  placed_refused h =
      let e : leader_in m i ≡ led_over d file rs path (leader_in m i) = sym (over_refused d file rs path (leader_in m i) h) in
      record {
        refusals = sym (set-get_or m.refusals i 0) ∙ ap (λ (l : Leader). set m.refusals i l.weight) e;
        sides = sym (set-get_or m.sides i 0) ∙ ap (λ (l : Leader). set m.sides i l.side) e;
        lines = sym (set-get_or m.lines i 0) ∙ ap (λ (l : Leader). set m.lines i l.line.number) e;
      }

  pub placed_led : refusal (path_rows path) ≡ 0 → (l : Leader) → l ≡ led_for d file rs (normal_path path) (leader_in m i)
      → Placed d file rs path i m (record { refusals = set m.refusals i l.weight; sides = set m.sides i l.side; lines = set m.lines i l.line.number })
  placed_led z l k =
      let e : l ≡ led_over d file rs path (leader_in m i) = k ∙ sym (over_answered d file rs path (leader_in m i) z) in
      record {
        refusals = ap (λ (x : Leader). set m.refusals i x.weight) e;
        sides = ap (λ (x : Leader). set m.sides i x.side) e;
        lines = ap (λ (x : Leader). set m.lines i x.line.number) e;
      }

-- what holds where a round has come to place i: those in front have gone through its rules
pub record Rounding (d : Dialect) (file : List ℕ) (rs : List Rule) (paths ends : List ℕ) (m₀ m : Memory) (i : ℕ) : Type 0 where
  pub stays : Stays (length ends) m₀ m
  pub front : (j : ℕ) → j < i → j < length ends → leader_in m j ≡ led_over d file rs (path_at paths ends j) (leader_in m₀ j)
  pub back : (j : ℕ) → i ≤ j → leader_in m j ≡ leader_in m₀ j

pub rounding_on : {d : Dialect} {file : List ℕ} {rs : List Rule} {paths ends : List ℕ} {m₀ m m' : Memory} {i : ℕ} {path : List ℕ} → Rounding d file rs paths ends m₀ m i
    → i < length ends → Fits (length ends) m₀ → path ≡ path_at paths ends i → Placed d file rs path i m m' → Rounding d file rs paths ends m₀ m' (i + 1)
rounding_on {d} {file} {rs} {paths} {ends} {m₀} {m} {m'} {i} r h f e q =
    let p : Placed d file rs (path_at paths ends i) i m m' = subst (λ (x : List ℕ). Placed d file rs x i m m') e q in
    let g : Fits (length ends) m = stays_fits (length ends) m₀ m f r.stays in
    record {
      stays = stays_trans (length ends) m₀ m m' r.stays (placed_stays d file rs (path_at paths ends i) i (length ends) m m' p h g);
      front =
          λ j k l.
          split (ltb j i)
          (λ e.
          let before : j < i = ltb-true j i e in
          placed_other d file rs (path_at paths ends i) i (length ends) m m' p h g j (λ z. omega (arith, z, before)) ∙ r.front j before l)
          (λ e.
          let here : j ≡ i = omega (arith, k, ltb-false j i e) in
          rw here (placed_here d file rs (path_at paths ends i) i (length ends) m m' p h g ∙ ap (led_over d file rs (path_at paths ends i)) (r.back i (omega arith))));
      back = λ j k. placed_other d file rs (path_at paths ends i) i (length ends) m m' p h g j (λ z. omega (arith, z, k)) ∙ r.back j (omega (arith, k));
    }

pub rounding_end : (d : Dialect) (file : List ℕ) (rs : List Rule) (paths ends : List ℕ) (m₀ m : Memory) (i : ℕ) → Rounding d file rs paths ends m₀ m i
    → length ends ≤ i → Round d file rs paths ends m₀ m
rounding_end d file rs paths ends m₀ m i r h = record { stays = r.stays; led = λ j l. r.front j (omega (arith, l, h)) l }

-- what holds between rounds: each path has gone through some rules, and the others of the file are left
pub record Gone (d : Dialect) (file who paths ends : List ℕ) (first : Pass) (m₀ m : Memory) (p : Pass) : Type 0 where
  pub done : List Rule
  pub all : done ++ left file who p ≡ left file who first
  pub round : Round d file done paths ends m₀ m
  pub counted : p.at.number.number ≤ p.at.place.offset + 1

pub gone_none : (d : Dialect) (file who paths ends : List ℕ) (first : Pass) (m : Memory) → first.at.number.number ≤ first.at.place.offset + 1
    → Gone d file who paths ends first m m first
gone_none d file who paths ends first m few =
    record {
      done = [];
      all = refl;
      round = record { stays = stays_refl (length ends) m; led = λ j h. sym (over_none d file (path_at paths ends j) (leader_in m j)) };
      counted = few;
    }

pub gone_on : {d : Dialect} {file who paths ends : List ℕ} {first p : Pass} {m₀ m m' : Memory} {before table : List Kept} {c : Collected}
    → Gone d file who paths ends first m₀ m p → Rounded file who p before table c
    → Round d file (rules_of (take c.count table)) paths ends m m' → Gone d file who paths ends first m₀ m' c.pass
gone_on {d} {file} {who} {paths} {ends} {first} {p} {m₀} {m} {m'} {before} {table} {c} g t r =
    let rs : List Rule = rules_from 0 c.count table in
    record {
      done = g.done ++ rs;
      all = append_assoc g.done rs (left file who c.pass) ∙ ap (λ (l : List Rule). g.done ++ l) t.rules ∙ g.all;
      round =
          record {
            stays = stays_trans (length ends) m₀ m m' g.round.stays r.stays;
            led =
                λ j h.
                r.led j h
                ∙ ap (led_over d file rs (path_at paths ends j)) (g.round.led j h)
                ∙ over_append d file (path_at paths ends j) (leader_in m₀ j) g.done rs;
          };
      counted = t.counted;
    }

pub gone_end : {d : Dialect} {file who paths ends : List ℕ} {first p : Pass} {m₀ m : Memory} → Gone d file who paths ends first m₀ m p
    → left file who p ≡ [] → Round d file (left file who first) paths ends m₀ m
gone_end {d} {file} {who} {paths} {ends} {first} {p} {m₀} {m} g e =
    let whole : g.done ≡ left file who first = sym (append-nil g.done) ∙ ap (λ (l : List Rule). g.done ++ l) (sym e) ∙ g.all in
    subst (λ (rs : List Rule). Round d file rs paths ends m₀ m) whole g.round
