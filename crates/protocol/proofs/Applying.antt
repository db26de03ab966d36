-- The rules that apply, from any entries: "if any group names the crawler, the rules of all such groups, each group once; otherwise those of all
-- groups naming "*"; otherwise none". Assumes nothing.
use Rattle.std.specs.Prelude.{if◌then◌else◌}
use Prim.Native.Nat.{ℕ}
use mathlib.Core.Path.{◌≡◌, refl, sym, ap, subst, ◌∙◌}
use mathlib.Core.Bool.{Bool, true, false, ◌&&◌, not, false≢true, true≢false}
use mathlib.Core.Logic.{◌↔◌, ⊎_elim}
use mathlib.Core.List.{List, [], ◌∷◌, Memᴰ}
use lib.Dec.{eqb}
use borrow.Author.Tests.{eqb-true, eqb-false, eq-eqb, ne_eqb, not-true}
use Rattle.lists.proofs.Bools.{split, and_left, and_right}
use Rattle.lists.proofs.Members.{no_member, any_member}
use Rattle.protocol.specs.Readable.{everyone, names}
use Rattle.protocol.specs.Entries.{Role, agent, rule, Entry}
use Rattle.protocol.specs.declared.Rule.{Rule}
use Rattle.protocol.specs.Rules.{value_of, rule_of, named_by, entry_names, some_group_names, group_names, rule_in, rules_in, audience, group_for, applying}
use Rattle.protocol.specs.Meaning.{Names, GroupNames, RuleFor}
use Rattle.protocol.proofs.Agents.{names_exactly}

-- an entry that names who
module _ (file who : List ℕ) where
  naming_known : (ro : Role) (e : Entry) → named_by file who ro e ≡ true
      → (ro ≡ agent) × (e.group ≡ 0 → ⊥) × Names (value_of file e) who
  unfolding named_by
  naming_known agent e h =
      let some : not (eqb e.group 0) ≡ true = and_left (not (eqb e.group 0)) _ h in
      let named : names (value_of file e) who ≡ true = and_right (not (eqb e.group 0)) _ h in
      (refl, eqb-false e.group 0 (not-true (eqb e.group 0) some), (names_exactly (value_of file e) who).0 named)
  naming_known (rule side) e h = absurd (false≢true h)

module _ (file : List ℕ) (es : List Entry) (who : List ℕ) where
  known_naming : (g : ℕ) (n : GroupNames file es who g) → entry_names file who n.entry ≡ true
  unfolding named_by
  known_naming g n =
      rw (n.role, ne_eqb n.entry.group 0 (λ k. n.some (sym n.group ∙ k)), (names_exactly (value_of file n.entry) who).1 n.named)

  -- A group names who exactly when it isn't 0 and one of its agent lines does.
  pub group_names_lem : (g : ℕ) → (group_names file es who g ≡ true) ↔ GroupNames file es who g
  unfolding group_names
  group_names_lem g =
      let (there, back) = any_member (λ e. eqb e.group g && entry_names file who e) es in (
        λ h.
            let (e, m, p) = there h in
            let here : e.group ≡ g = eqb-true e.group g (and_left (eqb e.group g) (entry_names file who e) p) in
            let (a, z, n) = naming_known file who e.role e (and_right (eqb e.group g) (entry_names file who e) p) in
            record { entry = e; among = m; role = a; group = here; some = λ k. z (here ∙ k); named = n },
        λ n. back (n.entry, n.among, rw (eq-eqb n.entry.group g n.group) (known_naming g n)),
      )

  -- Some group names who exactly when there is such a group.
  pub some_group_names_lem : (some_group_names file es who ≡ true) ↔ ((g : ℕ) × GroupNames file es who g)
  unfolding some_group_names
  some_group_names_lem =
      let (there, back) = any_member (entry_names file who) es in (
        λ h.
            let (e, m, p) = there h in
            let (a, z, n) = naming_known file who e.role e p in
            (e.group, record { entry = e; among = m; role = a; group = refl; some = z; named = n }),
        λ (g, n). back (n.entry, n.among, known_naming g n),
      )

-- r is the rule of the entry e, whose group is chosen
record From (chosen : ℕ → Bool) (r : Rule) (e : Entry) : Type 0 where
  role : e.role ≡ rule r.side
  same : r ≡ rule_of r.side e
  picked : chosen e.group ≡ true

module _ (chosen : ℕ → Bool) (r : Rule) where
  rule_in_known : (ro : Role) (e : Entry) → e.role ≡ ro → Memᴰ r (rule_in chosen ro e) → From chosen r e
  unfolding rule_in
  rule_in_known agent e h m = absurd (mathlib.Core.List.Memᴰ.not-nil m)
  rule_in_known (rule side) e h m =
      split (chosen e.group)
      (λ c.
      let same : r ≡ rule_of side e = mathlib.Core.List.Memᴰ.eq_of_singleton (rw c at m) in
      record { role = h ∙ ap (λ (x : Rule). rule x.side) (sym same); same = same ∙ ap (λ (x : Rule). rule_of x.side e) (sym same); picked = c })
      (λ c. absurd (mathlib.Core.List.Memᴰ.not-nil (rw c at m)))

  known_rule_in : (e : Entry) → From chosen r e → Memᴰ r (rule_in chosen e.role e)
  unfolding rule_in
  known_rule_in e f = rw (f.role, f.picked) (mathlib.Core.List.Memᴰ.head f.same)

  rules_in_known : (es : List Entry) → Memᴰ r (rules_in chosen es) → (e : Entry) × Memᴰ e es × From chosen r e
  unfolding rules_in
  rules_in_known [] m = absurd (mathlib.Core.List.Memᴰ.not-nil m)
  rules_in_known (e ∷ es) m =
      ⊎_elim (λ (n : Memᴰ r (rule_in chosen e.role e)). (e, mathlib.Core.List.Memᴰ.head refl, rule_in_known e.role e refl n))
      (λ (n : Memᴰ r (rules_in chosen es)). let (d, k, f) = rules_in_known es n in (d, mathlib.Core.List.Memᴰ.tail k, f))
      (mathlib.Core.List.Memᴰ.append_cases (rule_in chosen e.role e) m)

  known_rules_in : (es : List Entry) (e : Entry) → Memᴰ e es → From chosen r e → Memᴰ r (rules_in chosen es)
  unfolding rules_in
  known_rules_in [] e m f = absurd (mathlib.Core.List.Memᴰ.not-nil m)
  known_rules_in (d ∷ es) e m f =
      ⊎_elim (λ (p : e ≡ d). mathlib.Core.List.Memᴰ.append_left (rules_in chosen es) (known_rule_in d (subst (From chosen r) p f)))
      (λ (n : Memᴰ e es). mathlib.Core.List.Memᴰ.append_right (rule_in chosen d.role d) (known_rules_in es e n f))
      (mathlib.Core.List.Memᴰ.cases_cons m)

-- no rule is in a group that isn't chosen
pub no_rules : (chosen : ℕ → Bool) (es : List Entry) → ((g : ℕ) → chosen g ≡ false) → rules_in chosen es ≡ []
no_rules chosen es h =
    no_member (rules_in chosen es) (λ r m. let (e, k, f) = rules_in_known chosen r es m in false≢true (sym (h e.group) ∙ f.picked))

module _ (file : List ℕ) (es : List Entry) (crawler : List ℕ) where
  -- "if any group names the crawler, the rules of all such groups, each group once;
  pub applying_named : some_group_names file es crawler ≡ true → applying file es crawler ≡ rules_in (group_names file es crawler) es
  unfolding applying audience group_for
  applying_named e = rw e

  -- otherwise those of all groups naming "*";
  pub applying_everyone : some_group_names file es crawler ≡ false → applying file es crawler ≡ rules_in (group_names file es everyone) es
  unfolding applying audience group_for
  applying_everyone e =
      split (some_group_names file es everyone) (λ s. rw (e, s))
      (λ s. rw (e, s) (no_rules (λ g. false) es (λ g. refl) ∙ sym (no_rules (group_names file es everyone) es (unnamed s))))
    where
      unnamed : some_group_names file es everyone ≡ false → (g : ℕ) → group_names file es everyone g ≡ false
      unnamed s g =
          split (group_names file es everyone g)
          (λ n. absurd (true≢false (sym ((some_group_names_lem file es everyone).1 (g, (group_names_lem file es everyone g).0 n)) ∙ s)))
          (λ n. n)

  -- otherwise none"
  pub applying_none : some_group_names file es crawler ≡ false → some_group_names file es everyone ≡ false → applying file es crawler ≡ []
  unfolding applying audience group_for
  applying_none e s = rw (e, s) (no_rules (λ g. false) es (λ g. refl))

  -- the name that the groups have whose rules apply
  abbrev pub addressee : List ℕ
  addressee = if some_group_names file es crawler then crawler else everyone

  pub applying_addressee : applying file es crawler ≡ rules_in (group_names file es addressee) es
  applying_addressee = split (some_group_names file es crawler) (λ e. rw e (applying_named e)) (λ e. rw e (applying_everyone e))

  -- A rule applies exactly when it is the rule of a rule line whose group names the crawler if any group does, otherwise "*".
  pub applies : (r : Rule) → Memᴰ r (applying file es crawler) ↔ RuleFor file es addressee r
  applies r =
      let chosen = group_names file es addressee in (
        λ m.
            let (e, k, f) = rules_in_known chosen r es (rw applying_addressee at m) in
            record { entry = e; among = k; role = f.role; same = f.same; named = (group_names_lem file es addressee e.group).0 f.picked },
        λ a.
            rw applying_addressee
            (known_rules_in chosen r es a.entry a.among
            (record { role = a.role; same = a.same; picked = (group_names_lem file es addressee a.entry.group).1 a.named })),
      )
