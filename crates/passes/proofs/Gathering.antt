-- The entries of a file, one after the other, give what is gathered of it, and with that document 01's decision. Assumes nothing.
use Prim.Native.Nat.{ℕ, ◌+◌}
use mathlib.Core.Path.{◌≡◌, refl, sym, ap, ◌∙◌}
use mathlib.Core.Bool.{false, not, and-false}
use mathlib.Core.List.{List, [], ◌∷◌, ◌++◌}
use mathlib.Core.Option.{none}
use native.Mathlib.Omega.{arith}
use lib.Dec.{eqb}
use Rattle.lists.specs.Choice.{one_if}
use Rattle.lists.specs.Lists.{any, kept, through, total}
use Rattle.lists.proofs.Bools.{split}
use Rattle.protocol.specs.declared.Dialect.{Dialect}
use Rattle.protocol.specs.declared.Rule.{Rule}
use Rattle.protocol.specs.declared.Audience.{Audience}
use Rattle.protocol.specs.Entries.{Role, agent, rule, Entry, entries}
use Rattle.protocol.specs.Rules.{value_of, named_by, group_names, rules_in, audience, group_for, rules_for, applying, unreadable, unread}
use Rattle.protocol.specs.Decision.{pattern_of, readable_rules, decided_by, is_robots_file, decided_among, answered, matching, heaviest, earliest, deciding, walked, compared_by}
use Rattle.protocol.proofs.Applying.{no_rules}
use Rattle.considering.specs.declared.Considered.{Considered}
use Rattle.considering.specs.Considering.{none_considered, considered, considered_all, concluded}
use Rattle.considering.proofs.Firsts.{concluded_among}
use Rattle.considering.proofs.Weighs.{rules_weigh}
use Rattle.hearing.specs.declared.Hearing.{Hearing}
use Rattle.hearing.specs.Heard.{whom, nothing_heard}
use Rattle.hearing.proofs.Naming.{names_nobody}
use Rattle.passes.specs.declared.gather.Gathered.{Gathered}
use Rattle.passes.specs.Entries.{heard_as, rule_heard, rules_heard, gathered_from, gathered, audience_for}
use Rattle.passes.proofs.Groups.{heard_rules}

considered_append : (d : Dialect) (file path : List ℕ) (c : Considered) (rs ss : List Rule)
    → considered_all d file path c (rs ++ ss) ≡ considered_all d file path (considered_all d file path c rs) ss
unfolding considered_all
considered_append d file path c [] ss = refl
considered_append d file path c (r ∷ rs) ss = considered_append d file path (considered d (pattern_of file r) path r c) rs ss

-- an entry adds to the unread count where it is unreadable
heard_unread : (who : List ℕ) (ro : Role) (v : List ℕ) (h : Hearing) → (heard_as who ro v h).unread ≡ h.unread + one_if (unreadable ro v)
heard_unread who agent v h = refl
heard_unread who (rule side) v h = refl

pub gathered_heard : (d : Dialect) (file who path : List ℕ) (h : Hearing) (c : Considered) (es : List Entry)
    → gathered_from d file who path h c es
    ≡ record { considered = considered_all d file path c (rules_heard file who h es); unread = h.unread + unread file es }
unfolding gathered_from rules_heard considered_all unread total
gathered_heard d file who path h c [] = let e : h.unread + 0 ≡ h.unread = omega arith in rw e
gathered_heard d file who path h c (e ∷ es) =
    let i = heard_as who e.role (value_of file e) h in
    let here = one_if (unreadable e.role (value_of file e)) in
    let counted : i.unread + unread file es ≡ h.unread + (here + unread file es) = omega (arith, heard_unread who e.role (value_of file e) h) in
    gathered_heard d file who path i (considered_all d file path c (rule_heard file h.applies e.role e)) es
    ∙ rw (counted, considered_append d file path c (rule_heard file h.applies e.role e) (rules_heard file who i es))

-- no group names nobody
nobody_named : (file : List ℕ) (es : List Entry) (g : ℕ) → group_names file es [] g ≡ false
unfolding group_names any named_by
nobody_named file [] g = refl
nobody_named file (e ∷ es) g = rw (unnamed e.role, and-false (eqb e.group g)) (nobody_named file es g)
  where
    unnamed : (ro : Role) → named_by file [] ro e ≡ false
    unnamed agent = rw (names_nobody (value_of file e)) (and-false (not (eqb e.group 0)))
    unnamed (rule side) = refl

-- the groups of an audience are those that have its name
audience_rules : (file crawler : List ℕ) (es : List Entry) (a : Audience)
    → rules_in (group_names file es (whom a crawler)) es ≡ rules_for file es crawler a
unfolding group_for
audience_rules file crawler es Audience.Crawler = refl
audience_rules file crawler es Audience.Everyone = refl
audience_rules file crawler es Audience.Nobody =
    no_rules (group_names file es []) es (nobody_named file es) ∙ sym (no_rules (λ g. false) es (λ g. refl))

-- The rules that are heard for an audience, entry by entry, are the readable rules of its groups.
pub audience_heard : (file crawler : List ℕ) (a : Audience)
    → rules_heard file (whom a crawler) nothing_heard (entries file) ≡ readable_rules file (rules_for file (entries file) crawler a)
audience_heard file crawler a = heard_rules file (whom a crawler) ∙ ap (readable_rules file) (audience_rules file crawler (entries file) a)

-- The entries of a file, one after the other, give what is gathered of it.
pub gathered_all : (d : Dialect) (file crawler : List ℕ) (a : Audience) (path : List ℕ)
    → gathered_from d file (whom a crawler) path nothing_heard none_considered (entries file) ≡ gathered d file crawler a path
unfolding gathered
gathered_all d file crawler a path =
    let es = entries file in
    let who = whom a crawler in
    let all : 0 + unread file es ≡ unread file es = omega arith in
    gathered_heard d file who path nothing_heard none_considered es
    ∙ rw (all, audience_heard file crawler a)

-- what is gathered for an audience gives the decision among its rules
gathered_among : (d : Dialect) (file crawler : List ℕ) (a : Audience) (path : List ℕ)
    → concluded (gathered d file crawler a path).considered (gathered d file crawler a path).unread
    ≡ decided_among d file path (readable_rules file (rules_for file (entries file) crawler a)) (unread file (entries file))
unfolding gathered
gathered_among d file crawler a path =
    let rs = rules_for file (entries file) crawler a in
    concluded_among d file path (readable_rules file rs) (considered_all d file path none_considered (readable_rules file rs)) (unread file (entries file))
    (rules_weigh d file rs)
    refl

-- and that for nobody decides nothing
nobody_decides : (d : Dialect) (file crawler path : List ℕ) (u : ℕ)
    → decided_among d file path (readable_rules file (rules_for file (entries file) crawler Audience.Nobody)) u ≡ decided_by none u 0
unfolding group_for decided_among heaviest earliest deciding matching walked compared_by readable_rules kept through total
nobody_decides Dialect.Rfc9309 file crawler path u = rw (no_rules (λ g. false) (entries file) (λ g. refl))
nobody_decides Dialect.Draft1996 file crawler path u = rw (no_rules (λ g. false) (entries file) (λ g. refl))

-- What is gathered of a file for those whose groups apply gives document 01's decision.
pub gathered_decides : (d : Dialect) (file name path : List ℕ) (g : Gathered) → g ≡ gathered d file name (audience_for file name path) path
    → concluded g.considered g.unread ≡ answered d file (entries file) name path
unfolding answered applying audience_for
gathered_decides d file name path g e =
    rw e
    (split (is_robots_file path)
    (λ r. rw r (gathered_among d file name Audience.Nobody path ∙ nobody_decides d file name path (unread file (entries file))))
    (λ r. rw r (gathered_among d file name (audience file (entries file) name) path)))
