-- Two files of one length, of which the lines and the rules that apply say the same in another order, are answered alike. Assumes nothing.
use Rattle.std.specs.Prelude.{if◌then◌else◌}
use Prim.Native.Nat.{ℕ}
use mathlib.Core.Path.{◌≡◌, refl, sym, ap, ◌∙◌}
use mathlib.Core.List.Memᴰ
use mathlib.Core.List.Permᴰ
use mathlib.Core.List.{List, map, Memᴰ, Permᴰ}
use lib.Dec.{eqb}
use lib.ListN.{length}
use borrow.Author.Tests.{eqb-true, eqb-false}
use Rattle.lists.specs.Choice.{one_if}
use Rattle.lists.specs.Lists.{total}
use Rattle.lists.proofs.Bools.{split}
use Rattle.lists.proofs.Appends.{total_map, total_kept}
use Rattle.lists.proofs.Orders.{total_ordered, member_ordered}
use Rattle.protocol.specs.declared.Dialect.{Dialect}
use Rattle.protocol.specs.declared.Side.{Side}
use Rattle.protocol.specs.declared.Rule.{Rule}
use Rattle.protocol.specs.Readable.{readable_pattern}
use Rattle.protocol.specs.Entries.{Role, agent, rule, entries}
use Rattle.protocol.specs.Rules.{applying, unreadable, unread}
use Rattle.protocol.specs.Normal.{normal_path}
use Rattle.protocol.specs.Pattern.{shape_of}
use Rattle.protocol.specs.Walk.{walk}
use Rattle.protocol.specs.Refusals.{decide_refusal}
use Rattle.protocol.specs.Decision.{pattern_of, readable_rules, weight_in, weight_of, is_robots_file}
use Rattle.protocol.specs.Answers.{decide}
use Rattle.protocol.specs.Meaning.{Candidate, Closed, readable_for}
use Rattle.protocol.proofs.Demands.{decide_refusal_lem, decide_refused, decide_disallow, decide_compared, decide_compared_robots, decide_unread}
use Rattle.protocol.proofs.Said.{Said, entry_says}
use Rattle.protocol.proofs.Groups.{rule_says}
use Rattle.exchange.specs.Exchange.{Alike}

-- what the rules that apply say
abbrev pub rules_said : List ℕ → List ℕ → List Said
rules_said file name = map (rule_says file) (applying file (entries file) name)

-- what the lines say
abbrev pub lines_said : List ℕ → List Said
lines_said file = map (entry_says file) (entries file)

-- a rule of one file for a rule of the other: same side, same pattern
module _ (file other name path : List ℕ) (same : Permᴰ (rules_said file name) (rules_said other name)) where
  record Twin (r : Rule) : Type 0 where
    twin : Rule
    candidate : Candidate Dialect.Rfc9309 other (entries other) name path twin
    said : rule_says other twin ≡ rule_says file r

  twin_of : (r : Rule) → Candidate Dialect.Rfc9309 file (entries file) name path r → Twin r
  twin_of r c =
      let there : Memᴰ (rule_says file r) (rules_said other name)
      = member_ordered (rule_says file r) same (Memᴰ.map (rule_says file) c.applies) in
      let (s, m, e) = Memᴰ.of_map (rule_says other) (applying other (entries other) name) there in
      let p : pattern_of other s ≡ pattern_of file r = ap (λ (x : Said). x.value) e in
      record {
        twin = s;
        candidate =
            record { applies = m; matches = record { readable = rw p c.matches.readable; matches = rw p c.matches.matches } };
        said = e;
      }

  twin_weight : (r : Rule) (t : Twin r) → weight_of other t.twin ≡ weight_of file r
  unfolding weight_in
  twin_weight r t = rw (ap (λ (x : Said). x.value) t.said)

  twin_side : (r : Rule) (t : Twin r) → t.twin.side ≡ r.side
  twin_side r t = side_known (ap (λ (x : Said). x.role) t.said)
    where
      side_of : Role → Side
      side_of (rule side) = side
      side_of agent = Side.Allow

      side_known : rule t.twin.side ≡ rule r.side → t.twin.side ≡ r.side
      side_known e = ap side_of e

-- a path that one file closes, the other closes
closed_too : (file other name path : List ℕ) → Permᴰ (rules_said file name) (rules_said other name)
    → Closed file (entries file) name path → Closed other (entries other) name path
closed_too file other name path same c =
    let t = twin_of file other name path same c.rule c.candidate in
    let back = Permᴰ.symm same in
    record {
      rule = t.twin;
      candidate = t.candidate;
      disallows = twin_side file other name path same c.rule t ∙ c.disallows;
      heavier =
          λ s k allow.
          let u = twin_of other file name path back s k in
          rw (twin_weight file other name path same c.rule t, ← twin_weight other file name path back s u)
          (c.heavier u.twin u.candidate (twin_side other file name path back s u ∙ allow));
    }

-- the counts are sums over what is said
unread_said : (file : List ℕ) → unread file (entries file) ≡ total (λ s. one_if (unreadable s.role s.value)) (lines_said file)
unfolding unread
unread_said file = sym (total_map (entry_says file) (λ s. one_if (unreadable s.role s.value)) (entries file))

compared_said : (file name path : List ℕ)
    → total (λ r. (walk (shape_of (pattern_of file r)) path).count) (readable_for file name)
    ≡ total (λ s. if readable_pattern s.value then (walk (shape_of s.value) path).count else 0) (rules_said file name)
unfolding readable_rules
compared_said file name path =
    let rules = applying file (entries file) name in
    total_kept (λ r. readable_pattern (pattern_of file r)) (λ r. (walk (shape_of (pattern_of file r)) path).count) rules
    ∙ sym (total_map (rule_says file) (λ s. if readable_pattern s.value then (walk (shape_of s.value) path).count else 0) rules)

-- a refusal asks nothing of a file but its length
refusal_by_length : (file other name path : List ℕ) → length file ≡ length other → decide_refusal 0 file name path ≡ decide_refusal 0 other name path
unfolding decide_refusal
refusal_by_length file other name path e = rw e

sides : (a b : Side) → (a ≡ Side.Disallow → b ≡ Side.Disallow) → (b ≡ Side.Disallow → a ≡ Side.Disallow) → a ≡ b
sides Side.Allow Side.Allow f g = refl
sides Side.Allow Side.Disallow f g = g refl
sides Side.Disallow Side.Allow f g = sym (f refl)
sides Side.Disallow Side.Disallow f g = refl

module _ (file other name path : List ℕ) (size : length file ≡ length other) (lines : Permᴰ (lines_said file) (lines_said other))
    (rules : Permᴰ (rules_said file name) (rules_said other name)) where
  abbrev back : Permᴰ (rules_said other name) (rules_said file name)
  back = Permᴰ.symm rules

  abbrev same_refusal : decide_refusal 0 file name path ≡ decide_refusal 0 other name path
  same_refusal = refusal_by_length file other name path size

  module _ (z : decide_refusal 0 file name path ≡ 0) where
    abbrev w : decide_refusal 0 other name path ≡ 0
    w = sym same_refusal ∙ z

    same_side : (decide 0 file name path).side ≡ (decide 0 other name path).side
    same_side =
        let p = normal_path path in
        let (there, from-there) = decide_disallow file name path z in
        let (here, from-here) = decide_disallow other name path w in
        sides (decide 0 file name path).side (decide 0 other name path).side
        (λ d. let (r, c) = there d in from-here (r, closed_too file other name p rules c))
        (λ d. let (r, c) = here d in from-there (r, closed_too other file name p back c))

    same_unread : (decide 0 file name path).unread ≡ (decide 0 other name path).unread
    same_unread =
        decide_unread 0 file name path z
        ∙ unread_said file
        ∙ total_ordered _ lines
        ∙ sym (decide_unread 0 other name path w ∙ unread_said other)

    same_compared : (decide 0 file name path).compared ≡ (decide 0 other name path).compared
    same_compared =
        let p = normal_path path in
        split (is_robots_file p)
        (λ e. decide_compared_robots 0 file name path z e ∙ sym (decide_compared_robots 0 other name path w e))
        (λ e.
        decide_compared file name path z e
        ∙ compared_said file name p
        ∙ total_ordered _ rules
        ∙ sym (decide_compared other name path w e ∙ compared_said other name p))

    alike_answered : Alike (decide 0 file name path) (decide 0 other name path)
    alike_answered =
        record {
          refusal = decide_refusal_lem 0 file name path ∙ same_refusal ∙ sym (decide_refusal_lem 0 other name path);
          side = same_side;
          unread = same_unread;
          compared = same_compared;
        }

  -- refused, both are refused with the same number
  alike_refused : (decide_refusal 0 file name path ≡ 0 → ⊥) → Alike (decide 0 file name path) (decide 0 other name path)
  alike_refused h =
      rw (decide_refused 0 file name path h, decide_refused 0 other name path (λ e. h (same_refusal ∙ e)), same_refusal)
      (record { refusal = refl; side = refl; unread = refl; compared = refl })

  -- The two files are answered alike.
  pub alike : Alike (decide 0 file name path) (decide 0 other name path)
  alike =
      split (eqb (decide_refusal 0 file name path) 0)
      (λ e. alike_answered (eqb-true (decide_refusal 0 file name path) 0 e))
      (λ e. alike_refused (eqb-false (decide_refusal 0 file name path) 0 e))
