-- Line after line, until the table is full or the file is read: what is in the table and what is left are all rules from the first line on; and those
-- of a whole file are document 01's. Assumes nothing.
use Prim.Native.Nat.{ℕ, ◌+◌, ◌≤◌, ◌<◌}
use mathlib.Core.Path.{◌≡◌, refl, sym, ap, ◌∙◌}
use mathlib.Core.Bool.{false}
use mathlib.Core.List.{List, [], ◌++◌, append_assoc}
use native.Mathlib.Omega.{arith}
use lib.ListN.{length}
use Rattle.protocol.specs.declared.Audience.{Audience}
use Rattle.protocol.specs.declared.Rule.{Rule}
use Rattle.protocol.specs.Lines.{Line}
use Rattle.protocol.specs.Entries.{entries_from, entries}
use Rattle.protocol.specs.Rules.{rules_for}
use Rattle.protocol.specs.Decision.{readable_rules}
use Rattle.protocol.proofs.FrontToBack.{lines_all, lines_end}
use Rattle.hearing.specs.Heard.{whom, nothing_heard}
use Rattle.passes.specs.Entries.{rules_heard}
use Rattle.passes.proofs.Gathering.{audience_heard}
use Rattle.std.proofs.lemmas.List.Elements.{All-nil}
use Rattle.tables.specs.declared.Kept.{Kept}
use Rattle.tables.specs.Tables.{rules_from, SoundKept, Sound}
use Rattle.collecting.specs.declared.Pass.{Pass}
use Rattle.collecting.specs.declared.Collected.{Collected}
use Rattle.collecting.specs.Left.{first_pass, left, Turn, Rounded}

-- what holds where the loop, which began at p with a table of that length, has come to c
pub record Reached (file who : List ℕ) (p : Pass) (before table : List Kept) (c : Collected) : Type 0 where
  pub rules : rules_from 0 c.count table ++ left file who c.pass ≡ left file who p
  pub sound : Sound file c.count table
  pub same : length table ≡ length before
  pub counted : c.pass.at.number.number ≤ c.pass.at.place.offset + 1
  pub on : p.at.place.offset ≤ c.pass.at.place.offset
  pub further : 0 < c.count → p.at.place.offset < c.pass.at.place.offset

pub reached_first : (file who : List ℕ) (p : Pass) (table : List Kept) → p.at.number.number ≤ p.at.place.offset + 1
    → Reached file who p table table (record { count = 0; pass = p })
reached_first file who p table few =
    record {
      rules = refl;
      sound = (omega arith, All-nil (SoundKept file));
      same = refl;
      counted = few;
      on = omega arith;
      further = λ h. absurd (omega (arith, h));
    }

-- one line more
pub reached_on : (file who : List ℕ) (p : Pass) (before table : List Kept) (c : Collected) → Reached file who p before table c
    → (after : List Kept) (d : Collected) → Turn file who table c after d → Reached file who p before after d
reached_on file who p before table c now after d t =
    record {
      rules =
          ap (λ (rs : List Rule). rs ++ left file who d.pass) t.kept
          ∙ append_assoc (rules_from 0 c.count table) t.rules (left file who d.pass)
          ∙ ap (λ (rs : List Rule). rules_from 0 c.count table ++ rs) (sym t.next.left)
          ∙ now.rules;
      sound = t.sound now.sound;
      same = t.same ∙ now.same;
      counted = t.next.behind.counted;
      on = omega (arith, now.on, t.next.behind.further);
      further = λ h. omega (arith, now.on, t.next.behind.further);
    }

-- where the table is full, or the file is read
pub reached_full : (file who : List ℕ) (p : Pass) (before table : List Kept) (c : Collected) → Reached file who p before table c → c.count ≡ length before
    → Rounded file who p before table c
reached_full file who p before table c now full =
    record {
      rules = now.rules;
      full = λ h. full;
      sound = now.sound;
      same = now.same;
      counted = now.counted;
      further = λ some h. now.further (omega (arith, some, full));
    }

pub reached_end : (file who : List ℕ) (p : Pass) (before table : List Kept) (c : Collected) → Reached file who p before table c
    → length file ≤ c.pass.at.place.offset → Rounded file who p before table c
reached_end file who p before table c now end =
    record {
      rules = now.rules;
      full = λ h. absurd (omega (arith, h, end));
      sound = now.sound;
      same = now.same;
      counted = now.counted;
      further = λ some h. omega (arith, h, end);
    }

-- At the file's end nothing is left,
pub left_none : (file who : List ℕ) (p : Pass) → length file ≤ p.at.place.offset → left file who p ≡ []
unfolding rules_heard entries_from
left_none file who p h = rw (lines_end file p.at.number p.at.place h)

-- and at its first line the readable rules of those whose groups apply.
pub left_all : (file crawler : List ℕ) (a : Audience) → left file (whom a crawler) (first_pass file) ≡ readable_rules file (rules_for file (entries file) crawler a)
unfolding entries
left_all file crawler a =
    ap (λ (ls : List Line). rules_heard file (whom a crawler) nothing_heard (entries_from 0 false ls)) (sym (lines_all file)) ∙ audience_heard file crawler a
