-- The rule that leads for a path gives the side and line of its decision. Assumes nothing.
use Prim.Native.Nat.{ℕ}
use mathlib.Core.Path.{◌≡◌, refl, sym, ap, ◌∙◌}
use mathlib.Core.Bool.{true}
use mathlib.Core.List.{List}
use lib.Dec.{eqb}
use borrow.Author.Tests.{eqb-true, eqb-false}
use Rattle.lists.proofs.Bools.{split}
use Rattle.protocol.specs.declared.Dialect.{Dialect}
use Rattle.protocol.specs.Forms.{Decision}
use Rattle.protocol.specs.declared.LineNumber.{LineNumber}
use Rattle.protocol.specs.Entries.{entries}
use Rattle.protocol.specs.Rules.{applying, unread}
use Rattle.protocol.specs.Normal.{normal_path}
use Rattle.protocol.specs.Refusals.{dialect_of, path_rows, refusal, decide_refusal}
use Rattle.protocol.specs.Decision.{decided_by, is_robots_file, answered}
use Rattle.protocol.specs.Answers.{decide, side_number}
use Rattle.protocol.specs.Meaning.{readable_for}
use Rattle.protocol.proofs.Demands.{decide_refused, decide_answered}
use Rattle.considering.proofs.Weighs.{rules_weigh}
use Rattle.leading.specs.declared.Leader.{Leader}
use Rattle.leading.specs.Leading.{no_leader}
use Rattle.leading.proofs.Leaders.{led_decides}
use Rattle.listing.specs.Listing.{side_for}
use Rattle.rounds.specs.Rounds.{led_for, led_over}

-- the leader after all rules that apply, and a decision
pub record Tells (l : Leader) (d : Decision) : Type 0 where
  pub side : l.side ≡ side_number d.side
  pub line : l.line ≡ d.line

answer_led : (d : Dialect) (file name path : List ℕ) → Tells (led_for d file (readable_for file name) path no_leader) (answered d file (entries file) name path)
unfolding answered decided_by
answer_led d file name path =
    split (is_robots_file path) (λ e. rw e (record { side = refl; line = refl }))
    (λ e.
    let k = led_decides d file path (readable_for file name) (unread file (entries file)) (rules_weigh d file (applying file (entries file) name)) in
    rw e (record { side = k.0; line = k.1 }))

-- What leads for a path, in a call that isn't refused, gives its decision's side and line.
module _ (dialect : ℕ) (file name path : List ℕ) (own : decide_refusal dialect file name path ≡ refusal (path_rows path)) where
  abbrev leader : Leader
  leader = led_over (dialect_of dialect) file (readable_for file name) path no_leader

  told : (eqb (refusal (path_rows path)) 0 ≡ true) → Tells leader (decide dialect file name path)
  unfolding led_over
  told e =
      rw (e, decide_answered dialect file name path (own ∙ eqb-true (refusal (path_rows path)) 0 e))
      (answer_led (dialect_of dialect) file name (normal_path path))

  pub over_side : side_for (refusal (path_rows path)) leader.side ≡ side_number (decide dialect file name path).side
  over_side =
      split (eqb (refusal (path_rows path)) 0) (λ e. rw e (told e).side)
      (λ e. rw (e, decide_refused dialect file name path (λ z. eqb-false (refusal (path_rows path)) 0 e (sym own ∙ z))))

  pub over_line : leader.line.number ≡ (decide dialect file name path).line.number
  unfolding led_over
  over_line =
      split (eqb (refusal (path_rows path)) 0) (λ e. ap (λ (n : LineNumber). n.number) (told e).line)
      (λ e. rw (e, decide_refused dialect file name path (λ z. eqb-false (refusal (path_rows path)) 0 e (sym own ∙ z))))
