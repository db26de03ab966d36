-- After the last round the lent memory holds the answers, which are document 02's for the whole list. Assumes nothing.
use Prim.Native.Nat.{ℕ, ◌≤◌, ◌<◌}
use mathlib.Core.Path.{◌≡◌, refl, sym, ap, subst, ◌∙◌}
use mathlib.Core.Bool.{Bool}
use mathlib.Core.List.{List, [], ◌∷◌, map}
use native.Mathlib.Omega.{arith}
use lib.ListN.{length, get_or, length-map}
use borrow.Author.Tests.{ltb-false, eqb-true, not-false}
use Rattle.lists.proofs.Bools.{or_left, or_right}
use Rattle.lists.proofs.Scans.{map_at}
use Rattle.protocol.specs.declared.Dialect.{Dialect}
use Rattle.protocol.specs.declared.Audience.{Audience}
use Rattle.protocol.specs.Forms.{Decision}
use Rattle.protocol.specs.declared.Rule.{Rule}
use Rattle.protocol.specs.Entries.{entries}
use Rattle.protocol.specs.Rules.{audience, rules_for, applying}
use Rattle.protocol.specs.declared.Refusal.{Refusal}
use Rattle.protocol.specs.Outcomes.{refusal_number}
use Rattle.protocol.specs.Refusals.{◌when◌, unknown_dialect, too_long, bad_name, bad_ends, short_answers, dialect_of, path_rows, refusal, decrease, last_end, decide_refusal}
use Rattle.protocol.specs.Decision.{readable_rules}
use Rattle.protocol.specs.Answers.{decide, side_number, at_front, refused_decision}
use Rattle.protocol.specs.Batch.{Batch, batch_refusal, paths_of, decisions, column, refusals_after, sides_after, lines_after}
use Rattle.protocol.specs.Meaning.{readable_for}
use Rattle.protocol.proofs.Refused.{unless_answered}
use Rattle.protocol.proofs.Demands.{decide_refusal_lem}
use Rattle.protocol.proofs.Outcomes.{refused_number}
use Rattle.protocol.proofs.BatchAnswer.{length_paths, path_at_lem, batch_refused, batch_call, batch_room, own_refusal}
use Rattle.hearing.specs.Heard.{whom}
use Rattle.listing.specs.Listing.{GoodEnds, path_at}
use Rattle.listing.specs.Memory.{Memory, Fits, Tail}
use Rattle.listing.proofs.Tails.{column_known}
use Rattle.collecting.specs.Left.{first_pass, left}
use Rattle.collecting.proofs.Rounds.{left_all}
use Rattle.rounds.specs.Rounds.{Round}
use Rattle.batch.specs.Asked.{Answered}
use Rattle.batch.proofs.Led.{over_side, over_line}

-- the rules that the rounds go through are those that apply
rules_applying : (file name : List ℕ) (a : Audience) → a ≡ audience file (entries file) name → left file (whom a name) (first_pass file) ≡ readable_for file name
unfolding applying
rules_applying file name a e = left_all file name a ∙ ap (λ (x : Audience). readable_rules file (rules_for file (entries file) name x)) e

pub round_applying : {d : Dialect} {a : Audience} {paths ends who : List ℕ} {m m' : Memory} (file name : List ℕ) → a ≡ audience file (entries file) name → who ≡ whom a name
    → Round d file (left file who (first_pass file)) paths ends m m' → Round d file (readable_for file name) paths ends m m'
round_applying {d} {a} {paths} {ends} {who} {m} {m'} file name e w r =
    subst (λ (rs : List Rule). Round d file rs paths ends m m') (ap (λ (x : List ℕ). left file x (first_pass file)) w ∙ rules_applying file name a e) r

-- why the call is refused, where it is known whether the memory is short
module _ (b : Batch) {s : Bool} (e : s ≡ (short_answers b.ends b.refusals b.sides b.lines).given) where
  abbrev told : ℕ
  told = refusal (unknown_dialect b.dialect ∷ too_long b.file ∷ bad_name b.name ∷ bad_ends b.paths b.ends ∷ (13 when s) ∷ [])

  pub call_told : told ≡ batch_refusal b
  unfolding batch_refusal
  call_told = rw e refl

  -- refused, nothing is written
  pub kept : (r : Refusal) → refusal_number r ≡ told
      → (b.refusals ≡ refusals_after b) × (b.sides ≡ sides_after b) × (b.lines ≡ lines_after b)
  kept r h = let k = batch_refused b (refused_number r (batch_refusal b) (h ∙ call_told)) in (sym k.0, sym k.1, sym k.2)

-- in a call that isn't refused
module _ (b : Batch) {s : Bool} (e : s ≡ (short_answers b.ends b.refusals b.sides b.lines).given) (z : 0 ≡ told b e) where
  h : batch_refusal b ≡ 0
  h = sym (z ∙ call_told b e)

  pub good_ends : GoodEnds b.paths b.ends
  good_ends =
      let e = (batch_call b h).3 in (
        or_left (decrease 0 b.ends) _ e,
        eqb-true (last_end 0 b.ends) (length b.paths) (not-false _ (or_right (decrease 0 b.ends) _ e)),
      )

  pub short_file : length b.file ≤ 512_000
  short_file = ltb-false 512_000 (length b.file) (batch_call b h).1

  pub all_fit : Fits (length b.ends) (record { refusals = b.refusals; sides = b.sides; lines = b.lines })
  all_fit = let r = batch_room b h in record { refusals = r.0; sides = r.1; lines = r.2 }

  count : length (decisions b) ≡ length b.ends
  unfolding decisions
  count = length-map (paths_of b) (decide b.dialect b.file b.name) ∙ length_paths 0 b.paths b.ends

  abbrev decision : ℕ → Decision
  decision j = decide b.dialect b.file b.name (path_at b.paths b.ends j)

  decided : (j : ℕ) → j < length b.ends → get_or (decisions b) j (refused_decision 0) ≡ decision j
  unfolding decisions
  decided j l =
      map_at (decide b.dialect b.file b.name) (paths_of b) j [] (refused_decision 0) (omega (arith, l, length_paths 0 b.paths b.ends))
      ∙ ap (decide b.dialect b.file b.name) (path_at_lem 0 b.paths b.ends j l)

  -- a slice that holds a number of each decision
  slice_known : (number : Decision → ℕ) (before after : List ℕ) → length b.ends ≤ length before → Tail (length b.ends) before after
      → ((j : ℕ) → j < length b.ends → get_or after j 0 ≡ number (decision j)) → after ≡ at_front (column number b) before
  unfolding column
  slice_known number before after room stays known =
      column_known number (decisions b) (refused_decision 0) (length b.ends) before after count room stays (λ j l. known j l ∙ ap number (sym (decided j l)))
      ∙ ap (λ (out : List ℕ). at_front out before) (sym (unless_answered (batch_refusal b) (λ n. []) (map number (decisions b)) h))

  own : (path : List ℕ) → decide_refusal b.dialect b.file b.name path ≡ refusal (path_rows path)
  own path = sym (decide_refusal_lem b.dialect b.file b.name path) ∙ own_refusal b h path

  abbrev before : Memory
  before = record { refusals = b.refusals; sides = b.sides; lines = b.lines }

  module _ (d : Dialect) (known : d ≡ dialect_of b.dialect) (m : Memory) (found : Answered d b.file b.name b.paths b.ends before m) where
    a : Answered (dialect_of b.dialect) b.file b.name b.paths b.ends before m
    a = subst (λ (x : Dialect). Answered x b.file b.name b.paths b.ends before m) known found

    pub refusals_known : m.refusals ≡ refusals_after b
    unfolding refusals_after
    refusals_known =
        slice_known (λ d. d.refusal) b.refusals m.refusals all_fit.refusals a.stays.refusals
        (λ j l. a.refused j l ∙ sym (own_refusal b h (path_at b.paths b.ends j)))

    pub sides_known : m.sides ≡ sides_after b
    unfolding sides_after
    sides_known =
        slice_known (λ d. side_number d.side) b.sides m.sides all_fit.sides a.stays.sides
        (λ j l. a.sided j l ∙ over_side b.dialect b.file b.name (path_at b.paths b.ends j) (own (path_at b.paths b.ends j)))

    pub lines_known : m.lines ≡ lines_after b
    unfolding lines_after
    lines_known =
        slice_known (λ d. d.line.number) b.lines m.lines all_fit.lines a.stays.lines
        (λ j l. a.lined j l ∙ over_line b.dialect b.file b.name (path_at b.paths b.ends j) (own (path_at b.paths b.ends j)))
