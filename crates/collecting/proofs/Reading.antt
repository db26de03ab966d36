-- What one line makes of the rules that are left. Assumes nothing.
use Prim.Native.Nat.{ℕ, ◌+◌, ◌-◌, ◌≤◌, ◌<◌}
use mathlib.Core.Path.{◌≡◌, refl, sym, ap, ◌∙◌}
use mathlib.Core.Bool.{Bool, true, false, ◌&&◌, ◌||◌, true≢false, false≢true}
use mathlib.Core.List.{List, [], ◌∷◌, ◌++◌, append-nil}
use mathlib.Core.Option.{none}
use native.Mathlib.Omega.{arith}
use lib.ListN.{length, take, drop}
use Rattle.std.proofs.Math.ListN.{set, length-set}
use Rattle.lists.specs.Lists.{any, up_to}
use Rattle.lists.proofs.Bools.{split}
use Rattle.lists.proofs.Scans.{take_up_to}
use Rattle.protocol.specs.declared.Place.{Place}
use Rattle.protocol.specs.declared.Position.{Position}
use Rattle.protocol.specs.declared.Side.{Side}
use Rattle.protocol.specs.declared.Agent.{Agent}
use Rattle.protocol.specs.declared.Pattern.{Pattern}
use Rattle.protocol.specs.declared.Kind.{Kind}
use Rattle.protocol.specs.declared.Rule.{Rule}
use Rattle.protocol.specs.Forms.{LineAnswer}
use Rattle.protocol.specs.Octets.{line_end}
use Rattle.protocol.specs.Lines.{Line, place_after}
use Rattle.protocol.specs.Readable.{names}
use Rattle.protocol.specs.Kinds.{kind_of}
use Rattle.protocol.specs.Entries.{rule, role_of, group_at, ruled_after, entry_of, entries_from}
use Rattle.protocol.specs.Decision.{pattern_of}
use Rattle.std.specs.Prelude.{Result, Ok, Err}
use Rattle.std.specs.Result.{result_unwrap_or}
use Rattle.protocol.specs.declared.Refusal.{Refusal}
use Rattle.protocol.specs.Answers.{line_answer}
use Rattle.protocol.specs.Outcomes.{line_answer_of}
use Rattle.protocol.proofs.KindAnswer.{line_answered}
use Rattle.lines.specs.Spans.{text_at, next_at}
use Rattle.lines.specs.Skips.{PassedOver}
use Rattle.lines.proofs.Forward.{next_further, next_inside, text_inside}
use Rattle.lines.proofs.Passing.{past_inside, past_further, past_few}
use Rattle.kinds.specs.Entries.{entry_kind}
use Rattle.kinds.proofs.Answering.{one_line}
use Rattle.hearing.specs.declared.Hearing.{Hearing}
use Rattle.passes.specs.Entries.{rule_heard, rules_heard, line_value, entry_at}
use Rattle.passes.specs.Steps.{lines_on, lines_past}
use Rattle.passes.proofs.Turns.{line_behind, here, entries_here, blocks_entries}
use Rattle.passes.proofs.Lines.{heard_here}
use Rattle.passes.proofs.Unheard.{Alike, heard_alike, heard_numbers}
use Rattle.tables.specs.declared.Kept.{Kept}
use Rattle.tables.specs.Tables.{kept_of, rules_from}
use Rattle.tables.proofs.Tables.{kept_more, kept_sound}
use Rattle.collecting.specs.declared.Pass.{Pass}
use Rattle.collecting.specs.declared.Collected.{Collected}
use Rattle.collecting.specs.Left.{heard_in, left, Counted, Behind, IdlePassed, is_rule, Next, Turn}

-- a line's text has no line ending
no_ending : (l : List ℕ) → any line_end (up_to line_end l) ≡ false
unfolding any up_to
no_ending [] = refl
no_ending (c ∷ l) = split (line_end c) (λ e. rw e) (λ e. rw (e, e) (no_ending l))

-- what is left of the lines ls, whatever their groups' numbers, is what is left at q, from where on the entries are theirs
past_left : (file who : List ℕ) (ls : List Line) (h : Hearing) (group : ℕ) (ruled : Bool) (q : Pass) → Alike file who h (heard_in q)
    → ((above : ℕ) (ruled : Bool) → entries_from above ruled (lines_on file q.at) ≡ entries_from above ruled ls)
    → rules_heard file who h (entries_from group ruled ls) ≡ left file who q
past_left file who ls h group ruled q alike same =
    heard_numbers file who ls h group 0 ruled false
    ∙ heard_alike file who (entries_from 0 false ls) h (heard_in q) alike
    ∙ ap (rules_heard file who (heard_in q)) (sym (same 0 false))

-- the line at p
module _ (file who : List ℕ) (p : Pass) (h : p.at.place.offset < length file) where
  abbrev kind : Kind
  kind = kind_of (text_at file p.at.place)

  whole : left file who p
      ≡ rules_heard file who (heard_in p)
      (entry_of (group_at 0 false (role_of kind)) (here file p.at h) kind (role_of kind)
      ++ entries_from (group_at 0 false (role_of kind)) (ruled_after false (role_of kind)) (lines_past file p.at))
  whole = ap (rules_heard file who (heard_in p)) (entries_here file p.at h 0 false)

  -- one that is no agent or rule line changes nothing
  pub left_idle : role_of kind ≡ none → (r : Position)
      → ((above : ℕ) (ruled : Bool) → entries_from above ruled (lines_on file r) ≡ entries_from above ruled (lines_past file p.at))
      → left file who p ≡ left file who (record { at = r; applies = p.applies; joins = p.joins })
  unfolding entry_of
  left_idle e r same =
      whole
      ∙ (rw e (past_left file who (lines_past file p.at) (heard_in p) _ _ (record { at = r; applies = p.applies; joins = p.joins }) (refl, refl) same))

  -- an agent line may change whether rules apply
  pub left_agent : (a : Agent) → kind ≡ Kind.Agent a → (b : Bool)
      → b ≡ ((p.joins && p.applies) || names (line_value file p.at.place (Kind.Agent a)) who)
      → left file who p ≡ left file who (record { at = line_behind file p.at; applies = b; joins = true })
  unfolding entry_of role_of rules_heard rule_heard
  left_agent a e b t =
      whole
      ∙ (rw (e, t)
      (past_left file who (lines_past file p.at) _ _ _
      (record {
        at = line_behind file p.at;
        applies = (p.joins && p.applies) || names (line_value file p.at.place (Kind.Agent a)) who;
        joins = true;
      })
      (refl, refl)
      (λ above ruled. refl)))

  -- and a rule line has its rule in front of what is left behind it
  pub left_rule : (side : Side) (q : Pattern) → Kind.Rule side q ≡ kind
      → left file who p
      ≡ rule_heard file p.applies (rule side) (entry_at p.at (Kind.Rule side q) (rule side))
      ++ left file who (record { at = line_behind file p.at; applies = p.applies; joins = false })
  unfolding entry_of role_of rules_heard rule_heard
  left_rule side q e =
      whole
      ∙ (rw (← e)
      (ap (λ (rs : List Rule). rule_heard file p.applies (rule side) (entry_at p.at (Kind.Rule side q) (rule side)) ++ rs)
      (past_left file who (lines_past file p.at) _ _ _ (record { at = line_behind file p.at; applies = p.applies; joins = false }) (refl, refl) (λ above ruled. refl))))

-- the next line is behind it
pub next_behind : (file : List ℕ) (p : Position) → Counted file p → Behind file p (line_behind file p)
next_behind file p c =
    let on : p.place.offset < (next_at file p.place).offset = next_further file p.place c.inside in
    record {
      further = on;
      inside = next_inside file p.place (omega (arith, c.inside));
      counted = omega (arith, on, c.counted);
    }

-- and so is the one behind blocks that are passed over
pub blocks_behind : (file : List ℕ) (p r : Position) → Counted file p → PassedOver file p r → IdlePassed file p (line_behind file r)
blocks_behind file p r c over =
    record {
      behind =
          record {
            further = past_further file p r over c.inside;
            inside = next_inside file r.place (omega (arith, past_inside file p r over c.inside));
            counted = past_few file p r over c.inside c.counted;
          };
      entries = blocks_entries file p r over;
    }

-- past a `let .. else` that asks for an agent line: no rule line either
pub idle_role : (k : Kind) → ((a : Agent) → k ≡ Kind.Agent a → ⊥) → is_rule k ≡ false → role_of k ≡ none
unfolding role_of
idle_role Kind.Blank o e = refl
idle_role Kind.Noise o e = refl
idle_role Kind.Other o e = refl
idle_role (Kind.Agent a) o e = absurd (o a refl)
idle_role (Kind.Rule side q) o e = absurd (true≢false e)

-- past one that asks for a rule line
pub no_rule : (k : Kind) → ((side : Side) (q : Pattern) → k ≡ Kind.Rule side q → ⊥) → is_rule k ≡ false
no_rule Kind.Blank o = refl
no_rule Kind.Noise o = refl
no_rule Kind.Other o = refl
no_rule (Kind.Agent a) o = refl
no_rule (Kind.Rule side q) o = absurd (o side q refl)

-- an agent line's kind is told for a pass as it is
pub agent_told : (k : Kind) (a : Agent) → k ≡ Kind.Agent a → k ≡ entry_kind k
agent_told k a e = rw e

-- a line's text is no longer than the file
pub text_few : (file : List ℕ) (p : Place) → p.offset ≤ length file → length (text_at file p) ≤ length file
text_few file p h = omega (arith, text_inside file p h)

-- the text of a line, as it is read
module _ (file : List ℕ) (p e : Place) (h : p.offset ≤ length file) (known : e ≡ place_after p (length (text_at file p))) where
  ends : e.offset ≡ p.offset + length (text_at file p)
  ends = ap (λ (x : Place). x.offset) known

  pub text_ordered : p.offset ≤ e.offset
  text_ordered = omega (arith, ends)

  pub text_ends : e.offset ≤ length file
  text_ends = omega (arith, ends, text_inside file p h)

  pub text_read : take (e.offset - p.offset) (drop p.offset file) ≡ text_at file p
  text_read = let size : e.offset - p.offset ≡ length (text_at file p) = omega (arith, ends) in rw size (take_up_to line_end (drop p.offset file))

  pub text_unended : any line_end (text_at file p) ≡ false
  text_unended = no_ending (drop p.offset file)

-- a line's answer is its kind
pub kind_answered : (l : List ℕ) → length l ≤ 512_000 → any line_end l ≡ false → line_answer l ≡ LineAnswer.Kind (kind_of l)
kind_answered l h e = line_answered l (one_line l h e)

-- so no line of a file is refused
pub kind_told : (r : Result Kind Refusal) (l : List ℕ) → length l ≤ 512_000 → any line_end l ≡ false → line_answer_of r ≡ line_answer l
    → result_unwrap_or r Kind.Other ≡ kind_of l
kind_told (Ok k) l h e t = ap (told k) (t ∙ kind_answered l h e)
  where
    told : Kind → LineAnswer → Kind
    told i (LineAnswer.Refused m) = i
    told i (LineAnswer.Kind x) = x
kind_told (Err r) l h e t = absurd (false≢true (ap answers (t ∙ kind_answered l h e)))
  where
    answers : LineAnswer → Bool
    answers (LineAnswer.Refused m) = false
    answers (LineAnswer.Kind j) = true

-- behind a line without an entry
pub idle_next : (file who : List ℕ) (p : Pass) → Counted file p.at → role_of (kind_of (text_at file p.at.place)) ≡ none → (r : Position)
    → IdlePassed file p.at r → Next file who p [] (record { at = r; applies = p.applies; joins = p.joins })
idle_next file who p c e r i = record { behind = i.behind; left = left_idle file who p c.inside e r i.entries }

-- behind an agent line
pub agent_next : (file who : List ℕ) (p : Pass) → Counted file p.at → (k : Kind) → k ≡ kind_of (text_at file p.at.place) → (a : Agent) → k ≡ Kind.Agent a
    → (v : List ℕ) → v ≡ line_value file p.at.place k → (b : Bool) → b ≡ ((p.joins && p.applies) || names v who)
    → (q : Position) → q ≡ line_behind file p.at → Next file who p [] (record { at = q; applies = b; joins = true })
agent_next file who p c k e a t v u b w q x =
    let value : v ≡ line_value file p.at.place (Kind.Agent a) = u ∙ ap (line_value file p.at.place) t in
    rw x
    (record {
      behind = next_behind file p.at c;
      left = left_agent file who p c.inside a (sym e ∙ t) b (w ∙ ap (λ (l : List ℕ). (p.joins && p.applies) || names l who) value);
    })

-- behind a rule line
module _ (file : List ℕ) (c : Collected) (ok : Counted file c.pass.at) (side : Side) (pattern : Pattern) (e : Kind.Rule side pattern ≡ kind_of (text_at file c.pass.at.place)) (q : Position) (x : q ≡ line_behind file c.pass.at) where
  abbrev behind : Pass
  behind = record { at = q; applies = c.pass.applies; joins = false }

  pub inner : c.pass.at.place.offset ≤ length file
  inner = omega (arith, ok.inside)

  rule_next : (rs : List Rule) → heard_here file c.pass.at side pattern e inner c.pass.applies ≡ rs → (who : List ℕ) → Next file who c.pass rs behind
  rule_next rs h who =
      rw x
      (record {
        behind = next_behind file c.pass.at ok;
        left = left_rule file who c.pass ok.inside side pattern e ∙ ap (λ (l : List Rule). l ++ left file who (record { at = line_behind file c.pass.at; applies = c.pass.applies; joins = false })) h;
      })

  -- none is kept
  pub turn_none : (table : List Kept) → heard_here file c.pass.at side pattern e inner c.pass.applies ≡ []
      → (who : List ℕ) → Turn file who table c table (record { count = c.count; pass = behind })
  turn_none table h who =
      record {
        rules = [];
        next = rule_next [] h who;
        kept = sym (append-nil (rules_from 0 c.count table));
        sound = λ s. s;
        same = refl;
        few = omega arith;
      }

  -- one is
  pub turn_one : (table : List Kept) (r : Rule) (v : List ℕ) → c.count < length table → r.place.offset + r.length ≤ length file → v ≡ pattern_of file r
      → heard_here file c.pass.at side pattern e inner c.pass.applies ≡ r ∷ []
      → (after : List Kept) → after ≡ set table c.count (kept_of r v)
      → (who : List ℕ) → Turn file who table c after (record { count = c.count + 1; pass = behind })
  turn_one table r v room inside known h after a who =
      rw a
      (record {
        rules = r ∷ [];
        next = rule_next (r ∷ []) h who;
        kept = kept_more table c.count r v room;
        sound = kept_sound table c.count r v room file inside known;
        same = length-set table c.count (kept_of r v);
        few = omega arith;
      })

-- behind any other line nothing is kept
pub turn_other : (file who : List ℕ) (table : List Kept) (c : Collected) (q : Pass) → Next file who c.pass [] q → Turn file who table c table (record { count = c.count; pass = q })
turn_other file who table c q n =
    record {
      rules = [];
      next = n;
      kept = sym (append-nil (rules_from 0 c.count table));
      sound = λ s. s;
      same = refl;
      few = omega arith;
    }
