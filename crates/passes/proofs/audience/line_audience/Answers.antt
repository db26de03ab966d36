-- The value that is looked at is the line's. Assumes nothing.
use Rattle.std.proofs.Common.{ℕ, Some, ◌≡◌, ◌+◌, ◌-◌, ◌≤◌, List, length, take, drop, sym, ap, ◌∙◌}
use Rattle.std.proofs.Math.Seq.{drop-drop}
use Rattle.lists.proofs.Scans.{rest_of}
use Rattle.protocol.specs.declared.Kind.{Kind}
use Rattle.protocol.specs.declared.Place.{Place}
use Rattle.protocol.specs.Lines.{line_text}
use Rattle.protocol.specs.Kinds.{agent_at, kind_of}
use Rattle.protocol.specs.Entries.{role_of}
use Rattle.lines.specs.Spans.{text_at}
use Rattle.fields.specs.Fields.{head_of, value_at}
use Rattle.fields.specs.Near.{agent_value}
use Rattle.kinds.specs.Entries.{value_front}
use Rattle.hearing.specs.Heard.{addressed}
use Rattle.passes.specs.Entries.{line_value}
use Rattle.passes.proofs.Heads.{head_no_agent, agent_inside, agent_kind}
use Rattle.passes.proofs.Named.{agent_value as value_of_agent}
use Rattle.passes.proofs.Choices.{agent_audience, other_audience}
use Rattle.passes.proofs.audience.line_audience.Goals as goal

pub returns-in_default : goal.returns-in_default
returns-in_default c =
    let a = c.args in
    other_audience a.file.now a.name.now a.at
    (rw (rest_of a.at.offset a.file.now) at (head_no_agent _ c.in_default.ensures))

-- an agent line, and its value
module _ (file : List ℕ) (at : Place) (value : Place) (e : Some value ≡ agent_value (head_of (take (length file - at.offset) (drop at.offset file)))) where
  abbrev rest : List ℕ
  rest = take (length file - at.offset) (drop at.offset file)

  inside : value.offset ≤ length rest
  inside = agent_inside rest value e

  agent-known : Kind.Agent (agent_at value (value_at value rest)) ≡ kind_of (text_at file at)
  agent-known = agent_kind rest value e ∙ ap (λ (l : List ℕ). kind_of (line_text l)) (rest_of at.offset file)

  from-value : drop value.offset rest ≡ drop (at.offset + value.offset) file
  from-value = ap (drop value.offset) (rest_of at.offset file) ∙ drop-drop value.offset at.offset file

  value_known : value_front (drop value.offset rest) ≡ line_value file at (kind_of (text_at file at))
  unfolding value_at
  value_known =
      ap value_front from-value
      ∙ sym (value_of_agent file at value)
      ∙ ap (λ (v : List ℕ). line_value file at (Kind.Agent (agent_at value v))) (ap value_front (sym from-value))
      ∙ ap (line_value file at) agent-known

pub slice_bounds-value_audience-count : goal.slice_bounds-value_audience-count
slice_bounds-value_audience-count c = inside c.args.file.now c.args.at c.in-Some.value c.in-Some.ensures

pub slice_bounds-value_audience-start : goal.slice_bounds-value_audience-start
slice_bounds-value_audience-start c = inside c.args.file.now c.args.at c.in-Some.value c.in-Some.ensures

pub returns : goal.returns
unfolding role_of
returns c =
    let file = c.args.file.now in
    let at = c.args.at in
    let value = c.in-Some.value in
    c.value_audience.ensures
    ∙ ap (addressed c.args.name.now)
    (ap value_front (rest_of value.offset (take (length file - at.offset) (drop at.offset file))) ∙ value_known file at value c.in-Some.ensures)
    ∙ agent_audience file c.args.name.now at (ap role_of (sym (agent-known file at value c.in-Some.ensures)))
