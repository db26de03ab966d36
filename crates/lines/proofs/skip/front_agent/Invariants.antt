-- What is found, or what is left, whichever comes first, is what is sought.
use Rattle.std.proofs.Common.{◌≡◌, ◌+◌, ◌≤◌, drop, min}
use Rattle.std.specs.List.{zip}
use Rattle.lines.specs.Skips.{agent_front}
use Rattle.lines.proofs.skip.front_agent.Given as goal

abbrev pub invariant-loop-i : goal.invariant-loop-i
invariant-loop-i l =
    (l.first ≤ 64) × (min l.first (l.i + agent_front (drop l.i (zip l.b l.behind))) ≡ agent_front (zip l.b l.behind))
