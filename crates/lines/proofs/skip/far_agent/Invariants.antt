-- What is left gives the whole.
use Rattle.std.proofs.Common.{◌≡◌, ◌+◌, ◌*◌, ◌<◌, length, drop}
use Rattle.lines.specs.Skips.{pairs, agent_front}
use Rattle.lines.proofs.skip.far_agent.Given as goal

abbrev pub invariant-loop-b : goal.invariant-loop-b
invariant-loop-b l =
    record {
      place : l.at ≡ l.fn.from.offset + 64 * length l.yielded;
      inside : l.at < length l.s;
      whole : l.at + agent_front (drop l.at (pairs l.s)) ≡ l.fn.from.offset + agent_front (drop l.fn.from.offset (pairs l.s));
    }
