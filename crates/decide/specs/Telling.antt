-- A decision as it is told where its unread count may not be asked for. Assumes nothing.
use Rattle.std.specs.Prelude.{Bool, if◌then◌else◌}
use Rattle.protocol.specs.Forms.{Decision}

-- with its unread count where the whole file is read, and else with 0 in its place
abbrev pub told : Bool → Decision → Decision
told whole d =
    record {
      refusal = d.refusal;
      side = d.side;
      line = d.line;
      place = d.place;
      length = d.length;
      unread = if whole then d.unread else 0;
      compared = d.compared;
    }
