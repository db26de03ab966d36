-- The rules of a round. Assumes nothing.
use Rattle.std.specs.Prelude.{List}
use Rattle.protocol.specs.declared.Rule.{Rule}
use Rattle.tables.specs.Tables.{rules_of}
use Rattle.rounds.specs.declared.Table.{Table}

abbrev pub rules_in : Table → List Rule
rules_in t = rules_of t.rules.now
