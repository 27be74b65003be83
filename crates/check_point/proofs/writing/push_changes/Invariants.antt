use Rattle.std.proofs.Common.{◌≡◌, ◌++◌, drop}
use Rattle.std.specs.List.{flat_map}
use Rattle.change_set.specs.Fitting.{AreValuesHeld}
use Rattle.change_set.specs.Payload.{change_bytes}
use Rattle.check_point.specs.Written.{made_from}
use Rattle.check_point.proofs.writing.push_changes.Given as goal

-- the bytes of the tables that are left are those that are missing
abbrev pub invariant-loop-table : goal.invariant-loop-table
invariant-loop-table l = record {
  bytes : l.out.items ++ flat_map change_bytes (made_from l.table (drop l.table l.tables.schema.tables) (drop l.table l.tables.tables)) ≡ l.fn.out.items ++ flat_map change_bytes (made_from 0 l.tables.schema.tables l.tables.tables);
  held : AreValuesHeld (made_from l.table (drop l.table l.tables.schema.tables) (drop l.table l.tables.tables)) → AreValuesHeld (made_from 0 l.tables.schema.tables l.tables.tables);
}
