use Rattle.std.proofs.Common.{◌≡◌, ◌+◌, drop, length}
use Rattle.check_point.specs.Written.{made_from}
use Rattle.check_point.proofs.writing.count_changes.Given as goal

-- the changes of the tables that are left are those that are missing
abbrev pub invariant-loop-table : goal.invariant-loop-table
invariant-loop-table l = l.count + length (made_from l.table (drop l.table l.tables.schema.tables) (drop l.table l.tables.tables)) ≡ length (made_from 0 l.tables.schema.tables l.tables.tables)
