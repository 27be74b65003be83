use Rattle.std.proofs.Common.{◌≡◌, map, take}
use Rattle.table_rows.specs.Table.{empty_table}
use Rattle.table_rows.proofs.one_table.empty_tables.Given as goal

abbrev pub invariant-loop-def : goal.invariant-loop-def
invariant-loop-def l = l.tables.items ≡ map empty_table (take l.def-index l.defs)
