use Rattle.std.proofs.Common.{◌≡◌, drop}
use Rattle.std.specs.List.{position_from}
use Rattle.request_types.specs.Names.{is_table, table_named}
use Rattle.request_types.proofs.names.table_named.Given as goal

abbrev pub invariant-loop-number : goal.invariant-loop-number
invariant-loop-number l = position_from (is_table l.db l.name) l.number (drop l.number l.tables) ≡ table_named l.tables l.db l.name
