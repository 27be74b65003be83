use Rattle.std.proofs.Common.{◌≡◌, ◌+◌, ◌*◌, ◌++◌, length, drop, fold}
use Rattle.std.specs.List.{position_from}
use Rattle.std.specs.Str.{bytes_eq}
use Rattle.row_types.specs.declared.tables.TableDef.{TableDef}
use Rattle.sql_parse.proofs.names.named_from.Given as goal

abbrev pub invariant-loop-number : goal.invariant-loop-number
invariant-loop-number l = position_from (λ (t : TableDef). bytes_eq t.name l.name) l.number (drop l.number l.tables) ≡ position_from (λ (t : TableDef). bytes_eq t.name l.name) l.from (drop l.from l.tables)
