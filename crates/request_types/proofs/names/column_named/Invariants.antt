use Rattle.std.proofs.Common.{◌≡◌, drop}
use Rattle.std.specs.List.{position_from}
use Rattle.std.specs.Str.{bytes_eq}
use Rattle.row_types.specs.declared.columns.Column.{Column}
use Rattle.request_types.specs.Names.{column_named}
use Rattle.request_types.proofs.names.column_named.Given as goal

abbrev pub invariant-loop-number : goal.invariant-loop-number
invariant-loop-number l = position_from (λ (c : Column). bytes_eq c.name l.name) l.number (drop l.number l.columns) ≡ column_named l.columns l.name
