use Rattle.std.proofs.Common.{◌≡◌, ◌+◌, ◌*◌, ◌++◌, length, drop, fold}
use Rattle.std.specs.List.{position_from}
use Rattle.std.specs.Str.{str_eq_ignore_ascii_case}
use Rattle.row_types.specs.declared.columns.Column.{Column}
use Rattle.sql_parse.proofs.names.column_place.Given as goal

abbrev pub invariant-loop-place : goal.invariant-loop-place
invariant-loop-place l = position_from (λ (c : Column). str_eq_ignore_ascii_case c.name l.name) l.place (drop l.place l.columns) ≡ position_from (λ (c : Column). str_eq_ignore_ascii_case c.name l.name) 0 l.columns
