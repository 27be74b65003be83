use Rattle.std.proofs.Common.{◌≡◌, ◌++◌, drop}
use Rattle.row_insert.specs.Insert.{row_from, new_row}
use Rattle.row_insert.proofs.new_rows.new_row.Given as goal

abbrev pub invariant-loop-number : goal.invariant-loop-number
invariant-loop-number l = l.values.items ++ row_from l.number (drop l.number l.columns) l.spec.columns l.spec.values ≡ new_row l.columns l.spec
