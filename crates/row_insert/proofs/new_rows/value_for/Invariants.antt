use Rattle.std.proofs.Common.{◌≡◌, drop}
use Rattle.row_insert.specs.Insert.{value_for}
use Rattle.row_insert.proofs.new_rows.value_for.Given as goal

abbrev pub invariant-loop-place : goal.invariant-loop-place
invariant-loop-place l = value_for (drop l.place l.numbers) (drop l.place l.values) l.column l.preset ≡ value_for l.numbers l.values l.column l.preset
