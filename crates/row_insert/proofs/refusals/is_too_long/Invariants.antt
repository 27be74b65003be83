use Rattle.std.proofs.Common.{◌≡◌, drop, zip}
use Rattle.std.specs.List.{list_any}
use Rattle.row_insert.specs.Refusal.{is_long_in, is_too_long}
use Rattle.row_insert.proofs.refusals.is_too_long.Given as goal

abbrev pub invariant-loop-place : goal.invariant-loop-place
invariant-loop-place l = list_any is_long_in (zip (drop l.place l.columns) (drop l.place l.row)) ≡ is_too_long l.columns l.row
