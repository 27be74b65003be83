use Rattle.std.proofs.Common.{◌≡◌, drop}
use Rattle.sql_parse.specs.Fitting.{group_fits}
use Rattle.sql_parse.proofs.fitting.group_fits.Given as goal

-- the columns and the cells that are left decide
abbrev pub invariant-loop-place : goal.invariant-loop-place
invariant-loop-place l = group_fits l.columns (drop l.place-index l.places) l.left ≡ group_fits l.columns l.places l.cells
