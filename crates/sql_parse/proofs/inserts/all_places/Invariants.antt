use Rattle.std.proofs.Common.{◌≡◌, ◌++◌, drop}
use Rattle.sql_parse.specs.Statements.{places_from, all_places}
use Rattle.sql_parse.proofs.inserts.all_places.Given as goal

-- the places so far, and those from here on
abbrev pub invariant-loop-place : goal.invariant-loop-place
invariant-loop-place l = l.places ++ places_from l.place (drop l.place l.columns) ≡ all_places l.columns
