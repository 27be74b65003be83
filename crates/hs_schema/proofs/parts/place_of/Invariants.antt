use Rattle.std.proofs.Common.{◌≡◌, ◌+◌, drop}
use Rattle.hs_schema.specs.Reading.{place_of}
use Rattle.hs_schema.proofs.parts.place_of.Given as goal

abbrev pub invariant-loop-place : goal.invariant-loop-place
invariant-loop-place l = l.place + place_of (drop l.place l.columns) l.name ≡ place_of l.columns l.name
