use Rattle.std.proofs.Common.{◌≡◌, ◌++◌, ◌≤◌, map, drop}
use Rattle.std.specs.Prelude.{slice_range}
use Rattle.hs_schema.specs.Reading.{place_of, names_from, parts_of}
use Rattle.hs_schema.proofs.parts.parts_of.Given as goal

abbrev pub invariant-loop-end : goal.invariant-loop-end
invariant-loop-end l = record {
  order : l.start ≤ l.end;
  read : l.parts.items ++ map (place_of l.columns) (names_from (slice_range l.text l.start l.end) (drop l.end l.text)) ≡ parts_of l.columns l.text;
}
