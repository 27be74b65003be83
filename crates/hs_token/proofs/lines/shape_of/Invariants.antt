use Rattle.std.proofs.Common.{◌≡◌, ◌+◌, ◌||◌, length, drop}
use Rattle.hs_token.specs.Reading.{first_bad_from, first_bad, fields_of}
use Rattle.hs_token.specs.Steps.{has_escape}
use Rattle.hs_token.proofs.lines.shape_of.Given as goal

abbrev pub invariant-loop-place : goal.invariant-loop-place
invariant-loop-place l = record {
  bad : first_bad_from l.place l.before (drop l.place l.line) ≡ first_bad l.line;
  tokens : l.shape.tokens + length (fields_of (drop l.place l.line)) ≡ length (fields_of l.line) + 1;
  escape : (l.shape.has_escape || has_escape (drop l.place l.line)) ≡ has_escape l.line;
}
