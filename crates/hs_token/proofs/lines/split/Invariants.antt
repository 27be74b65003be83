use Rattle.std.proofs.Common.{◌≡◌, ◌++◌, ◌+◌, ◌-◌, ◌≤◌, length, drop, map, vec_len, vec_capacity}
use Rattle.hs_token.specs.Reading.{fields_of, token_of}
use Rattle.hs_token.proofs.lines.split.Given as goal

abbrev pub invariant-loop-end : goal.invariant-loop-end
invariant-loop-end l = record {
  within : l.start ≤ length l.bytes;
  read : l.tokens.items ++ map token_of (fields_of (drop l.start l.bytes)) ≡ map token_of (fields_of l.bytes);
  room : vec_len l.tokens + length (fields_of (drop l.start l.bytes)) ≤ vec_capacity l.tokens;
}

abbrev pub decreases-loop-end : goal.decreases-loop-end
decreases-loop-end l = length l.bytes - l.start
