use Rattle.std.proofs.Common.{◌≡◌, ◌≤◌, ◌++◌, false, length, drop, vec_len, vec_capacity}
use Rattle.hs_token.specs.Reading.{text_of}
use Rattle.hs_token.proofs.lines.text.Given as goal

abbrev pub invariant-loop-byte : goal.invariant-loop-byte
invariant-loop-byte l = record {
  read : l.text.items ++ text_of l.is_escaped (drop l.byte-index l.field) ≡ text_of false l.field;
  filled : vec_len l.text ≤ l.byte-index;
  room : length l.field ≤ vec_capacity l.text;
}
