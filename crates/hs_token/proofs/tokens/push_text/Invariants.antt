use Rattle.std.proofs.Common.{◌≡◌, ◌+◌, ◌≤◌, ◌++◌, length, drop, vec_len, vec_capacity}
use Rattle.hs_token.specs.Spelling.{text_spelled}
use Rattle.hs_token.proofs.tokens.push_text.Given as goal

abbrev pub invariant-loop-byte : goal.invariant-loop-byte
invariant-loop-byte l = record {
  written : l.out.items ++ text_spelled (drop l.byte-index l.text) ≡ l.fn.out.items ++ text_spelled l.text;
  room : vec_len l.out + length (text_spelled (drop l.byte-index l.text)) ≤ vec_capacity l.out;
}
