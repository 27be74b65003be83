use Rattle.std.proofs.Common.{◌≡◌, ◌+◌, drop}
use Rattle.hs_token.specs.Steps.{escapes_in}
use Rattle.hs_token.proofs.tokens.count_escapes.Given as goal

abbrev pub invariant-loop-byte : goal.invariant-loop-byte
invariant-loop-byte l = l.escapes + escapes_in (drop l.byte-index l.text) ≡ escapes_in l.text
