use Rattle.std.proofs.Common.{refl, arith}
use Rattle.std.proofs.lemmas.Fmt.{decimal_digit}
use Rattle.hs_token.proofs.laws.example_lines.Goals as goal

pub returns-clause-reply : goal.returns-clause-reply
returns-clause-reply c = rw (decimal_digit 0 (omega arith), decimal_digit 3 (omega arith)) refl
