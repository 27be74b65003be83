use Rattle.std.proofs.Common.{arith}
use Rattle.hs_token.proofs.Texts.{escapes_le}
use Rattle.hs_token.proofs.tokens.count_escapes.Goals as goal

pub overflow_add-escapes : goal.overflow_add-escapes
overflow_add-escapes c =
    omega (arith, c.loop-byte.invariant, escapes_le c.args.text.now)
