use Rattle.std.proofs.Common.{◌^◌, sym, ◌∙◌, arith}
use Rattle.sql_parse.proofs.Digits.{stops, is_read}
use Rattle.sql_parse.proofs.numbers.number_of.Goals as goal

pub returns-in-None : goal.returns-in-None
returns-in-None c =
    sym (stops (2 ^ 64) c.loop-digit.number c.args.digits.now c.loop-digit.digit-index _ c.loop-digit-test.true c.in-None.ensures.value)
    ∙ c.loop-digit.invariant.read

pub returns : goal.returns
returns c =
    sym (is_read (2 ^ 64) c.loop-digit.number c.args.digits.now c.loop-digit.digit-index c.loop-digit-test.false c.loop-digit.invariant.small)
    ∙ c.loop-digit.invariant.read
