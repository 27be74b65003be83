use Rattle.std.proofs.Common.{◌+◌, ◌≤◌, ◌∙◌, sym, arith}
use Rattle.std.specs.Str.Parse.{digits_value}
use Rattle.hs_token.proofs.NumberLemmas.{step_ge, digit_step_ge, too_great}
use Rattle.hs_token.proofs.numbers.number_up_to.Goals as goal

pub returns-in_err-checked_mul : goal.returns-in_err-checked_mul
returns-in_err-checked_mul c =
    let le : c.args.greatest + 1 ≤ digits_value 10 c.args.digits.now =
    omega (arith, step_ge c.loop-digit.number c.loop-digit.digit-index c.args.digits.now _ c.loop-digit-test.true c.loop-digit.invariant.value, c.in_err-checked_mul.ensures, c.ranges.greatest) in
    c.from_residual.ensures ∙ sym (too_great (c.args.greatest + 1) c.args.digits.now le)

pub returns-in_err-number : goal.returns-in_err-number
returns-in_err-number c =
    let le : c.args.greatest + 1 ≤ digits_value 10 c.args.digits.now =
    omega (arith, digit_step_ge c.loop-digit.number c.loop-digit.digit-index c.args.digits.now _ c.loop-digit-test.true c.loop-digit.invariant.value (sym c.is_ascii_digit.ensures.value ∙ c.if-not-is_ascii_digit.false), c.in_err-number.ensures, c.in_ok-checked_mul.ensures, c.ranges.greatest) in
    c.from_residual-in_err-number.ensures ∙ sym (too_great (c.args.greatest + 1) c.args.digits.now le)

pub returns-then-number-greatest : goal.returns-then-number-greatest
returns-then-number-greatest c =
    let le : c.args.greatest + 1 ≤ digits_value 10 c.args.digits.now =
    omega (arith, digit_step_ge c.loop-digit.number c.loop-digit.digit-index c.args.digits.now _ c.loop-digit-test.true c.loop-digit.invariant.value (sym c.is_ascii_digit.ensures.value ∙ c.if-not-is_ascii_digit.false), c.in_ok-number.ensures, c.in_ok-checked_mul.ensures, c.ranges.greatest) in
    sym (too_great (c.args.greatest + 1) c.args.digits.now le)
