use Rattle.std.proofs.Common.{◌≡◌, ◌<◌, ◌^◌, fold, drop}
use Rattle.sql_parse.specs.Numbers.{with_digit, below, number_of}
use Rattle.sql_parse.proofs.numbers.number_of.Given as goal

-- the digits so far and those that are left make the whole
abbrev pub invariant-loop-digit : goal.invariant-loop-digit
invariant-loop-digit l = record {
  read : below (2 ^ 64) (fold with_digit l.number (drop l.digit-index l.digits)) ≡ number_of l.digits;
  small : l.number < 2 ^ 64;
}
