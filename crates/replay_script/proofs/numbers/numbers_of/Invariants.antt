use Rattle.std.proofs.Common.{◌≡◌, drop}
use Rattle.replay_script.specs.Words.{numbers_of}
use Rattle.replay_script.proofs.NumberLists.{with_numbers}
use Rattle.replay_script.proofs.numbers.numbers_of.Given as goal

-- the numbers so far, and those of the tokens that are left, are those of all
abbrev pub invariant-loop-token : goal.invariant-loop-token
invariant-loop-token l = with_numbers l.numbers.items (drop l.token-index l.tokens) ≡ numbers_of l.tokens
