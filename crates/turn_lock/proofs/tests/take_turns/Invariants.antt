use Rattle.std.proofs.Common.{◌≡◌, ◌+◌, length}
use mathlib.Core.List.{IsPrefix}
use Rattle.turn_lock.proofs.tests.take_turns.Given as goal

abbrev pub invariant-loop-place : goal.invariant-loop-place
invariant-loop-place g l =
    record {
      lock : l.pass.lock ≡ l.initial.pass.lock;
      passes : l.pass.passes ≡ l.initial.pass.passes;
      own : length l.pass.mine ≡ length l.initial.pass.mine + l.place;
      seen : IsPrefix l.initial.pass.seen l.pass.seen;
    }
