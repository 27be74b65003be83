use Rattle.std.proofs.Common.{◌≡◌, ◌≤◌}
use Rattle.hand_off.proofs.tests.take_all.Given as goal

abbrev pub invariant-loop : goal.invariant-loop
invariant-loop g l = (l.pass.line ≡ l.initial.pass.line) × (l.next ≤ 10000)
