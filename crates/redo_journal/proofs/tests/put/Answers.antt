use Rattle.std.proofs.Common.{arith}
use Rattle.redo_journal.proofs.tests.put.Goals as goal

pub append-requires-clause-no_root : goal.append-requires-clause-no_root
append-requires-clause-no_root c is = omega (arith, is.size)
