use Rattle.std.proofs.Common.{arith, rules}
use Rattle.hs_outside.proofs.memory_sink.MemSinkSink.write.Goals as goal

pub returns-clause-takes : goal.returns-clause-takes
returns-clause-takes c = (omega arith, omega arith, search rules, search rules)
