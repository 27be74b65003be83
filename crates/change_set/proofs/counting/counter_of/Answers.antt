use Rattle.change_set.proofs.CounterNotes.{no_counter}
use Rattle.std.proofs.Common.{sym, ◌∙◌}
use Rattle.change_set.proofs.counting.counter_of.Goals as goal

pub returns-in-None : goal.returns-in-None
returns-in-None c = no_counter c.args.tables.now c.schema.ensures.valid c.args.table c.requires (sym c.counter.ensures ∙ c.in-None.is)
