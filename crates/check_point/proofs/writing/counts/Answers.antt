use Rattle.std.proofs.Common.{ap, sym, ◌∙◌, length}
use Rattle.table_rows.specs.Rows.{counted_at, counter_of}
use Rattle.table_rows.proofs.States.{rows_valid}
use Rattle.check_point.proofs.TableLoop.{nothing_counted}
use Rattle.check_point.proofs.writing.counts.Goals as goal

pub returns-in-None : goal.returns-in-None
returns-in-None c =
    let state = c.args.tables.now in
    let table = c.args.table in
    ap length (nothing_counted table (counted_at state table) (counter_of state table) (sym c.counter.ensures ∙ c.in-None.is) (rows_valid state c.requires.valid table c.requires.table).counter)
