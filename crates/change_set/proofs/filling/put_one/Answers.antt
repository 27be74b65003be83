use Rattle.std.proofs.Common.{◌≡◌, ◌<◌, List, length, sym, subst, arith}
use Rattle.table_rows.specs.Checks.{IsRow}
use Rattle.table_rows.specs.Rows.{columns_of}
use Rattle.table_rows.proofs.GoingBack.{goes_none}
use Rattle.change_set.specs.Fitting.{FitsSchema}
use Rattle.change_set.proofs.CounterNotes.{schema_long}
use Rattle.change_set.proofs.Carried.{held_row}
use Rattle.change_set.proofs.filling.put_one.Goals as goal

pub returns-in_err-copy_row-in-Put-clause-back : goal.returns-in_err-copy_row-in-Put-clause-back
returns-in_err-copy_row-in-Put-clause-back c = goes_none c.args.tables.now c.args.undo.now.entries

pub returns-in-Delete-clause-back : goal.returns-in-Delete-clause-back
returns-in-Delete-clause-back c = goes_none c.args.tables.now c.args.undo.now.entries

pub returns-in-Delete-2-clause-back : goal.returns-in-Delete-2-clause-back
returns-in-Delete-2-clause-back c = goes_none c.args.tables.now c.args.undo.now.entries

pub put_in-requires-clause-table : goal.put_in-requires-clause-table
put_in-requires-clause-table c =
    let fit = subst (FitsSchema c.args.tables.now.schema) c.in-Put.is c.requires in
    omega (arith, fit.0, schema_long c.args.tables.now c.schema.ensures.valid)

pub put_in-requires-clause-row : goal.put_in-requires-clause-row
put_in-requires-clause-row c =
    let fit = subst (FitsSchema c.args.tables.now.schema) c.in-Put.is c.requires in
    let columns = columns_of c.args.tables.now c.in-Put.table in
    subst (IsRow columns) (sym c.in_ok-copy_row-in-Put.ensures) (held_row columns c.in-Put.row fit.1)
