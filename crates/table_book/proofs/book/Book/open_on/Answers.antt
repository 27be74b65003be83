use Rattle.table_book.specs.Books.{Keeping}
use Rattle.table_book.proofs.Opening.{opened_kept, opened_shows}
use Rattle.table_book.proofs.book.Book.open_on.Goals as goal

pub returns-in-Ok-clause-reads : goal.returns-in-Ok-clause-reads
returns-in-Ok-clause-reads g c tells =
    let book : Keeping g.row.D.Denot = record { tables = c.in-Ok.found.tables; journal = c.in-Ok.found.journal; disk = c.recover.new.disk; log_max = c.args.log_max } in
    opened_shows book c.args.schema c.args.bytes_max c.in-Ok.ensures.of_schema.0 c.in-Ok.ensures.of_schema.1 (g.D.Disk.seen c.args.disk) (c.in-Ok.ensures.reads tells)

pub returns-in-Ok-clause-kept : goal.returns-in-Ok-clause-kept
returns-in-Ok-clause-kept g c tells =
    let book : Keeping g.row.D.Denot = record { tables = c.in-Ok.found.tables; journal = c.in-Ok.found.journal; disk = c.recover.new.disk; log_max = c.args.log_max } in
    opened_kept book c.args.schema c.args.bytes_max c.in-Ok.ensures.of_schema.0 c.in-Ok.ensures.of_schema.1 g.D.Disk.seen g.D.Disk.may_leave c.in-Ok.ensures.quiet (c.in-Ok.ensures.stands tells)
