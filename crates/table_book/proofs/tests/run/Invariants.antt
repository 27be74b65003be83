use Rattle.std.proofs.Common.{◌≡◌}
use Rattle.hs_disk.specs.Sound.{images}
use Rattle.table_book.specs.Books.{IsKept}
use Rattle.table_book.proofs.tests.run.Given as goal

abbrev pub invariant-loop-lines : goal.invariant-loop-lines
invariant-loop-lines g l = record {
  kept : IsKept (λ disk. disk.bytes) images l.book;
  schema : l.book.tables.schema ≡ l.schema;
}
