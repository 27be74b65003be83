use Rattle.std.proofs.Common.{◌≡◌}
use Rattle.hs_disk.specs.Sound.{images}
use Rattle.table_book.specs.Books.{IsKept}
use Rattle.table_book.proofs.tests.refusals.Given as goal

abbrev pub invariant-loop : goal.invariant-loop
invariant-loop g l = record {
  kept : IsKept (λ disk. disk.bytes) images l.book;
  schema : l.book.tables.schema ≡ l.fn.book.tables.schema;
}
