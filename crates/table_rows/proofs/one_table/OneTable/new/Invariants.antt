use Rattle.std.proofs.Common.{◌≡◌, [], take}
use Rattle.table_rows.specs.Indexes.{primary_of, parts_of}
use Rattle.table_rows.proofs.one_table.OneTable.new.Given as goal

abbrev pub invariant-loop-index : goal.invariant-loop-index
invariant-loop-index l = (l.store.key ≡ primary_of l.indexes) × (l.store.slots ≡ []) × (l.store.orders ≡ parts_of (take l.index-index l.indexes))
