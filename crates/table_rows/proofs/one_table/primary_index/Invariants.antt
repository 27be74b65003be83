use Rattle.std.proofs.Common.{◌≡◌, drop, true}
use Rattle.std.specs.List.{list_any}
use Rattle.row_types.specs.declared.indexes.IndexDef.{IndexDef}
use Rattle.row_types.specs.Valid.{is_primary}
use Rattle.table_rows.specs.Indexes.{primary_of}
use Rattle.table_rows.proofs.one_table.primary_index.Given as goal

abbrev pub invariant-loop-number : goal.invariant-loop-number
invariant-loop-number l = record {
  same : primary_of (drop l.number l.indexes) ≡ primary_of l.indexes;
  some : list_any (λ (i : IndexDef). is_primary i.kind) (drop l.number l.indexes) ≡ true;
}
