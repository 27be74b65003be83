use Rattle.std.proofs.Common.{◌∙◌}
use Rattle.table_rows.specs.Rows.{indexes_of}
use Rattle.table_rows.specs.Indexes.{index_columns}
use Rattle.table_rows.specs.Walks.{walk_of}
use Rattle.table_rows.proofs.KeyedRows.{all_from}
use Rattle.table_rows.proofs.PrimaryWalk.{primary_walk}
use Rattle.table_rows.proofs.tables.Tables.rows.Goals as goal

pub returns : goal.returns
returns c =
    let state = c.args.self.now in
    let index = c.primary-index.result in
    c.walk.ensures ∙ all_from (index_columns (indexes_of state c.args.table) index) (walk_of state c.args.table index)
    ∙ primary_walk state c.primary-index.ensures.valid c.args.table c.requires index c.primary-index.ensures.parts
