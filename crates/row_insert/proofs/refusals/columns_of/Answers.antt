use Rattle.std.proofs.Common.{◌<◌, List, length, ap, sym, subst, ◌∙◌}
use Rattle.row_types.specs.declared.tables.TableDef.{TableDef}
use Rattle.row_types.specs.declared.tables.Schema.{Schema}
use Rattle.table_rows.proofs.States.{table_in_schema}
use Rattle.row_insert.proofs.Columns.{read_columns}
use Rattle.row_insert.proofs.refusals.columns_of.Goals as goal

pub bounds-as_slice-table : goal.bounds-as_slice-table
bounds-as_slice-table c =
    let read = c.as_slice.ensures ∙ ap (λ (s : Schema). s.tables) c.schema.ensures.schema in
    subst (λ (defs : List TableDef). c.args.table < length defs) (sym read) (table_in_schema c.args.tables.now c.schema.ensures.valid c.args.table c.requires)

pub returns : goal.returns
returns c =
    let read = c.as_slice.ensures ∙ ap (λ (s : Schema). s.tables) c.schema.ensures.schema in
    read_columns c.as_slice.result.now c.args.tables.now c.args.table c.index-as_slice-table.result c.as_slice-2.result.now read (table_in_schema c.args.tables.now c.schema.ensures.valid c.args.table c.requires) c.as_slice-2.ensures
