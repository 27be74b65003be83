use Rattle.std.proofs.Common.{◌≡◌, length, ap, sym, ◌∙◌}
use Rattle.row_types.specs.declared.columns.Column.{Column}
use Rattle.row_types.specs.declared.columns.Fit.TheVariants.{Fine}
use Rattle.row_types.specs.declared.tables.TableDef.{TableDef}
use Rattle.row_types.specs.declared.values.Value.{Value}
use Rattle.row_types.specs.Fit.{kind_fit}
use Rattle.table_rows.specs.Rows.{columns_of}
use Rattle.table_rows.proofs.States.{zip_long}
use Rattle.table_rows.proofs.Sized.{row_size_most}
use Rattle.table_rows.proofs.tables.Tables.verdict.Goals as goal

pub null_column-null-requires-clause-each : goal.null_column-null-requires-clause-each
null_column-null-requires-clause-each c =
    let columns = columns_of c.args.self.now c.args.table in
    let read : c.as_slice.result.now ≡ columns = c.as_slice.ensures ∙ ap (λ (d : TableDef). d.columns) c.def-def.ensures.def in
    sym (ap length read ∙ zip_long (λ (column : Column) (value : Value). kind_fit column.kind value ≡ Fine) columns c.args.row.now c.requires.row)

pub total_with-requires-clause-size : goal.total_with-requires-clause-size
total_with-requires-clause-size c = row_size_most (columns_of c.args.self.now c.args.table) c.args.row.now c.def-def.ensures.valid.columns c.requires.row
