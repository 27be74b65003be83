use Rattle.std.proofs.Common.{◌≢◌, List, length, ap, sym, ◌∙◌}
use Rattle.row_types.specs.declared.values.Value.{Value}
use Rattle.row_types.specs.declared.columns.Column.{Column}
use Rattle.row_types.specs.declared.columns.Fit.TheVariants.{WrongKind}
use Rattle.row_types.specs.Fit.{kind_fit}
use Rattle.table_rows.specs.Rows.{columns_of}
use Rattle.table_rows.proofs.States.{zip_long}
use Rattle.row_insert.specs.Refusal.{is_too_long}
use Rattle.row_insert.proofs.Coming.{row_fits}
use Rattle.row_insert.proofs.refusals.refusal_of.Goals as goal

pub is_too_long-requires : goal.is_too_long-requires
is_too_long-requires c =
    let same = zip_long (λ (column : Column) (value : Value). kind_fit column.kind value ≢ WrongKind) (columns_of c.args.tables.now c.args.table) c.args.row.now c.requires.row in
    ap length c.as_slice.ensures ∙ sym same ∙ ap length (sym c.columns_of.ensures)

pub check_put-requires-clause-row : goal.check_put-requires-clause-row
check_put-requires-clause-row c =
    row_fits (columns_of c.args.tables.now c.args.table) c.args.row.now c.requires.row
    (ap (λ (columns : List Column). is_too_long columns c.args.row.now) (sym c.columns_of.ensures) ∙ ap (is_too_long c.columns_of.result.now) (sym c.as_slice.ensures) ∙ sym c.is_too_long.ensures ∙ c.if-is_too_long.false)
