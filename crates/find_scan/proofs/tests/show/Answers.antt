use Rattle.std.proofs.Common.{◌∙◌, ◌<◌, ℕ, List, [], ◌∷◌, length, refl, sym, ap, subst, arith}
use Rattle.std.proofs.lemmas.List.Elements.{All-from_recursion}
use Rattle.row_types.specs.declared.columns.Column.{Column}
use Rattle.row_types.specs.declared.tables.Schema.{Schema}
use Rattle.request_types.specs.Fits.{AreNumbers, FindFits}
use Rattle.table_rows.specs.Rows.{columns_of}
use Rattle.find_scan.specs.Examples.{some_columns}
use Rattle.find_scan.proofs.Plays.{find_fits, play_columns}
use Rattle.find_scan.proofs.tests.show.Goals as goal

pub select-requires : goal.select-requires
select-requires c = subst (λ (s : Schema). FindFits s c.args.spec.now) (sym c.requires.play.schema) (find_fits c.args.spec.now c.requires.find)

pub render-requires-clause-table : goal.render-requires-clause-table
render-requires-clause-table c = omega (arith, c.requires.find.table, c.requires.play.tables)

pub render-requires-clause-columns : goal.render-requires-clause-columns
render-requires-clause-columns c =
    let numbers : AreNumbers some_columns (0 ∷ []) = record { within = All-from_recursion (λ (n : ℕ). n < length some_columns) (0 ∷ []) (omega arith, tt); once = refl } in
    let is = c.as_slice-columns.ensures ∙ c.requires.find.columns in
    subst (λ (columns : List Column). AreNumbers columns c.as_slice-columns.result.now)
    (sym (ap (columns_of c.args.tables.now) c.requires.find.table ∙ play_columns c.args.tables.now c.requires.play.schema))
    (subst (AreNumbers some_columns) (sym is) numbers)
