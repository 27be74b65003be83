use Rattle.std.proofs.Common.{rules, ◌≡◌, ◌<◌, false, length, get_or, List, Some, ap, sym, subst, ◌∙◌}
use Rattle.std.proofs.lemmas.List.{get_or_default}
use Rattle.row_types.specs.declared.values.Value.{Value}
use Rattle.row_types.specs.declared.values.Value.TheVariants as values
use Rattle.row_types.specs.Counted.{counted_of}
use Rattle.table_rows.specs.Entries.{cell_at}
use Rattle.table_rows.specs.Rows.{columns_of, counted_at, counter_of}
use Rattle.row_insert.specs.Draw.{is_drawn}
use Rattle.row_insert.proofs.Drawn.{counted_within, stays_undrawn}
use Rattle.row_insert.proofs.drawing.coming_to.Goals as goal

pub bounds-as_slice-column : goal.bounds-as_slice-column
bounds-as_slice-column c =
    let columns = columns_of c.args.tables.now c.args.table in
    let counted : counted_of columns ≡ Some c.in-Some.column = sym c.counted.ensures ∙ c.in-Some.is in
    let within = counted_within columns c.args.row c.in-Some.column c.requires.row counted in
    subst (λ (row : List Value). c.in-Some.column < length row) (sym c.as_slice.ensures) within

pub returns-then-not-is_drawn : goal.returns-then-not-is_drawn
returns-then-not-is_drawn c =
    let state = c.args.tables.now in
    let table = c.args.table in
    let column = c.in-Some.column in
    let counted : counted_at state table ≡ Some column = sym c.counted.ensures ∙ c.in-Some.is in
    let within = counted_within (columns_of state table) c.args.row column c.requires.row counted in
    let value : c.index-as_slice-column.result ≡ cell_at c.args.row column =
    c.index-as_slice-column.is ∙ ap (λ (row : List Value). get_or row column c.index-as_slice-column.result) c.as_slice.ensures ∙ get_or_default c.args.row column c.index-as_slice-column.result values.Null within in
    let undrawn : is_drawn (cell_at c.args.row column) ≡ false = ap is_drawn (sym value) ∙ sym c.is_drawn.ensures ∙ c.if-not-is_drawn.true in
    sym (stays_undrawn (counted_at state table) column (counter_of state table) c.args.row counted undrawn)

pub index_mut-requires : goal.index_mut-requires
index_mut-requires c =
    let columns = columns_of c.args.tables.now c.args.table in
    let counted : counted_of columns ≡ Some c.in-Some.column = sym c.counted.ensures ∙ c.in-Some.is in
    let within = counted_within columns c.args.row c.in-Some.column c.requires.row counted in
    let inside : c.in-Some.column < length c.into_vec-values.result.items = subst (λ (row : List Value). c.in-Some.column < length row) (sym c.into_vec-values.ensures) within in
    search rules
