use Rattle.std.proofs.Common.{◌≡◌, ℕ, List, ◌∷◌, [], length, true, false, refl, sym, ap, subst, ◌∙◌}
use Rattle.std.specs.Ordering.{is_eq}
use Rattle.row_types.specs.declared.values.Value.{Value}
use Rattle.row_types.specs.declared.tables.Schema.{Schema}
use Rattle.table_rows.specs.Entries.{cells}
use Rattle.table_rows.specs.Rows.{State, entries_of, indexes_of}
use Rattle.table_rows.specs.Walks.{keyed, slot_of}
use Rattle.table_rows.proofs.GoingBack.{goes_none}
use Rattle.change_set.specs.declared.change.Change.TheVariants.{Put}
use Rattle.change_set.specs.Sets.{key_columns}
use Rattle.change_set.specs.Steps.{rows_in, AreCleared}
use Rattle.change_set.proofs.RowTests.{row_lacking}
use Rattle.change_set.proofs.ClearSteps.{nothing_cleared, gone_cleared}
use Rattle.change_set.proofs.FoundRow.{found_none, found_row, own_length, same_found, other_found}
use Rattle.change_set.proofs.clearing.clear_put.Goals as goal

pub returns-in_err-key-clause-back : goal.returns-in_err-key-clause-back
returns-in_err-key-clause-back c = goes_none c.args.tables.now c.args.undo.now.entries

pub returns-in-None-clause-back : goal.returns-in-None-clause-back
returns-in-None-clause-back c = goes_none c.args.tables.now c.args.undo.now.entries

pub returns-then-is_eq-clause-back : goal.returns-then-is_eq-clause-back
returns-then-is_eq-clause-back c = goes_none c.args.tables.now c.args.undo.now.entries

pub returns-in-None-clause-cleared : goal.returns-in-None-clause-cleared
returns-in-None-clause-cleared c =
    let state = c.args.tables.now in
    let table = c.args.table in
    let row = c.args.row.now in
    let key : c.as_slice.result.now ≡ cells (key_columns state.schema table) row = c.as_slice.ensures ∙ c.in_ok-key.ensures ∙ ap (λ (s : Schema). cells (key_columns s table) row) c.schema.ensures.schema in
    let found = sym (ap (λ (k : List Value). slot_of (keyed (indexes_of state table) k (entries_of state table))) key) ∙ sym c.find_key.ensures.keyed ∙ c.in-None.is in
    let none = found_none state table (cells (key_columns state.schema table) row) (own_length (key_columns state.schema table) row) found in
    λ applied. (
      nothing_cleared state c.schema.ensures.valid (Put table row) c.requires refl none,
      row_lacking (rows_in state table) row (λ inside. none row inside refl),
    )

pub returns-then-is_eq-clause-refused : goal.returns-then-is_eq-clause-refused
returns-then-is_eq-clause-refused c = λ refused. same_found c.args.tables.now c.args.table c.in-Some.slot.0 c.args.row.now c.row.result.now c.in-Some.ensures.live c.row.ensures (sym (ap is_eq c.cmp_keys.ensures) ∙ sym c.is_eq.ensures ∙ c.if-is_eq.true)

pub returns-clause-cleared : goal.returns-clause-cleared
returns-clause-cleared c =
    let state = c.args.tables.now in
    let table = c.args.table in
    let row = c.args.row.now in
    let slot = c.in-Some.slot in
    let key : c.as_slice.result.now ≡ cells (key_columns state.schema table) row = c.as_slice.ensures ∙ c.in_ok-key.ensures ∙ ap (λ (s : Schema). cells (key_columns s table) row) c.schema.ensures.schema in
    let found = sym (ap (λ (k : List Value). slot_of (keyed (indexes_of state table) k (entries_of state table))) key) ∙ sym c.find_key.ensures.keyed ∙ c.in-Some.is in
    let one = found_row state table (cells (key_columns state.schema table) row) (own_length (key_columns state.schema table) row) slot found in
    λ applied. (
      subst (λ (after : State). AreCleared (Put table row ∷ []) state after) (sym c.in_ok-take_out-in-Some.ensures.gone) (gone_cleared state c.schema.ensures.valid (Put table row) c.requires refl slot.0 one.0 one.1 one.2),
      other_found state c.schema.ensures.valid table c.requires slot.0 row one.0 one.1 one.2 c.row.result.now c.row.ensures (sym (ap is_eq c.cmp_keys.ensures) ∙ sym c.is_eq.ensures ∙ c.if-is_eq.false),
    )
