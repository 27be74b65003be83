use Rattle.std.proofs.Common.{◌≡◌, ◌<◌, ℕ, true, List, length, Ok, sym, subst, ap, ◌∙◌}
use Rattle.std.specs.List.{All}
use Rattle.row_types.specs.declared.values.Value.{Value}
use Rattle.table_rows.specs.Rows.{State, def_of, columns_of}
use Rattle.table_rows.specs.Slots.{is_live_in, row_at}
use Rattle.find_modify.specs.Cells.{changed_row}
use Rattle.find_modify.proofs.Others.{live_without, live_with}
use Rattle.find_modify.proofs.CellKinds.{row_kinds, within_row, changed_kinds}
use Rattle.find_modify.proofs.one_row.change_one.Goals as goal

pub returns-then-deletes-clause-others : goal.returns-then-deletes-clause-others
returns-then-deletes-clause-others c other differ live =
    subst (λ (s : State). is_live_in s c.args.table other.0 ≡ true) (sym c.delete.ensures.deleted)
    (live_without c.args.tables.now c.args.table c.requires.table c.args.slot.0 other.0 differ live)

pub changed_row-requires-clause-within : goal.changed_row-requires-clause-within
changed_row-requires-clause-within c =
    let state = c.args.tables.now in
    let kinds = row_kinds state c.schema.ensures.valid c.args.table c.requires.table c.args.slot.0 c.requires.live in
    subst (λ (r : List Value). All (λ (n : ℕ). n < length r) c.args.columns.now) (sym c.row.ensures)
    (within_row (columns_of state c.args.table) (row_at state c.args.table c.args.slot.0) kinds c.args.columns.now c.requires.columns)

pub refusal_of-requires-clause-row : goal.refusal_of-requires-clause-row
refusal_of-requires-clause-row c =
    let state = c.args.tables.now in
    let change = c.args.change.now in
    let kinds = row_kinds state c.schema.ensures.valid c.args.table c.requires.table c.args.slot.0 c.requires.live in
    let made : changed_row change.kind c.args.columns.now change.values (row_at state c.args.table c.args.slot.0) ≡ Ok c.in-Ok.row =
    ap (changed_row change.kind c.args.columns.now change.values) (sym c.row.ensures) ∙ c.in-Ok.ensures in
    changed_kinds (def_of state c.args.table) c.args.columns.now change (row_at state c.args.table c.args.slot.0) c.in-Ok.row c.requires.columns c.requires.change kinds made

pub returns-clause-others : goal.returns-clause-others
returns-clause-others c other differ live =
    subst (λ (s : State). is_live_in s c.args.table other.0 ≡ true) (sym c.replace.ensures.replaced)
    (live_with c.args.tables.now c.args.table c.requires.table c.args.slot.0 other.0 differ live c.in-Ok.row)
