use Rattle.std.proofs.Common.{◌≡◌, List, ◌∷◌, [], refl, sym, subst, ◌∙◌}
use Rattle.table_rows.specs.Rows.{State, entries_of}
use Rattle.table_rows.proofs.GoingBack.{goes_none}
use Rattle.change_set.specs.declared.change.Change.TheVariants.{Delete}
use Rattle.change_set.specs.Sets.{key_columns}
use Rattle.change_set.specs.Steps.{rows_in, AreCleared}
use Rattle.change_set.proofs.RowTests.{key_held, key_lacking}
use Rattle.change_set.proofs.ClearSteps.{no_slot, gone_cleared}
use Rattle.change_set.proofs.FoundRow.{found_none, found_row}
use Rattle.change_set.proofs.clearing.clear_key.Goals as goal

pub returns-in-None-clause-back : goal.returns-in-None-clause-back
returns-in-None-clause-back c = goes_none c.args.tables.now c.args.undo.now.entries

pub returns-in-None-clause-refused : goal.returns-in-None-clause-refused
returns-in-None-clause-refused c =
    let state = c.args.tables.now in
    λ refused. key_lacking (key_columns state.schema c.args.table) (rows_in state c.args.table) c.args.key.now (found_none state c.args.table c.args.key.now c.requires.key (sym c.find_key.ensures.keyed ∙ c.in-None.is))

pub returns-in_ok-take_out-in-Some-clause-cleared : goal.returns-in_ok-take_out-in-Some-clause-cleared
returns-in_ok-take_out-in-Some-clause-cleared c =
    let state = c.args.tables.now in
    let table = c.args.table in
    let key = c.args.key.now in
    let slot = c.in-Some.slot in
    let one = found_row state table key c.requires.key slot (sym c.find_key.ensures.keyed ∙ c.in-Some.is) in
    λ applied. (
      subst (λ (after : State). AreCleared (Delete table key ∷ []) state after) (sym c.in_ok-take_out-in-Some.ensures.gone) (gone_cleared state c.schema.ensures.valid (Delete table key) c.requires.table refl slot.0 one.0 one.1 one.2),
      key_held (key_columns state.schema table) (rows_in state table) key one.0 (no_slot (entries_of state table) one.0 slot.0 one.1) one.2,
    )
