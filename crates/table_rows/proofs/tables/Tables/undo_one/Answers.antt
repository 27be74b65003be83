use Rattle.std.proofs.Common.{◌≡◌, ◌<◌, length, ap, sym, subst, ◌∙◌}
use Rattle.table_rows.specs.declared.undo.Undo.{Undo}
use Rattle.table_rows.specs.Rows.{State, entries_of, counter_of, with_counted, with_counter}
use Rattle.table_rows.specs.Slots.{without}
use Rattle.table_rows.specs.Undoing.{table_of, undone}
use Rattle.table_rows.specs.Valid.{IsValidState}
use Rattle.table_rows.proofs.States.{counter_again}
use Rattle.table_rows.proofs.tables.Tables.undo_one.Goals as goal

pub count_to-requires-clause-valid : goal.count_to-requires-clause-valid
count_to-requires-clause-valid c =
    let state = c.args.self.now in
    let table = c.in-Put.table in
    let counter = c.in-Put.counter in
    let rest = without c.in-Put.slot.0 (entries_of state table) in
    let within = subst (λ (u : Undo). table_of u < length state.tables) c.in-Put.is c.requires.table in
    let gone : with_counter c.take_out.new.self table counter ≡ with_counted state table rest counter =
    ap (λ (s : State). with_counter s table counter) c.take_out.ensures.gone ∙ counter_again state table within rest (counter_of state table) counter in
    subst IsValidState (sym gone) (subst (λ (u : Undo). IsValidState (undone u state)) c.in-Put.is c.requires.valid)

pub returns-in-Put : goal.returns-in-Put
returns-in-Put c =
    let state = c.args.self.now in
    let table = c.in-Put.table in
    let counter = c.in-Put.counter in
    let rest = without c.in-Put.slot.0 (entries_of state table) in
    let within = subst (λ (u : Undo). table_of u < length state.tables) c.in-Put.is c.requires.table in
    c.count_to.ensures ∙ ap (λ (s : State). with_counter s table counter) c.take_out.ensures.gone ∙ counter_again state table within rest (counter_of state table) counter
    ∙ sym (ap (λ (u : Undo). undone u state) c.in-Put.is)
