use Rattle.std.proofs.Common.{◌≡◌, ℕ, ◌≤◌, ◌^◌, ap, sym, subst, ◌∙◌}
use Rattle.table_rows.specs.Counters.{raised}
use Rattle.table_rows.specs.Rows.{counted_at, counter_of, with_counted}
use Rattle.table_rows.specs.Slots.{entries_with}
use Rattle.table_rows.specs.Table.{Table}
use Rattle.table_rows.specs.Valid.{IsValidState}
use Rattle.table_rows.proofs.Allowed.{replaced_valid, counter_most}
use Rattle.table_rows.proofs.States.{rows_valid}
use Rattle.table_rows.proofs.Undone.{replaced_leads}
use Rattle.table_rows.proofs.tables.Tables.replace.Goals as goal

pub exchange-old-requires-clause-valid : goal.exchange-old-requires-clause-valid
exchange-old-requires-clause-valid c =
    let state = c.args.self.now in
    let table = c.args.table in
    let valid : IsValidState state = rw (← c.self.view_is) c.self.invariant.valid in
    let kept = c.store-2.ensures in
    let is : c.raised-counter.result ≡ raised (counted_at state table) c.args.row (counter_of state table) = c.raised-counter.ensures.raised ∙ ap (λ (t : Table). raised t.counted c.args.row t.rows.counter) kept in
    let few = counter_most (counted_at state table) (counter_of state table) (rows_valid state valid table c.requires.table).counter in
    let most = subst (λ (n : ℕ). n ≤ 2 ^ 63) is (c.raised-counter.ensures.most (subst (λ (t : Table). t.rows.counter ≤ 2 ^ 63) (sym kept) few)) in
    subst (λ (n : ℕ). IsValidState (with_counted state table (entries_with state table c.args.slot.0 c.args.row) n)) (sym is)
    (replaced_valid state valid table c.requires.table c.args.slot c.args.row c.requires.live c.requires.row c.requires.bytes most)

pub returns-clause-replaced : goal.returns-clause-replaced
returns-clause-replaced c =
    let state = c.args.self.now in
    let table = c.args.table in
    let is : c.raised-counter.result ≡ raised (counted_at state table) c.args.row (counter_of state table) = c.raised-counter.ensures.raised ∙ ap (λ (t : Table). raised t.counted c.args.row t.rows.counter) c.store-2.ensures in
    c.exchange-old.ensures.exchanged ∙ ap (with_counted state table (entries_with state table c.args.slot.0 c.args.row)) is

pub returns-clause-back : goal.returns-clause-back
returns-clause-back c =
    let valid : IsValidState c.args.self.now = rw (← c.self.view_is) c.self.invariant.valid in
    replaced_leads c.args.self.now valid c.args.table c.requires.table c.args.slot.0 c.args.row c.requires.row c.requires.live c.exchange-old.result c.exchange-old.ensures.handed
    c.counter-before.result (c.counter-before.ensures ∙ ap (λ (t : Table). t.rows.counter) c.store.ensures)
    c.exchange-old.new.self (returns-clause-replaced c) c.args.undo.now.entries c.push_reserved.new.self.entries c.push_reserved.ensures.entries
