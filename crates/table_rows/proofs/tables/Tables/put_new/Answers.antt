use Rattle.std.proofs.Common.{◌≡◌, ℕ, ◌+◌, ◌≤◌, ◌^◌, ap, ap₂, sym, subst, ◌∙◌, arith}
use Rattle.table_rows.specs.StoreWalks.{IsNew}
use Rattle.table_rows.specs.Slots.{IsVacant, with_row_at}
use Rattle.table_rows.specs.Sizes.{total}
use Rattle.table_rows.specs.Table.{Table, with_row_in, with_count}
use Rattle.table_rows.specs.Counters.{raised}
use Rattle.table_rows.specs.Rows.{counted_at, counter_of}
use Rattle.table_rows.proofs.States.{rows_valid}
use Rattle.table_rows.proofs.Inner.{valid_state, counted_state, read_at, seen_at, inside_at}
use Rattle.table_rows.proofs.Counted.{total_put}
use Rattle.table_rows.proofs.Allowed.{new_when_allowed, put_valid, counter_most}
use Rattle.table_rows.proofs.tables.Tables.put_new.Goals as goal

pub put-slot-requires-clause-new : goal.put-slot-requires-clause-new
put-slot-requires-clause-new c =
    let state = c.args.self.now in
    let table = c.args.table in
    let valid = valid_state c.self.inside c.self.invariant state c.self.view_is table c.requires.table in
    let counted = counted_state c.self.inside c.self.invariant state c.self.view_is table c.requires.table in
    let kept = read_at c.self.inside c.self.invariant state c.self.view_is table c.requires.table c.index_mut-store.result.now c.index_mut-store.ensures.value in
    subst (λ (t : Table). IsNew t.key c.args.row t.rows.entries) (sym kept) (new_when_allowed state valid table c.requires.table c.args.row c.requires.row)

pub invariant_of-self : goal.invariant_of-self
invariant_of-self c =
    let state = c.args.self.now in
    let table = c.args.table in
    let valid = valid_state c.self.inside c.self.invariant state c.self.view_is table c.requires.table in
    let counted = counted_state c.self.inside c.self.invariant state c.self.view_is table c.requires.table in
    let kept = read_at c.self.inside c.self.invariant state c.self.view_is table c.requires.table c.index_mut-store.result.now c.index_mut-store.ensures.value in
    let slot = c.put-slot.result in
    let raised_is : c.raised-counter.result ≡ raised (counted_at state table) c.args.row (counter_of state table) = c.raised-counter.ensures.raised ∙ ap (λ (t : Table). raised t.counted c.args.row t.rows.counter) kept in
    let new = c.set_counter.ensures ∙ ap₂ with_count (c.put-slot.ensures.row ∙ ap (λ (t : Table). with_row_in t slot c.args.row) kept) raised_is in
    let few = counter_most (counted_at state table) (counter_of state table) (rows_valid state valid table c.requires.table).counter in
    let most = subst (λ (n : ℕ). n ≤ 2 ^ 63) raised_is (c.raised-counter.ensures.most (subst (λ (t : Table). t.rows.counter ≤ 2 ^ 63) (sym kept) few)) in
    let vacant = subst (λ (t : Table). IsVacant slot t.rows) kept c.put-slot.ensures.vacant in
    let bytes = total_put state valid table c.requires.table slot c.args.row (raised (counted_at state table) c.args.row (counter_of state table)) vacant.free in
    let size = c.row_size-size.ensures in
    let sum : c.self.inside.total + c.row_size-size.result ≡ total (with_row_at state table slot c.args.row) = omega (arith, counted, bytes, size) in
    inside_at c.self.inside c.self.invariant state c.self.view_is table c.requires.table _ c.set_counter.new.self _ new c.index_mut-store.result.now c.index_mut-store.ensures.value (put_valid state valid table c.requires.table slot c.args.row vacant c.requires.row c.requires.bytes most) sum

pub returns-clause-vacant : goal.returns-clause-vacant
returns-clause-vacant c =
    let state = c.args.self.now in
    let table = c.args.table in
    let valid = valid_state c.self.inside c.self.invariant state c.self.view_is table c.requires.table in
    let counted = counted_state c.self.inside c.self.invariant state c.self.view_is table c.requires.table in
    let kept = read_at c.self.inside c.self.invariant state c.self.view_is table c.requires.table c.index_mut-store.result.now c.index_mut-store.ensures.value in
    subst (λ (t : Table). IsVacant c.put-slot.result t.rows) kept c.put-slot.ensures.vacant

pub returns-clause-put : goal.returns-clause-put
returns-clause-put c =
    let state = c.args.self.now in
    let table = c.args.table in
    let valid = valid_state c.self.inside c.self.invariant state c.self.view_is table c.requires.table in
    let counted = counted_state c.self.inside c.self.invariant state c.self.view_is table c.requires.table in
    let kept = read_at c.self.inside c.self.invariant state c.self.view_is table c.requires.table c.index_mut-store.result.now c.index_mut-store.ensures.value in
    let raised_is : c.raised-counter.result ≡ raised (counted_at state table) c.args.row (counter_of state table) = c.raised-counter.ensures.raised ∙ ap (λ (t : Table). raised t.counted c.args.row t.rows.counter) kept in
    let new = c.set_counter.ensures ∙ ap₂ with_count (c.put-slot.ensures.row ∙ ap (λ (t : Table). with_row_in t c.put-slot.result c.args.row) kept) raised_is in
    seen_at c.self.inside c.self.invariant state c.self.view_is table c.requires.table 0 c.set_counter.new.self _ new
