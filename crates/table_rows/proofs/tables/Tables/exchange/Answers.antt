use Rattle.std.proofs.Common.{◌≡◌, ◌+◌, ◌-◌, ap, sym, subst, ◌∙◌, arith}
use Rattle.row_types.specs.Size.{row_size}
use Rattle.table_rows.specs.StoreWalks.{IsNew}
use Rattle.table_rows.specs.Slots.{row_of, row_at, without, entries_with}
use Rattle.table_rows.specs.Rows.{with_counted}
use Rattle.table_rows.specs.Sizes.{total}
use Rattle.table_rows.specs.Table.{Table, with_row_in, with_count}
use Rattle.table_rows.proofs.Inner.{valid_state, counted_state, read_at, seen_at, inside_at}
use Rattle.table_rows.proofs.Counted.{total_replaced, row_size_le_total}
use Rattle.table_rows.proofs.Allowed.{new_after}
use Rattle.table_rows.proofs.tables.Tables.exchange.Goals as goal

pub replace-old-requires-clause-new : goal.replace-old-requires-clause-new
replace-old-requires-clause-new c =
    let state = c.args.self.now in
    let table = c.args.table in
    let valid = valid_state c.self.inside c.self.invariant state c.self.view_is table c.requires.table in
    let counted = counted_state c.self.inside c.self.invariant state c.self.view_is table c.requires.table in
    let kept = read_at c.self.inside c.self.invariant state c.self.view_is table c.requires.table c.index_mut-store.result.now c.index_mut-store.ensures.value in
    subst (λ (t : Table). IsNew t.key c.args.row (without c.args.slot t.rows.entries)) (sym kept) (new_after state valid table c.requires.table c.args.slot c.args.row c.args.counter c.requires.valid)

pub row_size-requires : goal.row_size-requires
row_size-requires c =
    let state = c.args.self.now in
    let table = c.args.table in
    let valid = valid_state c.self.inside c.self.invariant state c.self.view_is table c.requires.table in
    let counted = counted_state c.self.inside c.self.invariant state c.self.view_is table c.requires.table in
    let kept = read_at c.self.inside c.self.invariant state c.self.view_is table c.requires.table c.index_mut-store.result.now c.index_mut-store.ensures.value in
    let old : c.replace-old.result ≡ row_at state table c.args.slot = c.replace-old.ensures.handed ∙ ap (λ (t : Table). row_of c.args.slot t.rows.entries) kept in
    let size = ap row_size old in
    let most = row_size_le_total state valid table c.requires.table c.args.slot c.requires.live in
    let bytes = valid.bytes in
    omega (arith, size, most, bytes)

pub overflow_sub-self : goal.overflow_sub-self
overflow_sub-self c =
    let state = c.args.self.now in
    let table = c.args.table in
    let valid = valid_state c.self.inside c.self.invariant state c.self.view_is table c.requires.table in
    let counted = counted_state c.self.inside c.self.invariant state c.self.view_is table c.requires.table in
    let kept = read_at c.self.inside c.self.invariant state c.self.view_is table c.requires.table c.index_mut-store.result.now c.index_mut-store.ensures.value in
    let old : c.replace-old.result ≡ row_at state table c.args.slot = c.replace-old.ensures.handed ∙ ap (λ (t : Table). row_of c.args.slot t.rows.entries) kept in
    let size = c.row_size.ensures ∙ ap row_size old in
    let most = row_size_le_total state valid table c.requires.table c.args.slot c.requires.live in
    omega (arith, size, most, counted)

pub invariant_of-self : goal.invariant_of-self
invariant_of-self c =
    let state = c.args.self.now in
    let table = c.args.table in
    let valid = valid_state c.self.inside c.self.invariant state c.self.view_is table c.requires.table in
    let counted = counted_state c.self.inside c.self.invariant state c.self.view_is table c.requires.table in
    let kept = read_at c.self.inside c.self.invariant state c.self.view_is table c.requires.table c.index_mut-store.result.now c.index_mut-store.ensures.value in
    let new = c.set_counter.ensures ∙ ap (λ (t : Table). with_count t c.args.counter) (c.replace-old.ensures.row ∙ ap (λ (t : Table). with_row_in t c.args.slot c.args.row) kept) in
    let old : c.replace-old.result ≡ row_at state table c.args.slot = c.replace-old.ensures.handed ∙ ap (λ (t : Table). row_of c.args.slot t.rows.entries) kept in
    let less = c.row_size.ensures ∙ ap row_size old in
    let more = c.row_size-size.ensures in
    let bytes = total_replaced state valid table c.requires.table (record { 0 = c.args.slot }) c.args.row c.args.counter c.requires.live in
    let sum : c.self.inside.total - c.row_size.result + c.row_size-size.result ≡ total (with_counted state table (entries_with state table c.args.slot c.args.row) c.args.counter) = omega (arith, counted, bytes, less, more) in
    inside_at c.self.inside c.self.invariant state c.self.view_is table c.requires.table _ c.set_counter.new.self _ new c.index_mut-store.result.now c.index_mut-store.ensures.value c.requires.valid sum

pub returns-clause-handed : goal.returns-clause-handed
returns-clause-handed c =
    let state = c.args.self.now in
    let table = c.args.table in
    let valid = valid_state c.self.inside c.self.invariant state c.self.view_is table c.requires.table in
    let counted = counted_state c.self.inside c.self.invariant state c.self.view_is table c.requires.table in
    let kept = read_at c.self.inside c.self.invariant state c.self.view_is table c.requires.table c.index_mut-store.result.now c.index_mut-store.ensures.value in
    c.replace-old.ensures.handed ∙ ap (λ (t : Table). row_of c.args.slot t.rows.entries) kept

pub returns-clause-exchanged : goal.returns-clause-exchanged
returns-clause-exchanged c =
    let state = c.args.self.now in
    let table = c.args.table in
    let valid = valid_state c.self.inside c.self.invariant state c.self.view_is table c.requires.table in
    let counted = counted_state c.self.inside c.self.invariant state c.self.view_is table c.requires.table in
    let kept = read_at c.self.inside c.self.invariant state c.self.view_is table c.requires.table c.index_mut-store.result.now c.index_mut-store.ensures.value in
    let new = c.set_counter.ensures ∙ ap (λ (t : Table). with_count t c.args.counter) (c.replace-old.ensures.row ∙ ap (λ (t : Table). with_row_in t c.args.slot c.args.row) kept) in
    seen_at c.self.inside c.self.invariant state c.self.view_is table c.requires.table 0 c.set_counter.new.self _ new
