use Rattle.std.proofs.Common.{◌≡◌, ◌+◌, ap, sym, subst, ◌∙◌, arith}
use Rattle.table_rows.specs.StoreWalks.{IsNew}
use Rattle.table_rows.specs.Rows.{entries_of, indexes_of, counter_of, with_entries}
use Rattle.table_rows.specs.Indexes.{primary_of}
use Rattle.table_rows.specs.Slots.{entries_with}
use Rattle.table_rows.specs.Sizes.{total}
use Rattle.table_rows.specs.Table.{Table, with_row_in}
use Rattle.table_rows.proofs.Inner.{valid_state, counted_state, read_at, seen_at, inside_at}
use Rattle.table_rows.proofs.BySlot.{without_free}
use Rattle.table_rows.proofs.Counted.{total_put}
use Rattle.table_rows.proofs.Allowed.{new_after}
use Rattle.table_rows.proofs.tables.Tables.put_back.Goals as goal

pub put_at-requires-clause-new : goal.put_at-requires-clause-new
put_at-requires-clause-new c =
    let state = c.args.self.now in
    let table = c.args.table in
    let valid = valid_state c.self.inside c.self.invariant state c.self.view_is table c.requires.table in
    let counted = counted_state c.self.inside c.self.invariant state c.self.view_is table c.requires.table in
    let kept = read_at c.self.inside c.self.invariant state c.self.view_is table c.requires.table c.index_mut-store.result.now c.index_mut-store.ensures.value in
    let new = new_after state valid table c.requires.table c.args.slot c.args.row (counter_of state table) c.requires.valid in
    let free = without_free c.args.slot (entries_of state table) c.requires.vacant.free in
    subst (λ (t : Table). IsNew t.key c.args.row t.rows.entries) (sym kept) (subst (IsNew (primary_of (indexes_of state table)) c.args.row) free new)

pub invariant_of-self : goal.invariant_of-self
invariant_of-self c =
    let state = c.args.self.now in
    let table = c.args.table in
    let valid = valid_state c.self.inside c.self.invariant state c.self.view_is table c.requires.table in
    let counted = counted_state c.self.inside c.self.invariant state c.self.view_is table c.requires.table in
    let kept = read_at c.self.inside c.self.invariant state c.self.view_is table c.requires.table c.index_mut-store.result.now c.index_mut-store.ensures.value in
    let new = c.put_at.ensures ∙ ap (λ (t : Table). with_row_in t c.args.slot c.args.row) kept in
    let bytes = total_put state valid table c.requires.table c.args.slot c.args.row (counter_of state table) c.requires.vacant.free in
    let size = c.row_size-size.ensures in
    let sum : c.self.inside.total + c.row_size-size.result ≡ total (with_entries state table (entries_with state table c.args.slot c.args.row)) = omega (arith, counted, bytes, size) in
    inside_at c.self.inside c.self.invariant state c.self.view_is table c.requires.table _ c.put_at.new.self _ new c.index_mut-store.result.now c.index_mut-store.ensures.value c.requires.valid sum

pub returns : goal.returns
returns c =
    let state = c.args.self.now in
    let table = c.args.table in
    let valid = valid_state c.self.inside c.self.invariant state c.self.view_is table c.requires.table in
    let counted = counted_state c.self.inside c.self.invariant state c.self.view_is table c.requires.table in
    let kept = read_at c.self.inside c.self.invariant state c.self.view_is table c.requires.table c.index_mut-store.result.now c.index_mut-store.ensures.value in
    let new = c.put_at.ensures ∙ ap (λ (t : Table). with_row_in t c.args.slot c.args.row) kept in
    seen_at c.self.inside c.self.invariant state c.self.view_is table c.requires.table 0 c.put_at.new.self _ new
