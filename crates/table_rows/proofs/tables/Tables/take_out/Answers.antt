use Rattle.std.proofs.Common.{◌≡◌, ◌-◌, ap, ◌∙◌, arith}
use Rattle.row_types.specs.Size.{row_size}
use Rattle.table_rows.specs.Slots.{row_of, row_at, without_at}
use Rattle.table_rows.specs.Sizes.{total}
use Rattle.table_rows.specs.Table.{Table, without_in}
use Rattle.table_rows.proofs.Inner.{valid_state, counted_state, read_at, seen_at, inside_at}
use Rattle.table_rows.proofs.Counted.{total_deleted, row_size_le_total}
use Rattle.table_rows.proofs.Allowed.{deleted_valid}
use Rattle.table_rows.proofs.tables.Tables.take_out.Goals as goal

pub row_size-requires : goal.row_size-requires
row_size-requires c =
    let state = c.args.self.now in
    let table = c.args.table in
    let valid = valid_state c.self.inside c.self.invariant state c.self.view_is table c.requires.table in
    let counted = counted_state c.self.inside c.self.invariant state c.self.view_is table c.requires.table in
    let kept = read_at c.self.inside c.self.invariant state c.self.view_is table c.requires.table c.index_mut-store.result.now c.index_mut-store.ensures.value in
    let old : c.take-old.result ≡ row_at state table c.args.slot = c.take-old.ensures.handed ∙ ap (λ (t : Table). row_of c.args.slot t.rows.entries) kept in
    let size = ap row_size old in
    let most = row_size_le_total state valid table c.requires.table c.args.slot c.requires.live in
    let bytes = valid.bytes in
    omega (arith, size, most, bytes)

pub overflow_sub-self : goal.overflow_sub-self
overflow_sub-self c =
    let state = c.args.self.now in
    let table = c.args.table in
    let valid = valid_state c.self.inside c.self.invariant state c.self.view_is table c.requires.table in
    let counted = counted_state c.self.inside c.self.invariant state c.self.view_is table c.requires.table in
    let kept = read_at c.self.inside c.self.invariant state c.self.view_is table c.requires.table c.index_mut-store.result.now c.index_mut-store.ensures.value in
    let old : c.take-old.result ≡ row_at state table c.args.slot = c.take-old.ensures.handed ∙ ap (λ (t : Table). row_of c.args.slot t.rows.entries) kept in
    let size = c.row_size.ensures ∙ ap row_size old in
    let most = row_size_le_total state valid table c.requires.table c.args.slot c.requires.live in
    omega (arith, size, most, counted)

pub invariant_of-self : goal.invariant_of-self
invariant_of-self c =
    let state = c.args.self.now in
    let table = c.args.table in
    let valid = valid_state c.self.inside c.self.invariant state c.self.view_is table c.requires.table in
    let counted = counted_state c.self.inside c.self.invariant state c.self.view_is table c.requires.table in
    let kept = read_at c.self.inside c.self.invariant state c.self.view_is table c.requires.table c.index_mut-store.result.now c.index_mut-store.ensures.value in
    let new = c.take-old.ensures.gone ∙ ap (λ (t : Table). without_in t c.args.slot) kept in
    let old : c.take-old.result ≡ row_at state table c.args.slot = c.take-old.ensures.handed ∙ ap (λ (t : Table). row_of c.args.slot t.rows.entries) kept in
    let less = c.row_size.ensures ∙ ap row_size old in
    let bytes = total_deleted state valid table c.requires.table c.args.slot c.requires.live in
    let sum : c.self.inside.total - c.row_size.result ≡ total (without_at state table c.args.slot) = omega (arith, counted, bytes, less) in
    inside_at c.self.inside c.self.invariant state c.self.view_is table c.requires.table _ c.take-old.new.self _ new c.index_mut-store.result.now c.index_mut-store.ensures.value (deleted_valid state valid table c.requires.table c.args.slot c.requires.live) sum

pub returns-clause-handed : goal.returns-clause-handed
returns-clause-handed c =
    let state = c.args.self.now in
    let table = c.args.table in
    let valid = valid_state c.self.inside c.self.invariant state c.self.view_is table c.requires.table in
    let counted = counted_state c.self.inside c.self.invariant state c.self.view_is table c.requires.table in
    let kept = read_at c.self.inside c.self.invariant state c.self.view_is table c.requires.table c.index_mut-store.result.now c.index_mut-store.ensures.value in
    c.take-old.ensures.handed ∙ ap (λ (t : Table). row_of c.args.slot t.rows.entries) kept

pub returns-clause-gone : goal.returns-clause-gone
returns-clause-gone c =
    let state = c.args.self.now in
    let table = c.args.table in
    let valid = valid_state c.self.inside c.self.invariant state c.self.view_is table c.requires.table in
    let counted = counted_state c.self.inside c.self.invariant state c.self.view_is table c.requires.table in
    let kept = read_at c.self.inside c.self.invariant state c.self.view_is table c.requires.table c.index_mut-store.result.now c.index_mut-store.ensures.value in
    let new = c.take-old.ensures.gone ∙ ap (λ (t : Table). without_in t c.args.slot) kept in
    seen_at c.self.inside c.self.invariant state c.self.view_is table c.requires.table 0 c.take-old.new.self _ new
