use Rattle.std.proofs.Common.{◌+◌, ◌≤◌, length, ap, sym, subst, ◌∙◌}
use Rattle.std.proofs.lemmas.Result.{on_ok_weaker, on_err_weaker}
use Rattle.table_rows.specs.Rows.{State, entries_of, room_of}
use Rattle.table_rows.specs.Table.{Table, with_room}
use Rattle.table_rows.specs.Widths.{room_for}
use Rattle.table_rows.proofs.Inner.{valid_state, counted_state, read_at, seen_at, inside_at}
use Rattle.table_rows.proofs.States.{with_same}
use Rattle.table_rows.proofs.Wider.{widened_valid, widened_total, roomy_kept, slots_found}
use Rattle.table_rows.proofs.tables.Tables.widen.Goals as goal

pub invariant_of-self : goal.invariant_of-self
invariant_of-self c =
    let state = c.args.self.now in
    let table = c.args.table in
    let valid = valid_state c.self.inside c.self.invariant state c.self.view_is table c.requires in
    let counted = counted_state c.self.inside c.self.invariant state c.self.view_is table c.requires in
    let kept = read_at c.self.inside c.self.invariant state c.self.view_is table c.requires c.index_mut-store.result.now c.index_mut-store.ensures.value in
    let roomy = roomy_kept c.reserve.result c.index_mut-store.result.now c.reserve.new.self c.args.rows c.reserve.ensures.ok c.reserve.ensures.err in
    let room = c.reserve.new.self.rows.room in
    let new = roomy.0 ∙ ap (λ (t : Table). with_room t room) kept in
    let wide = subst (λ (t : Table). t.rows.room ≤ room) kept roomy.1 in
    inside_at c.self.inside c.self.invariant state c.self.view_is table c.requires _ c.reserve.new.self _ new c.index_mut-store.result.now c.index_mut-store.ensures.value (widened_valid state valid table c.requires room wide) (counted ∙ sym (widened_total state table c.requires room))

pub returns-clause-ok : goal.returns-clause-ok
returns-clause-ok c =
    let state = c.args.self.now in
    let table = c.args.table in
    let kept = read_at c.self.inside c.self.invariant state c.self.view_is table c.requires c.index_mut-store.result.now c.index_mut-store.ensures.value in
    on_ok_weaker c.reserve.result
    (λ ok. seen_at c.self.inside c.self.invariant state c.self.view_is table c.requires 0 c.reserve.new.self _ (ok ∙ ap (λ (t : Table). with_room t (room_for c.args.rows t.rows)) kept))
    c.reserve.ensures.ok

pub returns-clause-room : goal.returns-clause-room
returns-clause-room c =
    on_ok_weaker c.reserve.result
    (λ ok. subst (λ (s : State). length (entries_of s c.args.table) + c.args.rows ≤ room_of s c.args.table) (sym ok) (slots_found c.args.self.now c.args.table c.requires c.args.rows))
    (returns-clause-ok c)

pub returns-clause-err : goal.returns-clause-err
returns-clause-err c =
    let state = c.args.self.now in
    let table = c.args.table in
    let kept = read_at c.self.inside c.self.invariant state c.self.view_is table c.requires c.index_mut-store.result.now c.index_mut-store.ensures.value in
    on_err_weaker c.reserve.result
    (λ same. seen_at c.self.inside c.self.invariant state c.self.view_is table c.requires 0 c.reserve.new.self _ (same ∙ kept) ∙ with_same state table)
    c.reserve.ensures.err
