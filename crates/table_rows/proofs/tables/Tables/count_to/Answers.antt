use Rattle.std.proofs.Common.{ap, sym, ◌∙◌}
use Rattle.table_rows.specs.Table.{Table, with_count}
use Rattle.table_rows.proofs.Inner.{valid_state, counted_state, read_at, seen_at, inside_at}
use Rattle.table_rows.proofs.Counted.{total_counter}
use Rattle.table_rows.proofs.tables.Tables.count_to.Goals as goal

pub invariant_of-self : goal.invariant_of-self
invariant_of-self c =
    let state = c.args.self.now in
    let table = c.args.table in
    let valid = valid_state c.self.inside c.self.invariant state c.self.view_is table c.requires.table in
    let counted = counted_state c.self.inside c.self.invariant state c.self.view_is table c.requires.table in
    let kept = read_at c.self.inside c.self.invariant state c.self.view_is table c.requires.table c.index_mut-store.result.now c.index_mut-store.ensures.value in
    let new = c.set_counter.ensures ∙ ap (λ (t : Table). with_count t c.args.counter) kept in
    inside_at c.self.inside c.self.invariant state c.self.view_is table c.requires.table _ c.set_counter.new.self _ new c.index_mut-store.result.now c.index_mut-store.ensures.value c.requires.valid (counted ∙ sym (total_counter state valid table c.requires.table c.args.counter))

pub returns : goal.returns
returns c =
    let state = c.args.self.now in
    let table = c.args.table in
    let kept = read_at c.self.inside c.self.invariant state c.self.view_is table c.requires.table c.index_mut-store.result.now c.index_mut-store.ensures.value in
    let new = c.set_counter.ensures ∙ ap (λ (t : Table). with_count t c.args.counter) kept in
    seen_at c.self.inside c.self.invariant state c.self.view_is table c.requires.table 0 c.set_counter.new.self _ new
