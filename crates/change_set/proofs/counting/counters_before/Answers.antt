use Rattle.std.proofs.Common.{◌≡◌, ◌-◌, ◌≤◌, ℕ, suc, List, length, set, ap, ap₂, sym, subst, ◌∙◌, arith}
use Rattle.table_rows.specs.declared.undo.Undo.{Undo}
use Rattle.table_rows.specs.Undoing.{since, undone_all}
use Rattle.change_set.specs.Touched.{counters}
use Rattle.change_set.proofs.CounterNotes.{counters_next, counters_long, noted_table, with_noted}
use Rattle.change_set.proofs.OldRows.{undone_tables}
use Rattle.change_set.proofs.counting.counters_before.Goals as goal

pub index_mut-requires : goal.index_mut-requires
index_mut-requires c =
    let state = c.args.tables.now in
    let entries = c.args.undo.now.entries in
    let at = c.loop-at.at - 1 in
    let within = noted_table state entries c.requires at c.entry.result.now c.entry.ensures (c.in-Some.table, c.in-Some.counter) (sym c.counter_before.ensures ∙ c.in-Some.is) in
    omega (arith, within, ap length c.loop-at.invariant.1, counters_long (undone_all (since c.loop-at.at entries) state), undone_tables (since c.loop-at.at entries) state)

pub loop-at-preserved-in-Some : goal.loop-at-preserved-in-Some
loop-at-preserved-in-Some c =
    let state = c.args.tables.now in
    let entries = c.args.undo.now.entries in
    let at = c.loop-at.at - 1 in
    let next : suc at ≡ c.loop-at.at = omega (arith, c.loop-at-test.true) in
    let step = counters_next entries at c.entry.result.now state c.entry.ensures in
    let noted = ap (λ o. with_noted o (counters (undone_all (since (suc at) entries) state))) (sym c.counter_before.ensures ∙ c.in-Some.is) in
    let so_far = c.loop-at.invariant.1 ∙ ap (λ (n : ℕ). counters (undone_all (since n entries) state)) (sym next) in
    (omega (arith, c.loop-at.invariant.0), ap (λ (xs : List ℕ). set xs c.in-Some.table c.in-Some.counter) so_far ∙ sym (step ∙ noted))

pub loop-at-preserved : goal.loop-at-preserved
loop-at-preserved c =
    let state = c.args.tables.now in
    let entries = c.args.undo.now.entries in
    let at = c.loop-at.at - 1 in
    let next : suc at ≡ c.loop-at.at = omega (arith, c.loop-at-test.true) in
    let step = counters_next entries at c.entry.result.now state c.entry.ensures in
    let noted = ap (λ o. with_noted o (counters (undone_all (since (suc at) entries) state))) (sym c.counter_before.ensures ∙ c.in_default.is) in
    let so_far = c.loop-at.invariant.1 ∙ ap (λ (n : ℕ). counters (undone_all (since n entries) state)) (sym next) in
    (omega (arith, c.loop-at.invariant.0), so_far ∙ sym (step ∙ noted))
