use Rattle.std.proofs.Common.{◌≡◌, ◌+◌, ◌<◌, ◌++◌, ℕ, suc, List, length, get_or, append_assoc, sym, ap, ap₂, ◌∙◌, arith}
use Rattle.std.proofs.lemmas.List.{get_or_default}
use Rattle.table_rows.specs.Rows.{counter_of}
use Rattle.table_rows.specs.Undoing.{since, undone_all}
use Rattle.change_set.specs.declared.change.Change.{Change}
use Rattle.change_set.specs.Net.{counter_changes}
use Rattle.change_set.specs.Touched.{counters, counts_of}
use Rattle.change_set.proofs.CounterNotes.{counters_at, counters_long, schema_long}
use Rattle.change_set.proofs.OldRows.{undone_tables}
use Rattle.change_set.proofs.counting.push_counts.Goals as goal

pub overflow_cast-table : goal.overflow_cast-table
overflow_cast-table c =
    let now = c.args.tables.now in
    let notes = since 0 c.args.undo.now.entries in
    omega (arith, c.loop-table-test.true, c.len-table-end.ensures, ap length c.in_ok-befores.ensures, counters_long (undone_all notes now), undone_tables notes now, schema_long now c.schema.ensures.valid, c.schema.ensures.valid.schema.most)

pub overflow_cast-table-in-loop-table : goal.overflow_cast-table-in-loop-table
overflow_cast-table-in-loop-table c =
    let now = c.args.tables.now in
    let notes = since 0 c.args.undo.now.entries in
    omega (arith, c.loop-table-test.true, c.len-table-end.ensures, ap length c.in_ok-befores.ensures, counters_long (undone_all notes now), undone_tables notes now, schema_long now c.schema.ensures.valid, c.schema.ensures.valid.schema.most)

pub counter_of-now-requires : goal.counter_of-now-requires
counter_of-now-requires c =
    let now = c.args.tables.now in
    let notes = since 0 c.args.undo.now.entries in
    omega (arith, c.loop-table-test.true, c.len-table-end.ensures, ap length c.in_ok-befores.ensures, counters_long (undone_all notes now), undone_tables notes now)

pub loop-table-preserved : goal.loop-table-preserved
loop-table-preserved c =
    let now = c.args.tables.now in
    let notes = since 0 c.args.undo.now.entries in
    let before = undone_all notes now in
    let table = c.loop-table.table in
    let front = c.args.changes.now.items in
    let within : table < length (counters before) = omega (arith, c.loop-table-test.true, c.len-table-end.ensures, ap length c.in_ok-befores.ensures) in
    let was = c.index.ensures ∙ ap (λ (xs : List ℕ). get_or xs table c.index.result.now) c.in_ok-befores.ensures ∙ get_or_default (counters before) table c.index.result.now 0 within ∙ counters_at before table in
    let further : suc table ≡ table + 1 = omega arith in
    c.in_ok-push_count.ensures
    ∙ ap₂ (λ (b n : ℕ). c.loop-table.changes.items ++ counter_changes table b n) was c.counter_of-now.ensures
    ∙ ap (λ (cs : List Change). cs ++ counter_changes table (counter_of before table) (counter_of now table)) c.loop-table.invariant
    ∙ append_assoc front (counts_of before now table) (counter_changes table (counter_of before table) (counter_of now table))
    ∙ ap (λ (n : ℕ). front ++ counts_of before now n) further

pub returns : goal.returns
returns c =
    let now = c.args.tables.now in
    let notes = since 0 c.args.undo.now.entries in
    let before = undone_all notes now in
    let all : c.loop-table.table ≡ length now.tables = omega (arith, c.loop-table-test.false, c.loop-table.auto.table-end, c.len-table-end.ensures, ap length c.in_ok-befores.ensures, counters_long before, undone_tables notes now) in
    c.loop-table.invariant ∙ ap (λ (n : ℕ). c.args.changes.now.items ++ counts_of before now n) all
