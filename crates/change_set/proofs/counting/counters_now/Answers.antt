use Rattle.std.proofs.Common.{◌≡◌, ◌<◌, ◌++◌, ◌∷◌, ℕ, List, [], length, ap, ap₂, sym, ◌∙◌, arith}
use Rattle.std.proofs.lemmas.List.{take_more, take_all, length-map}
use Rattle.row_types.specs.declared.tables.Schema.{Schema}
use Rattle.table_rows.specs.Rows.{Rows}
use Rattle.change_set.specs.Touched.{counters}
use Rattle.change_set.proofs.CounterNotes.{counters_at, counters_long, schema_long}
use Rattle.change_set.proofs.counting.counters_now.Goals as goal

pub counter_of-requires : goal.counter_of-requires
counter_of-requires c =
    let state = c.args.tables.now in
    let long = ap length c.as_slice-count.ensures ∙ ap (λ (s : Schema). length s.tables) c.schema.ensures.schema ∙ schema_long state c.schema.ensures.valid in
    omega (arith, c.loop-table-test.true, long)

pub loop-table-preserved : goal.loop-table-preserved
loop-table-preserved c =
    let state = c.args.tables.now in
    let table = c.loop-table.table in
    let long = ap length c.as_slice-count.ensures ∙ ap (λ (s : Schema). length s.tables) c.schema.ensures.schema ∙ schema_long state c.schema.ensures.valid in
    c.in_ok-push.ensures.items
    ∙ ap₂ (λ (xs : List ℕ) (n : ℕ). xs ++ n ∷ []) c.loop-table.invariant (c.counter_of.ensures ∙ sym (counters_at state table))
    ∙ sym (take_more (counters state) table 0 (omega (arith, c.loop-table-test.true, long, counters_long state)))

pub returns : goal.returns
returns c =
    let state = c.args.tables.now in
    let long = ap length c.as_slice-count.ensures ∙ ap (λ (s : Schema). length s.tables) c.schema.ensures.schema ∙ schema_long state c.schema.ensures.valid in
    c.loop-table.invariant ∙ take_all c.loop-table.table (counters state) (omega (arith, c.loop-table-test.false, long, counters_long state))
