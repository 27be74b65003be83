use Rattle.std.proofs.Common.{◌≡◌, ◌<◌, cond, length, ap, ◌∙◌, arith}
use Rattle.table_rows.specs.Rows.{def_of, rows_of}
use Rattle.check_point.specs.Written.{count_of}
use Rattle.check_point.proofs.TableLoop.{rest_length, rest_none}
use Rattle.check_point.proofs.writing.count_changes.Goals.{then-counts, else-counts}
use Rattle.check_point.proofs.writing.count_changes.Goals as goal

pub overflow_add-count : goal.overflow_add-count
overflow_add-count c =
    let state = c.args.tables.now in
    let table = c.loop-table.table in
    let within : table < length state.tables = omega (arith, c.loop-table-test.true, c.requires.all) in
    omega (arith, c.loop-table.invariant, rest_length state table c.requires.valid within, c.count-count.ensures, c.requires.few)

pub overflow_add-count-then-counts : goal.overflow_add-count-then-counts
overflow_add-count-then-counts c =
    let state = c.args.tables.now in
    let table = c.loop-table.table in
    let within : table < length state.tables = omega (arith, c.loop-table-test.true, c.requires.all) in
    let one : length (count_of table (def_of state table) (rows_of state table)) ≡ 1 = c.counts.ensures ∙ ap (λ b. cond b 1 0) c.if-counts.true in
    omega (arith, c.loop-table.invariant, rest_length state table c.requires.valid within, c.count-count.ensures, c.requires.few, one)

pub loop-table-preserved : goal.loop-table-preserved
loop-table-preserved c =
    let state = c.args.tables.now in
    let table = c.loop-table.table in
    let within : table < length state.tables = omega (arith, c.loop-table-test.true, c.requires.all) in
    let left = rest_length state table c.requires.valid within in
    elim c.if-counts.branch [
      | then-counts w ↦
          let one : length (count_of table (def_of state table) (rows_of state table)) ≡ 1 = c.counts.ensures ∙ ap (λ b. cond b 1 0) w.if-counts.true in
          omega (arith, c.loop-table.invariant, left, c.count-count.ensures, one, w.count-is)
      | else-counts w ↦
          let none : length (count_of table (def_of state table) (rows_of state table)) ≡ 0 = c.counts.ensures ∙ ap (λ b. cond b 1 0) w.if-counts.false in
          omega (arith, c.loop-table.invariant, left, c.count-count.ensures, none, w.count-is)
    ]

pub returns : goal.returns
returns c =
    omega (arith, c.loop-table.invariant, ap length (rest_none c.args.tables.now c.loop-table.table (omega (arith, c.loop-table-test.false, c.requires.all))))
