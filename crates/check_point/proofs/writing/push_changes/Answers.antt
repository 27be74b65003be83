use Rattle.std.proofs.Common.{◌+◌, ◌<◌, ◌++◌, length, ap, sym, subst, ◌∙◌, arith}
use Rattle.std.specs.List.{flat_map}
use Rattle.std.proofs.lemmas.List.{append-nil}
use Rattle.table_rows.specs.Rows.{def_of, rows_of, entries_of}
use Rattle.change_set.specs.Fitting.{AreValuesHeld}
use Rattle.change_set.specs.Payload.{change_bytes}
use Rattle.check_point.specs.Written.{puts_of, count_of}
use Rattle.check_point.proofs.ShortRows.{rows_short, few_tables}
use Rattle.check_point.proofs.TableLoop.{rest, rest_bytes, rest_held, rest_none, bytes_on}
use Rattle.check_point.proofs.writing.push_changes.Goals as goal

pub push_rows-requires-clause-table : goal.push_rows-requires-clause-table
push_rows-requires-clause-table c = omega (arith, c.loop-table-test.true, c.requires.all, few_tables c.args.tables.now c.requires.valid)

pub push_rows-requires-clause-short : goal.push_rows-requires-clause-short
push_rows-requires-clause-short c =
    rw c.rows.ensures (rows_short c.args.tables.now c.loop-table.table c.requires.valid (omega (arith, c.loop-table-test.true, c.requires.all)))

pub loop-table-preserved : goal.loop-table-preserved
loop-table-preserved c =
    let state = c.args.tables.now in
    let table = c.loop-table.table in
    let within : table < length state.tables = omega (arith, c.loop-table-test.true, c.requires.all) in
    let puts = puts_of table (entries_of state table) in
    let counts = count_of table (def_of state table) (rows_of state table) in
    record {
      bytes = bytes_on c.loop-table.out.items _ _ (flat_map change_bytes puts) (flat_map change_bytes counts) (flat_map change_bytes (rest state (table + 1))) (flat_map change_bytes (rest state table)) _
          (c.in_ok-push_rows.ensures.bytes ∙ ap (λ entries. c.loop-table.out.items ++ flat_map change_bytes (puts_of table entries)) c.rows.ensures)
          c.in_ok-push_counter.ensures (rest_bytes state table c.requires.valid within) c.loop-table.invariant.bytes;
      held = λ later. c.loop-table.invariant.held (rest_held state table c.requires.valid within (subst (λ entries. AreValuesHeld (puts_of table entries)) c.rows.ensures c.in_ok-push_rows.ensures.held) later);
    }

pub returns-clause-bytes : goal.returns-clause-bytes
returns-clause-bytes c =
    let none = rest_none c.args.tables.now c.loop-table.table (omega (arith, c.loop-table-test.false, c.requires.all)) in
    sym (append-nil c.loop-table.out.items) ∙ ap (λ changes. c.loop-table.out.items ++ flat_map change_bytes changes) (sym none) ∙ c.loop-table.invariant.bytes

pub returns-clause-held : goal.returns-clause-held
returns-clause-held c =
    c.loop-table.invariant.held (subst AreValuesHeld (sym (rest_none c.args.tables.now c.loop-table.table (omega (arith, c.loop-table-test.false, c.requires.all)))) tt)
