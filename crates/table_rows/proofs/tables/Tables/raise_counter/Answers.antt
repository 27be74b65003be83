use Rattle.std.proofs.Common.{◌≤◌, ap, ◌∙◌, arith}
use Rattle.table_rows.specs.Rows.{counted_at, counter_of}
use Rattle.table_rows.specs.Table.{Table}
use Rattle.table_rows.specs.Valid.{IsValidState}
use Rattle.table_rows.proofs.Allowed.{counted_valid, higher_counter}
use Rattle.table_rows.proofs.Undone.{count_leads}
use Rattle.table_rows.proofs.tables.Tables.raise_counter.Goals as goal

pub count_to-requires-clause-valid : goal.count_to-requires-clause-valid
count_to-requires-clause-valid c =
    let state = c.args.self.now in
    let table = c.args.table in
    let valid : IsValidState state = rw (← c.self.view_is) c.self.invariant.valid in
    let later : counter_of state table ≤ c.args.to = omega (arith, c.requires.above) in
    counted_valid state valid table c.requires.table c.args.to (higher_counter (counted_at state table) (counter_of state table) c.args.to c.requires.counted c.requires.above c.requires.most) later

pub returns-clause-back : goal.returns-clause-back
returns-clause-back c =
    let valid : IsValidState c.args.self.now = rw (← c.self.view_is) c.self.invariant.valid in
    count_leads c.args.self.now valid c.args.table c.requires.table c.args.to c.counter-before.result (c.counter-before.ensures ∙ ap (λ (t : Table). t.rows.counter) c.store.ensures)
    c.count_to.new.self c.count_to.ensures c.args.undo.now.entries c.push_reserved.new.self.entries c.push_reserved.ensures.entries
