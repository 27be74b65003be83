use Rattle.std.proofs.Common.{◌++◌, ap, sym, ◌∙◌}
use Rattle.std.specs.List.{flat_map}
use Rattle.std.proofs.lemmas.List.{append-nil}
use Rattle.table_rows.specs.Rows.{counted_at, counter_of}
use Rattle.table_rows.proofs.States.{rows_valid}
use Rattle.change_set.specs.Payload.{change_bytes}
use Rattle.check_point.proofs.TableLoop.{nothing_counted}
use Rattle.check_point.proofs.writing.push_counter.Goals as goal

pub returns-in-None : goal.returns-in-None
returns-in-None c =
    let state = c.args.tables.now in
    let table = c.args.table in
    let none = nothing_counted table (counted_at state table) (counter_of state table) (sym c.counter.ensures ∙ c.in-None.is) (rows_valid state c.requires.valid table c.requires.table).counter in
    sym (append-nil c.args.out.now.items) ∙ ap (λ changes. c.args.out.now.items ++ flat_map change_bytes changes) (sym none)
