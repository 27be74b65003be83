use Rattle.std.proofs.Common.{◌≡◌, ◌+◌, ◌≤◌, ℕ, List, ◌∷◌, [], Bool, true, false, eqb, Ok, refl, sym, ap, subst, ◌∙◌, arith}
use Rattle.std.proofs.lemmas.Bool.{eqb-true}
use Rattle.table_rows.specs.declared.undo.Undo.TheVariants.{Put}
use Rattle.table_rows.specs.Rows.{State, rows_of, counter_of}
use Rattle.table_rows.specs.Slots.{IsVacant, with_row_at}
use Rattle.table_rows.specs.Widths.{with_slots}
use Rattle.table_rows.proofs.GoingBack.{goes_none}
use Rattle.change_set.specs.declared.change.Change.TheVariants as changed
use Rattle.change_set.specs.Steps.{AreFilled, CanStand}
use Rattle.change_set.proofs.Carried.{answered}
use Rattle.change_set.proofs.Back.{reserved_back, put_back}
use Rattle.change_set.proofs.FillSteps.{size_fits, came_filled, raised_above}
use Rattle.change_set.proofs.filling.put_in.Goals as goal

pub returns-in-Dup-clause-back : goal.returns-in-Dup-clause-back
returns-in-Dup-clause-back c = goes_none c.args.tables.now c.args.undo.now.entries

pub returns-then-bytes_total-row_size-gt-MOST_BYTES-clause-back : goal.returns-then-bytes_total-row_size-gt-MOST_BYTES-clause-back
returns-then-bytes_total-row_size-gt-MOST_BYTES-clause-back c = goes_none c.args.tables.now c.args.undo.now.entries

pub row_size-requires : goal.row_size-requires
row_size-requires c = let small = size_fits c.args.tables.now c.schema.ensures.valid c.args.table c.requires.table c.args.row c.requires.row in omega (arith, small)

pub overflow_add-bytes_total : goal.overflow_add-bytes_total
overflow_add-bytes_total c =
    let small = size_fits c.args.tables.now c.schema.ensures.valid c.args.table c.requires.table c.args.row c.requires.row in
    omega (arith, small, c.row_size.ensures, c.bytes_total.ensures, c.schema.ensures.valid.bytes)

pub returns-in_err-reserve-clause-back : goal.returns-in_err-reserve-clause-back
returns-in_err-reserve-clause-back c = reserved_back c.args.tables.now c.reserve.new.self c.args.undo.now.entries c.reserve.new.undo.entries c.in_err-reserve.ensures.err c.in_err-reserve.ensures.entries

pub returns-clause-back : goal.returns-clause-back
returns-clause-back c =
    put_back c.args.tables.now c.reserve.new.self c.put.new.self c.args.table c.args.undo.now.entries c.reserve.new.undo.entries c.put.new.undo.entries (Put c.args.table (record { 0 = c.put.ensures.put.0 }) (counter_of c.reserve.new.self c.args.table)) c.requires.table
    c.in_ok-reserve.ensures.ok c.in_ok-reserve.ensures.entries c.put.ensures.put.3 c.put.ensures.back

pub returns-clause-filled : goal.returns-clause-filled
returns-clause-filled c =
    let state = c.args.tables.now in
    let table = c.args.table in
    let row = c.args.row in
    let slot = c.put.ensures.put.0 in
    let vacant = subst (λ (s : State). IsVacant slot (rows_of s table)) c.in_ok-reserve.ensures.ok c.put.ensures.put.1 in
    let last : c.put.new.self ≡ with_row_at (with_slots state table 1) table slot row = c.put.ensures.put.2 ∙ ap (λ (s : State). with_row_at s table slot row) c.in_ok-reserve.ensures.ok in
    λ done.
    let still = eqb-true c.counter_of.result c.counter_of-before.result (ap answered done) in
    subst (λ (s : State). AreFilled (changed.Put table row ∷ []) state s) (sym last)
    (came_filled state table c.requires.table slot row vacant (ap (λ (s : State). counter_of s table) (sym last) ∙ sym c.counter_of.ensures ∙ still ∙ c.counter_of-before.ensures))
