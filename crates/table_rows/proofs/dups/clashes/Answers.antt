use Rattle.std.proofs.Common.{◌≡◌, None, Some, true, sym, ◌∙◌}
use Rattle.table_rows.specs.StoreWalks.{first_like, slot_in}
use Rattle.table_rows.specs.Entries.{cells}
use Rattle.table_rows.specs.Checks.{is_barred}
use Rattle.table_rows.specs.Table.{columns_by, walk_by}
use Rattle.table_rows.proofs.Clashes.{clash_unbarred, clash_no_slot, clash_first}
use Rattle.table_rows.proofs.dups.clashes.Goals as goal

pub returns-then-not-is_barred : goal.returns-then-not-is_barred
returns-then-not-is_barred c = sym (clash_unbarred c.args.index.now c.args.row.now _ (sym c.is_barred.ensures ∙ c.if-not-is_barred.true))

pub returns-in-None : goal.returns-in-None
returns-in-None c =
    let none : slot_in (first_like c.args.index.now.parts c.args.row.now (walk_by c.args.table.now c.args.number)) ≡ None = rw (← c.requires.parts) (sym c.in-None.ensures) in
    sym (clash_no_slot c.args.index.now c.args.row.now c.args.table.now.rows.entries (columns_by c.args.table.now c.args.number) c.args.instead none)

pub returns-in-Some : goal.returns-in-Some
returns-in-Some c =
    let barred : is_barred c.args.index.now.kind (cells c.args.index.now.parts c.args.row.now) ≡ true = sym c.is_barred.ensures ∙ c.if-not-is_barred.false in
    let some : slot_in (first_like c.args.index.now.parts c.args.row.now (walk_by c.args.table.now c.args.number)) ≡ Some c.in-Some.slot = rw (← c.requires.parts) (sym c.in-Some.ensures) in
    rw c.is_named.ensures (sym (clash_first c.args.index.now c.args.row.now c.args.table.now.rows.entries (columns_by c.args.table.now c.args.number) c.args.instead c.in-Some.slot barred c.requires.unique some))
