use Rattle.std.proofs.Common.{◌≡◌, true, arith}
use Rattle.table_rows.specs.Slots.{is_live_in}
use Rattle.table_rows.specs.Valid.{IsValidState}
use Rattle.table_rows.proofs.Counted.{row_size_le_total}
use Rattle.table_rows.proofs.tables.Tables.size_instead.Goals as goal

pub row_size-requires : goal.row_size-requires
row_size-requires c =
    let valid : IsValidState c.args.self.now = rw (← c.self.view_is) c.self.invariant.valid in
    let live : is_live_in c.args.self.now c.args.table c.in-Some.slot.0 ≡ true = rw c.in-Some.is at c.requires.instead in
    let most = row_size_le_total c.args.self.now valid c.args.table c.requires.table c.in-Some.slot.0 live in
    let bytes = valid.bytes in
    rw c.row.ensures (omega (arith, most, bytes))

pub returns-in-Some-clause-most : goal.returns-in-Some-clause-most
returns-in-Some-clause-most c =
    let valid : IsValidState c.args.self.now = rw (← c.self.view_is) c.self.invariant.valid in
    let live : is_live_in c.args.self.now c.args.table c.in-Some.slot.0 ≡ true = rw c.in-Some.is at c.requires.instead in
    let most = row_size_le_total c.args.self.now valid c.args.table c.requires.table c.in-Some.slot.0 live in
    rw (c.row_size.ensures, c.row.ensures) most
