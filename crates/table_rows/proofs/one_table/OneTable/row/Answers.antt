use Rattle.std.proofs.Common.{◌≡◌, true, subst}
use Rattle.table_rows.specs.Entries as store
use Rattle.table_rows.specs.Entries.{Entry, kept, vacancies, row_under, walk}
use Rattle.table_rows.specs.Slots.{is_live, row_of}
use Rattle.table_rows.specs.Table.{Table}
use Rattle.table_rows.proofs.Kept.{live_store, row_there}
use Rattle.table_rows.proofs.one_table.OneTable.row.Goals as goal

pub row-requires : goal.row-requires
row-requires c =
    let s = c.self.inside.store in
    subst (λ (t : Table). is_live c.args.slot t.rows.entries ≡ true → store.IsTaken s.slots c.args.slot) c.self.view_is (live_store s.key s.slots c.args.slot) c.requires

pub returns : goal.returns
returns c =
    let s = c.self.inside.store in
    subst (λ (t : Table). c.row.result.now ≡ row_of c.args.slot t.rows.entries) c.self.view_is (row_there s.key s.slots c.row.ensures.keyed c.args.slot c.row.result.now c.row.ensures.row)
