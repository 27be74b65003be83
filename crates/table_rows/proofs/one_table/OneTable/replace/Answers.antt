use Rattle.std.proofs.Common.{◌≡◌, set, true, None, subst}
use Rattle.table_rows.specs.Entries as store
use Rattle.table_rows.specs.Entries.{kept}
use Rattle.table_rows.specs.StoreWalks.{IsNew}
use Rattle.table_rows.specs.Slots.{is_live, row_of, without}
use Rattle.table_rows.specs.Table.{Table, table_in, with_row_in}
use Rattle.table_rows.proofs.Kept.{live_store, live_there, new_to_gone, row_there}
use Rattle.table_rows.proofs.Seen.{replaced_seen}
use Rattle.table_rows.proofs.one_table.OneTable.replace.Goals as goal

pub replace-requires-clause-live : goal.replace-requires-clause-live
replace-requires-clause-live c =
    let s = c.self.inside.store in
    subst (λ (t : Table). is_live c.args.slot t.rows.entries ≡ true → store.IsTaken s.slots c.args.slot) c.self.view_is (live_store s.key s.slots c.args.slot) c.requires.live

pub replace-requires-clause-new : goal.replace-requires-clause-new
replace-requires-clause-new c =
    let s = c.self.inside.store in
    subst (λ (t : Table). is_live c.args.slot t.rows.entries ≡ true → IsNew t.key c.args.row (without c.args.slot t.rows.entries) → IsNew s.key c.args.row (kept (set s.slots c.args.slot None))) c.self.view_is
    (λ live new. new_to_gone s.key s.slots c.count.ensures.keyed c.args.slot _ c.args.row (live_there s.key s.slots c.args.slot live) new) c.requires.live c.requires.new

pub returns-clause-handed : goal.returns-clause-handed
returns-clause-handed c =
    let s = c.self.inside.store in
    subst (λ (t : Table). c.replace.result ≡ row_of c.args.slot t.rows.entries) c.self.view_is (row_there s.key s.slots c.count.ensures.keyed c.args.slot c.replace.result c.replace.ensures.handed)

pub returns-clause-row : goal.returns-clause-row
returns-clause-row c =
    let s = c.self.inside.store in
    subst (λ (t : Table). IsNew t.key c.args.row (without c.args.slot t.rows.entries) → table_in c.replace.new.self c.self.inside.counted c.self.inside.counter ≡ with_row_in t c.args.slot c.args.row) c.self.view_is
    (λ new. replaced_seen c.self.inside.counted c.self.inside.counter s c.replace.new.self c.count.ensures.keyed c.args.slot c.replace.result c.args.row c.replace.ensures.handed new c.replace.ensures.row) c.requires.new
