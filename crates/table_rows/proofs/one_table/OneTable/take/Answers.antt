use Rattle.std.proofs.Common.{◌≡◌, true, subst}
use Rattle.table_rows.specs.Entries as store
use Rattle.table_rows.specs.Slots.{is_live, row_of}
use Rattle.table_rows.specs.Table.{Table, table_in, without_in}
use Rattle.table_rows.proofs.Kept.{live_store, row_there}
use Rattle.table_rows.proofs.Seen.{taken_seen}
use Rattle.table_rows.proofs.one_table.OneTable.take.Goals as goal

pub take-requires : goal.take-requires
take-requires c =
    let s = c.self.inside.store in
    subst (λ (t : Table). is_live c.args.slot t.rows.entries ≡ true → store.IsTaken s.slots c.args.slot) c.self.view_is (live_store s.key s.slots c.args.slot) c.requires

pub returns-clause-handed : goal.returns-clause-handed
returns-clause-handed c =
    let s = c.self.inside.store in
    subst (λ (t : Table). c.take.result ≡ row_of c.args.slot t.rows.entries) c.self.view_is (row_there s.key s.slots c.count.ensures.keyed c.args.slot c.take.result c.take.ensures.handed)

pub returns-clause-gone : goal.returns-clause-gone
returns-clause-gone c =
    let s = c.self.inside.store in
    subst (λ (t : Table). table_in c.take.new.self c.self.inside.counted c.self.inside.counter ≡ without_in t c.args.slot) c.self.view_is
    (taken_seen c.self.inside.counted c.self.inside.counter s c.take.new.self c.count.ensures.keyed c.args.slot c.take.result c.take.ensures.handed c.take.ensures.vacant)
