use Rattle.std.proofs.Common.{◌≡◌, subst}
use Rattle.table_rows.specs.Entries as store
use Rattle.table_rows.specs.Entries.{kept}
use Rattle.table_rows.specs.StoreWalks.{IsNew}
use Rattle.table_rows.specs.Slots.{IsVacant}
use Rattle.table_rows.specs.Table.{Table, table_in, with_row_in}
use Rattle.table_rows.proofs.Kept.{vacant_here, new_to_kept}
use Rattle.table_rows.proofs.Seen.{put_seen}
use Rattle.table_rows.proofs.one_table.OneTable.put_at.Goals as goal

pub put_at-requires-clause-vacant : goal.put_at-requires-clause-vacant
put_at-requires-clause-vacant c =
    let s = c.self.inside.store in
    subst (λ (t : Table). IsVacant c.args.slot t.rows → store.IsFree s.slots c.args.slot) c.self.view_is (vacant_here s.key s.slots c.self.inside.counter c.args.slot) c.requires.vacant

pub put_at-requires-clause-new : goal.put_at-requires-clause-new
put_at-requires-clause-new c =
    let s = c.self.inside.store in
    subst (λ (t : Table). IsNew t.key c.args.row t.rows.entries → IsNew s.key c.args.row (kept s.slots)) c.self.view_is (new_to_kept s.key s.slots c.args.row) c.requires.new

pub returns : goal.returns
returns c =
    let s = c.self.inside.store in
    subst (λ (t : Table). IsVacant c.args.slot t.rows → IsNew t.key c.args.row t.rows.entries → table_in c.put_at.new.self c.self.inside.counted c.self.inside.counter ≡ with_row_in t c.args.slot c.args.row) c.self.view_is
    (λ vacant new. put_seen c.self.inside.counted c.self.inside.counter s c.put_at.new.self c.count.ensures.keyed c.args.slot c.args.row (vacant_here s.key s.slots c.self.inside.counter c.args.slot vacant) new c.put_at.ensures) c.requires.vacant c.requires.new
