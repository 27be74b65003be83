use Rattle.std.proofs.Common.{◌≡◌, ◌<◌, length, subst}
use Rattle.table_rows.specs.Entries.{kept, vacancies}
use Rattle.table_rows.specs.StoreWalks.{IsNew}
use Rattle.table_rows.specs.Slots.{IsVacant}
use Rattle.table_rows.specs.Table.{Table, table_in, with_row_in}
use Rattle.table_rows.proofs.Kept.{room_left, new_to_kept, vacant_there}
use Rattle.table_rows.proofs.Seen.{put_seen}
use Rattle.table_rows.proofs.one_table.OneTable.put.Goals as goal

pub put-requires-clause-room : goal.put-requires-clause-room
put-requires-clause-room c =
    let s = c.self.inside.store in
    subst (λ (t : Table). length t.rows.entries < t.rows.room → 0 < vacancies s.slots) c.self.view_is (room_left s.key s.slots) c.requires.room

pub put-requires-clause-new : goal.put-requires-clause-new
put-requires-clause-new c =
    let s = c.self.inside.store in
    subst (λ (t : Table). IsNew t.key c.args.row t.rows.entries → IsNew s.key c.args.row (kept s.slots)) c.self.view_is (new_to_kept s.key s.slots c.args.row) c.requires.new

pub returns-clause-vacant : goal.returns-clause-vacant
returns-clause-vacant c =
    let s = c.self.inside.store in
    subst (λ (t : Table). IsVacant c.put.result t.rows) c.self.view_is (vacant_there s.key s.slots c.self.inside.counter c.put.result c.put.ensures.vacant)

pub returns-clause-row : goal.returns-clause-row
returns-clause-row c =
    let s = c.self.inside.store in
    subst (λ (t : Table). IsNew t.key c.args.row t.rows.entries → table_in c.put.new.self c.self.inside.counted c.self.inside.counter ≡ with_row_in t c.put.result c.args.row) c.self.view_is
    (λ new. put_seen c.self.inside.counted c.self.inside.counter s c.put.new.self c.count.ensures.keyed c.put.result c.args.row c.put.ensures.vacant new c.put.ensures.row) c.requires.new
