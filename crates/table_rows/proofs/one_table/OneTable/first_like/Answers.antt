use Rattle.std.proofs.Common.{◌≡◌, List, ap, subst, ◌∙◌}
use Rattle.table_rows.specs.Entries.{Entry}
use Rattle.table_rows.specs.StoreWalks.{slot_in, first_like}
use Rattle.table_rows.specs.Contents.{order_of}
use Rattle.table_rows.specs.Table.{Table, table_in, parts_by, walk_by}
use Rattle.table_rows.proofs.Seen.{walk_seen}
use Rattle.table_rows.proofs.one_table.OneTable.first_like.Goals as goal

pub returns : goal.returns
returns c =
    let s = c.self.inside.store in
    let seen : c.first_like.result ≡ slot_in (first_like (parts_by (table_in s c.self.inside.counted c.self.inside.counter) c.args.index) c.args.row.now (walk_by (table_in s c.self.inside.counted c.self.inside.counter) c.args.index)) =
    c.first_like.ensures.first ∙ ap (λ (es : List Entry). slot_in (first_like (order_of s c.args.index) c.args.row.now es)) (walk_seen c.self.inside.counted c.self.inside.counter s c.args.index c.count.ensures.keyed) in
    subst (λ (t : Table). c.first_like.result ≡ slot_in (first_like (parts_by t c.args.index) c.args.row.now (walk_by t c.args.index))) c.self.view_is seen
