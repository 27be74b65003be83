use Rattle.std.proofs.Common.{◌≡◌, Bool, true, false, List, IfSome, ap, sym, subst, ◌∙◌}
use Rattle.table_rows.specs.Entries.{Entry}
use Rattle.table_rows.specs.StoreWalks.{slot_in, first_from, last_to}
use Rattle.table_rows.specs.Contents.{walk_columns}
use Rattle.table_rows.specs.Slots.{is_live}
use Rattle.table_rows.specs.Table.{Table, table_in, columns_by, walk_by}
use Rattle.table_rows.specs.Walks.{begun}
use Rattle.table_rows.proofs.Kept.{lives_here}
use Rattle.table_rows.proofs.Seen.{walk_seen}
use Rattle.table_rows.proofs.one_table.OneTable.begin.Goals as goal

pub returns-then-down-clause-begun : goal.returns-then-down-clause-begun
returns-then-down-clause-begun c =
    let s = c.self.inside.store in
    let seen : c.last_to.result ≡ slot_in (begun true (columns_by (table_in s c.self.inside.counted c.self.inside.counter) c.args.index) c.args.edge.now (walk_by (table_in s c.self.inside.counted c.self.inside.counter) c.args.index)) =
    c.last_to.ensures.last ∙ ap (λ (es : List Entry). slot_in (last_to (walk_columns s c.args.index) c.args.edge.now es)) (walk_seen c.self.inside.counted c.self.inside.counter s c.args.index c.count.ensures.keyed) in
    subst (λ (b : Bool). c.last_to.result ≡ slot_in (begun b (columns_by c.args.self.now c.args.index) c.args.edge.now (walk_by c.args.self.now c.args.index))) (sym c.if-down.true)
    (subst (λ (t : Table). c.last_to.result ≡ slot_in (begun true (columns_by t c.args.index) c.args.edge.now (walk_by t c.args.index))) c.self.view_is seen)

pub returns-else-down-clause-begun : goal.returns-else-down-clause-begun
returns-else-down-clause-begun c =
    let s = c.self.inside.store in
    let seen : c.first_from.result ≡ slot_in (begun false (columns_by (table_in s c.self.inside.counted c.self.inside.counter) c.args.index) c.args.edge.now (walk_by (table_in s c.self.inside.counted c.self.inside.counter) c.args.index)) =
    c.first_from.ensures.first ∙ ap (λ (es : List Entry). slot_in (first_from (walk_columns s c.args.index) c.args.edge.now es)) (walk_seen c.self.inside.counted c.self.inside.counter s c.args.index c.count.ensures.keyed) in
    subst (λ (b : Bool). c.first_from.result ≡ slot_in (begun b (columns_by c.args.self.now c.args.index) c.args.edge.now (walk_by c.args.self.now c.args.index))) (sym c.if-down.false)
    (subst (λ (t : Table). c.first_from.result ≡ slot_in (begun false (columns_by t c.args.index) c.args.edge.now (walk_by t c.args.index))) c.self.view_is seen)

pub returns-then-down-clause-live : goal.returns-then-down-clause-live
returns-then-down-clause-live c =
    let s = c.self.inside.store in
    subst (λ (t : Table). IfSome c.last_to.result (λ slot. is_live slot t.rows.entries ≡ true)) c.self.view_is (lives_here s.key s.slots c.last_to.result c.last_to.ensures.live)

pub returns-else-down-clause-live : goal.returns-else-down-clause-live
returns-else-down-clause-live c =
    let s = c.self.inside.store in
    subst (λ (t : Table). IfSome c.first_from.result (λ slot. is_live slot t.rows.entries ≡ true)) c.self.view_is (lives_here s.key s.slots c.first_from.result c.first_from.ensures.live)
