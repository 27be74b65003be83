use Rattle.std.proofs.Common.{◌≡◌, Bool, true, false, List, IfSome, ap, sym, subst, ◌∙◌}
use Rattle.table_rows.specs.Entries as store
use Rattle.table_rows.specs.Entries.{Entry}
use Rattle.table_rows.specs.StoreWalks.{slot_in, behind, in_front}
use Rattle.table_rows.specs.Slots.{is_live}
use Rattle.table_rows.specs.Table.{Table, table_in, walk_by}
use Rattle.table_rows.specs.Walks.{gone_on}
use Rattle.table_rows.proofs.Kept.{live_store, lives_here}
use Rattle.table_rows.proofs.Seen.{walk_seen}
use Rattle.table_rows.proofs.one_table.OneTable.go_on.Goals as goal

pub prev-requires-clause-live : goal.prev-requires-clause-live
prev-requires-clause-live c =
    let s = c.self.inside.store in
    subst (λ (t : Table). is_live c.args.slot t.rows.entries ≡ true → store.IsTaken s.slots c.args.slot) c.self.view_is (live_store s.key s.slots c.args.slot) c.requires.live

pub next-requires-clause-live : goal.next-requires-clause-live
next-requires-clause-live c =
    let s = c.self.inside.store in
    subst (λ (t : Table). is_live c.args.slot t.rows.entries ≡ true → store.IsTaken s.slots c.args.slot) c.self.view_is (live_store s.key s.slots c.args.slot) c.requires.live

pub returns-then-down-clause-gone_on : goal.returns-then-down-clause-gone_on
returns-then-down-clause-gone_on c =
    let s = c.self.inside.store in
    let seen : c.prev.result ≡ slot_in (gone_on true c.args.slot (walk_by (table_in s c.self.inside.counted c.self.inside.counter) c.args.index)) =
    c.prev.ensures.in_front ∙ ap (λ (es : List Entry). slot_in (in_front c.args.slot es)) (walk_seen c.self.inside.counted c.self.inside.counter s c.args.index c.count.ensures.keyed) in
    subst (λ (b : Bool). c.prev.result ≡ slot_in (gone_on b c.args.slot (walk_by c.args.self.now c.args.index))) (sym c.if-down.true)
    (subst (λ (t : Table). c.prev.result ≡ slot_in (gone_on true c.args.slot (walk_by t c.args.index))) c.self.view_is seen)

pub returns-else-down-clause-gone_on : goal.returns-else-down-clause-gone_on
returns-else-down-clause-gone_on c =
    let s = c.self.inside.store in
    let seen : c.next.result ≡ slot_in (gone_on false c.args.slot (walk_by (table_in s c.self.inside.counted c.self.inside.counter) c.args.index)) =
    c.next.ensures.behind ∙ ap (λ (es : List Entry). slot_in (behind c.args.slot es)) (walk_seen c.self.inside.counted c.self.inside.counter s c.args.index c.count.ensures.keyed) in
    subst (λ (b : Bool). c.next.result ≡ slot_in (gone_on b c.args.slot (walk_by c.args.self.now c.args.index))) (sym c.if-down.false)
    (subst (λ (t : Table). c.next.result ≡ slot_in (gone_on false c.args.slot (walk_by t c.args.index))) c.self.view_is seen)

pub returns-then-down-clause-live : goal.returns-then-down-clause-live
returns-then-down-clause-live c =
    let s = c.self.inside.store in
    subst (λ (t : Table). IfSome c.prev.result (λ slot. is_live slot t.rows.entries ≡ true)) c.self.view_is (lives_here s.key s.slots c.prev.result c.prev.ensures.live)

pub returns-else-down-clause-live : goal.returns-else-down-clause-live
returns-else-down-clause-live c =
    let s = c.self.inside.store in
    subst (λ (t : Table). IfSome c.next.result (λ slot. is_live slot t.rows.entries ≡ true)) c.self.view_is (lives_here s.key s.slots c.next.result c.next.ensures.live)
