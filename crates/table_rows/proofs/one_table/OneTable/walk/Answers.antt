use Rattle.std.proofs.Common.{◌≡◌, true, false, List, ap, sym, subst, ◌∙◌}
use Rattle.table_rows.specs.Entries.{Entry}
use Rattle.table_rows.specs.Contents.{walk_columns}
use Rattle.table_rows.specs.Walked.{upward, downward}
use Rattle.table_rows.specs.declared.bound.Bound.{Bound}
use Rattle.table_rows.specs.declared.bound.Bound.TheVariants.{From, Behind, To, Before}
use Rattle.table_rows.specs.Table.{Table, table_in, columns_by, walk_by}
use Rattle.table_rows.specs.Walks.{walked}
use Rattle.table_rows.proofs.Seen.{walk_seen}
use Rattle.table_rows.proofs.one_table.OneTable.walk.Goals as goal

pub returns-in-From : goal.returns-in-From
returns-in-From c =
    let s = c.self.inside.store in
    let same = ap (λ (es : List Entry). upward (walk_columns s c.args.index) c.args.key.now false es) (walk_seen c.self.inside.counted c.self.inside.counter s c.args.index c.count.ensures.keyed) in
    let seen : c.of.result ≡ walked From (columns_by (table_in s c.self.inside.counted c.self.inside.counter) c.args.index) c.args.key.now (walk_by (table_in s c.self.inside.counted c.self.inside.counter) c.args.index) = c.of.ensures ∙ (c.up.ensures ∙ same) in
    subst (λ (b : Bound). c.of.result ≡ walked b (columns_by c.args.self.now c.args.index) c.args.key.now (walk_by c.args.self.now c.args.index)) (sym c.in-From.is)
    (subst (λ (t : Table). c.of.result ≡ walked From (columns_by t c.args.index) c.args.key.now (walk_by t c.args.index)) c.self.view_is seen)

pub returns-in-Behind : goal.returns-in-Behind
returns-in-Behind c =
    let s = c.self.inside.store in
    let same = ap (λ (es : List Entry). upward (walk_columns s c.args.index) c.args.key.now true es) (walk_seen c.self.inside.counted c.self.inside.counter s c.args.index c.count.ensures.keyed) in
    let seen : c.of-in-Behind.result ≡ walked Behind (columns_by (table_in s c.self.inside.counted c.self.inside.counter) c.args.index) c.args.key.now (walk_by (table_in s c.self.inside.counted c.self.inside.counter) c.args.index) = c.of-in-Behind.ensures ∙ (c.up-in-Behind.ensures ∙ same) in
    subst (λ (b : Bound). c.of-in-Behind.result ≡ walked b (columns_by c.args.self.now c.args.index) c.args.key.now (walk_by c.args.self.now c.args.index)) (sym c.in-Behind.is)
    (subst (λ (t : Table). c.of-in-Behind.result ≡ walked Behind (columns_by t c.args.index) c.args.key.now (walk_by t c.args.index)) c.self.view_is seen)

pub returns-in-To : goal.returns-in-To
returns-in-To c =
    let s = c.self.inside.store in
    let same = ap (λ (es : List Entry). downward (walk_columns s c.args.index) c.args.key.now true es) (walk_seen c.self.inside.counted c.self.inside.counter s c.args.index c.count.ensures.keyed) in
    let seen : c.of-in-To.result ≡ walked To (columns_by (table_in s c.self.inside.counted c.self.inside.counter) c.args.index) c.args.key.now (walk_by (table_in s c.self.inside.counted c.self.inside.counter) c.args.index) = c.of-in-To.ensures ∙ (c.down.ensures ∙ same) in
    subst (λ (b : Bound). c.of-in-To.result ≡ walked b (columns_by c.args.self.now c.args.index) c.args.key.now (walk_by c.args.self.now c.args.index)) (sym c.in-To.is)
    (subst (λ (t : Table). c.of-in-To.result ≡ walked To (columns_by t c.args.index) c.args.key.now (walk_by t c.args.index)) c.self.view_is seen)

pub returns-in-Before : goal.returns-in-Before
returns-in-Before c =
    let s = c.self.inside.store in
    let same = ap (λ (es : List Entry). downward (walk_columns s c.args.index) c.args.key.now false es) (walk_seen c.self.inside.counted c.self.inside.counter s c.args.index c.count.ensures.keyed) in
    let seen : c.of-in-Before.result ≡ walked Before (columns_by (table_in s c.self.inside.counted c.self.inside.counter) c.args.index) c.args.key.now (walk_by (table_in s c.self.inside.counted c.self.inside.counter) c.args.index) = c.of-in-Before.ensures ∙ (c.down-in-Before.ensures ∙ same) in
    subst (λ (b : Bound). c.of-in-Before.result ≡ walked b (columns_by c.args.self.now c.args.index) c.args.key.now (walk_by c.args.self.now c.args.index)) (sym c.in-Before.is)
    (subst (λ (t : Table). c.of-in-Before.result ≡ walked Before (columns_by t c.args.index) c.args.key.now (walk_by t c.args.index)) c.self.view_is seen)
