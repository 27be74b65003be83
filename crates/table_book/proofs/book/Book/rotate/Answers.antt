use Rattle.std.proofs.Common.{◌≡◌, ◌<◌, ◌^◌, ℕ, List, ap, ◌∙◌, arith}
use Rattle.std.specs.Prelude.{is_some}
use Rattle.table_rows.specs.Database.{database_of}
use Rattle.check_point.specs.Area.{area_of, segment_of}
use Rattle.hs_schema.specs.Spelling.{spelled}
use Rattle.redo_journal.specs.Journal.{records}
use Rattle.redo_journal.specs.Segment.{IsSegment}
use Rattle.table_recovery.proofs.PayloadLaws.{pushed_segment, segment_is}
use Rattle.table_book.specs.Books.{Keeping, place}
use Rattle.table_book.proofs.Rotating.{failed_back, journal_on, kept_either, kept_here, rotate_again, rotate_moments, rotated_back, rotated_place, rotated_shows, some_root, still_rooted, untouched_again, untouched_moments}
use Rattle.table_book.proofs.book.Book.rotate.Goals as goal

pub rotate-requires-clause-segment : goal.rotate-requires-clause-segment
rotate-requires-clause-segment g c =
    let area : List ℕ = area_of (database_of c.self.inside.tables) in
    let number : ℕ = records c.self.inside.journal in
    let written : c.deref.result.now ≡ segment_of number area = pushed_segment number c.records.result area c.new-segment.result.items c.push_area.new.out.items c.deref.result.now c.deref.ensures.value c.in-Ok.ensures.bytes c.new-segment.ensures.items c.records.ensures in
    let small : number < 2 ^ 64 = omega (arith, c.records.ensures) in
    record { number = number; area = area; is = segment_is number area c.deref.result.now written small c.in-Ok.ensures.short }

pub rotate-requires-clause-stands : goal.rotate-requires-clause-stands
rotate-requires-clause-stands g c tells =
    let disk = g.D.Disk in
    let here : Keeping g.row.D.Denot = record { tables = c.self.inside.tables; journal = c.self.inside.journal; disk = c.self.inside.disk; log_max = c.self.inside.log_max } in
    journal_on disk.seen disk.may_leave here (kept_here disk.seen disk.may_leave here c.args.self.now c.self.view_is (c.requires.kept tells))

pub returns-in_default-clause-any_moment : goal.returns-in_default-clause-any_moment
returns-in_default-clause-any_moment g c tells =
    let disk = g.D.Disk in
    untouched_moments disk.seen disk.may_leave disk.moment disk.left_at c.args.self.now (λ image left. g.met.D.Disk.only_now c.args.self.now.disk image tells left)

pub returns-in_default-clause-again : goal.returns-in_default-clause-again
returns-in_default-clause-again g c tells =
    let disk = g.D.Disk in
    untouched_again disk.seen disk.may_leave disk.moment disk.left_at c.args.self.now

pub returns-in-Ok-rotate-clause-any_moment : goal.returns-in-Ok-rotate-clause-any_moment
returns-in-Ok-rotate-clause-any_moment g c tells =
    let disk = g.D.Disk in
    let here : Keeping g.row.D.Denot = record { tables = c.self.inside.tables; journal = c.self.inside.journal; disk = c.self.inside.disk; log_max = c.self.inside.log_max } in
    let area : List ℕ = area_of (database_of c.self.inside.tables) in
    let number : ℕ = records c.self.inside.journal in
    let written : c.deref.result.now ≡ segment_of number area = pushed_segment number c.records.result area c.new-segment.result.items c.push_area.new.out.items c.deref.result.now c.deref.ensures.value c.in-Ok.ensures.bytes c.new-segment.ensures.items c.records.ensures in
    let small : number < 2 ^ 64 = omega (arith, c.records.ensures) in
    let is : IsSegment number area c.deref.result.now = segment_is number area c.deref.result.now written small c.in-Ok.ensures.short in
    let makes = c.in-Ok.ensures.makes in
    (rotate_moments disk.seen disk.may_leave disk.moment disk.left_at here c.rotate.new.self c.rotate.new.disk makes c.rotate.result c.args.self.now c.self.view_is (λ contents doubtful stands. c.rotate.ensures.commits tells (spelled here.tables.schema) contents doubtful number area stands is))

pub returns-in-Ok-rotate-clause-again : goal.returns-in-Ok-rotate-clause-again
returns-in-Ok-rotate-clause-again g c tells =
    let disk = g.D.Disk in
    let here : Keeping g.row.D.Denot = record { tables = c.self.inside.tables; journal = c.self.inside.journal; disk = c.self.inside.disk; log_max = c.self.inside.log_max } in
    let area : List ℕ = area_of (database_of c.self.inside.tables) in
    let number : ℕ = records c.self.inside.journal in
    let written : c.deref.result.now ≡ segment_of number area = pushed_segment number c.records.result area c.new-segment.result.items c.push_area.new.out.items c.deref.result.now c.deref.ensures.value c.in-Ok.ensures.bytes c.new-segment.ensures.items c.records.ensures in
    let small : number < 2 ^ 64 = omega (arith, c.records.ensures) in
    let is : IsSegment number area c.deref.result.now = segment_is number area c.deref.result.now written small c.in-Ok.ensures.short in
    let makes = c.in-Ok.ensures.makes in
    rotate_again disk.seen disk.may_leave disk.moment disk.left_at here c.rotate.new.self c.rotate.new.disk makes c.args.self.now
    (rotate_moments disk.seen disk.may_leave disk.moment disk.left_at here c.rotate.new.self c.rotate.new.disk makes c.rotate.result c.args.self.now c.self.view_is (λ contents doubtful stands. c.rotate.ensures.commits tells (spelled here.tables.schema) contents doubtful number area stands is))
    (λ image left. g.met.D.Disk.counts_now c.rotate.new.disk image tells left)

pub returns-clause-any_moment : goal.returns-clause-any_moment
returns-clause-any_moment g c tells =
    let disk = g.D.Disk in
    let here : Keeping g.row.D.Denot = record { tables = c.self.inside.tables; journal = c.self.inside.journal; disk = c.self.inside.disk; log_max = c.self.inside.log_max } in
    let area : List ℕ = area_of (database_of c.self.inside.tables) in
    let number : ℕ = records c.self.inside.journal in
    let written : c.deref.result.now ≡ segment_of number area = pushed_segment number c.records.result area c.new-segment.result.items c.push_area.new.out.items c.deref.result.now c.deref.ensures.value c.in-Ok.ensures.bytes c.new-segment.ensures.items c.records.ensures in
    let small : number < 2 ^ 64 = omega (arith, c.records.ensures) in
    let is : IsSegment number area c.deref.result.now = segment_is number area c.deref.result.now written small c.in-Ok.ensures.short in
    let makes = c.in-Ok.ensures.makes in
    (rotate_moments disk.seen disk.may_leave disk.moment disk.left_at here c.rotate.new.self c.rotate.new.disk makes c.rotate.result c.args.self.now c.self.view_is (λ contents doubtful stands. c.rotate.ensures.commits tells (spelled here.tables.schema) contents doubtful number area stands is))

pub returns-clause-again : goal.returns-clause-again
returns-clause-again g c tells =
    let disk = g.D.Disk in
    let here : Keeping g.row.D.Denot = record { tables = c.self.inside.tables; journal = c.self.inside.journal; disk = c.self.inside.disk; log_max = c.self.inside.log_max } in
    let area : List ℕ = area_of (database_of c.self.inside.tables) in
    let number : ℕ = records c.self.inside.journal in
    let written : c.deref.result.now ≡ segment_of number area = pushed_segment number c.records.result area c.new-segment.result.items c.push_area.new.out.items c.deref.result.now c.deref.ensures.value c.in-Ok.ensures.bytes c.new-segment.ensures.items c.records.ensures in
    let small : number < 2 ^ 64 = omega (arith, c.records.ensures) in
    let is : IsSegment number area c.deref.result.now = segment_is number area c.deref.result.now written small c.in-Ok.ensures.short in
    let makes = c.in-Ok.ensures.makes in
    rotate_again disk.seen disk.may_leave disk.moment disk.left_at here c.rotate.new.self c.rotate.new.disk makes c.args.self.now
    (rotate_moments disk.seen disk.may_leave disk.moment disk.left_at here c.rotate.new.self c.rotate.new.disk makes c.rotate.result c.args.self.now c.self.view_is (λ contents doubtful stands. c.rotate.ensures.commits tells (spelled here.tables.schema) contents doubtful number area stands is))
    (λ image left. g.met.D.Disk.counts_now c.rotate.new.disk image tells left)

pub returns-in-Ok-rotate-clause-place : goal.returns-in-Ok-rotate-clause-place
returns-in-Ok-rotate-clause-place g c =
    let disk = g.D.Disk in
    let here : Keeping g.row.D.Denot = record { tables = c.self.inside.tables; journal = c.self.inside.journal; disk = c.self.inside.disk; log_max = c.self.inside.log_max } in
    let area : List ℕ = area_of (database_of c.self.inside.tables) in
    let number : ℕ = records c.self.inside.journal in
    let written : c.deref.result.now ≡ segment_of number area = pushed_segment number c.records.result area c.new-segment.result.items c.push_area.new.out.items c.deref.result.now c.deref.ensures.value c.in-Ok.ensures.bytes c.new-segment.ensures.items c.records.ensures in
    let small : number < 2 ^ 64 = omega (arith, c.records.ensures) in
    let is : IsSegment number area c.deref.result.now = segment_is number area c.deref.result.now written small c.in-Ok.ensures.short in
    let makes = c.in-Ok.ensures.makes in
    let root = some_root c.self.inside.journal.root c.self.invariant.1 in
    let turned = c.in-Ok-rotate.ensures.turned root.0 root.1 in
    let counted : records c.rotate.new.self ≡ number = rotated_place disk.seen disk.may_leave disk.moment disk.left_at here c.rotate.new.self c.rotate.new.disk makes _ c.deref.result.now turned written small in
    counted ∙ ap place c.self.view_is

pub returns-in-Ok-rotate-clause-shows : goal.returns-in-Ok-rotate-clause-shows
returns-in-Ok-rotate-clause-shows g c tells =
    let disk = g.D.Disk in
    let here : Keeping g.row.D.Denot = record { tables = c.self.inside.tables; journal = c.self.inside.journal; disk = c.self.inside.disk; log_max = c.self.inside.log_max } in
    let area : List ℕ = area_of (database_of c.self.inside.tables) in
    let number : ℕ = records c.self.inside.journal in
    let written : c.deref.result.now ≡ segment_of number area = pushed_segment number c.records.result area c.new-segment.result.items c.push_area.new.out.items c.deref.result.now c.deref.ensures.value c.in-Ok.ensures.bytes c.new-segment.ensures.items c.records.ensures in
    let small : number < 2 ^ 64 = omega (arith, c.records.ensures) in
    let is : IsSegment number area c.deref.result.now = segment_is number area c.deref.result.now written small c.in-Ok.ensures.short in
    let makes = c.in-Ok.ensures.makes in
    let root = some_root c.self.inside.journal.root c.self.invariant.1 in
    let turned = c.in-Ok-rotate.ensures.turned root.0 root.1 in
    let counted : records c.rotate.new.self ≡ number = rotated_place disk.seen disk.may_leave disk.moment disk.left_at here c.rotate.new.self c.rotate.new.disk makes _ c.deref.result.now turned written small in
    let on = kept_here disk.seen disk.may_leave here c.args.self.now c.self.view_is (c.requires.kept tells) in
    rotated_shows disk.seen disk.may_leave disk.moment disk.left_at here c.rotate.new.self c.rotate.new.disk makes counted (c.in-Ok-rotate.ensures.commits tells (spelled here.tables.schema) on.beside.contents on.beside.doubtful number area on.beside.stands is).shows_new

pub returns-in-Ok-rotate-clause-kept : goal.returns-in-Ok-rotate-clause-kept
returns-in-Ok-rotate-clause-kept g c tells =
    let disk = g.D.Disk in
    let here : Keeping g.row.D.Denot = record { tables = c.self.inside.tables; journal = c.self.inside.journal; disk = c.self.inside.disk; log_max = c.self.inside.log_max } in
    let area : List ℕ = area_of (database_of c.self.inside.tables) in
    let number : ℕ = records c.self.inside.journal in
    let written : c.deref.result.now ≡ segment_of number area = pushed_segment number c.records.result area c.new-segment.result.items c.push_area.new.out.items c.deref.result.now c.deref.ensures.value c.in-Ok.ensures.bytes c.new-segment.ensures.items c.records.ensures in
    let small : number < 2 ^ 64 = omega (arith, c.records.ensures) in
    let is : IsSegment number area c.deref.result.now = segment_is number area c.deref.result.now written small c.in-Ok.ensures.short in
    let makes = c.in-Ok.ensures.makes in
    let root = some_root c.self.inside.journal.root c.self.invariant.1 in
    let turned = c.in-Ok-rotate.ensures.turned root.0 root.1 in
    let counted : records c.rotate.new.self ≡ number = rotated_place disk.seen disk.may_leave disk.moment disk.left_at here c.rotate.new.self c.rotate.new.disk makes _ c.deref.result.now turned written small in
    let on = kept_here disk.seen disk.may_leave here c.args.self.now c.self.view_is (c.requires.kept tells) in
    kept_either disk.seen disk.may_leave disk.moment disk.left_at _ c.args.self.now (c.requires.kept tells)
    (rotated_back disk.seen disk.may_leave disk.moment disk.left_at here c.rotate.new.self c.rotate.new.disk makes c.args.self.now c.self.view_is counted turned.quiet (c.in-Ok-rotate.ensures.commits tells (spelled here.tables.schema) on.beside.contents on.beside.doubtful number area on.beside.stands is).acknowledged)

pub returns-in-Ok-rotate-clause-kept_back : goal.returns-in-Ok-rotate-clause-kept_back
returns-in-Ok-rotate-clause-kept_back g c tells =
    let disk = g.D.Disk in
    let here : Keeping g.row.D.Denot = record { tables = c.self.inside.tables; journal = c.self.inside.journal; disk = c.self.inside.disk; log_max = c.self.inside.log_max } in
    let area : List ℕ = area_of (database_of c.self.inside.tables) in
    let number : ℕ = records c.self.inside.journal in
    let written : c.deref.result.now ≡ segment_of number area = pushed_segment number c.records.result area c.new-segment.result.items c.push_area.new.out.items c.deref.result.now c.deref.ensures.value c.in-Ok.ensures.bytes c.new-segment.ensures.items c.records.ensures in
    let small : number < 2 ^ 64 = omega (arith, c.records.ensures) in
    let is : IsSegment number area c.deref.result.now = segment_is number area c.deref.result.now written small c.in-Ok.ensures.short in
    let makes = c.in-Ok.ensures.makes in
    let root = some_root c.self.inside.journal.root c.self.invariant.1 in
    let turned = c.in-Ok-rotate.ensures.turned root.0 root.1 in
    let counted : records c.rotate.new.self ≡ number = rotated_place disk.seen disk.may_leave disk.moment disk.left_at here c.rotate.new.self c.rotate.new.disk makes _ c.deref.result.now turned written small in
    let on = kept_here disk.seen disk.may_leave here c.args.self.now c.self.view_is (c.requires.kept tells) in
    (rotated_back disk.seen disk.may_leave disk.moment disk.left_at here c.rotate.new.self c.rotate.new.disk makes c.args.self.now c.self.view_is counted turned.quiet (c.in-Ok-rotate.ensures.commits tells (spelled here.tables.schema) on.beside.contents on.beside.doubtful number area on.beside.stands is).acknowledged)

pub returns-clause-place : goal.returns-clause-place
returns-clause-place g c =
    ap records c.in-Err.ensures.kept ∙ ap place c.self.view_is

pub returns-clause-kept : goal.returns-clause-kept
returns-clause-kept g c tells =
    let disk = g.D.Disk in
    let here : Keeping g.row.D.Denot = record { tables = c.self.inside.tables; journal = c.self.inside.journal; disk = c.self.inside.disk; log_max = c.self.inside.log_max } in
    let area : List ℕ = area_of (database_of c.self.inside.tables) in
    let number : ℕ = records c.self.inside.journal in
    let written : c.deref.result.now ≡ segment_of number area = pushed_segment number c.records.result area c.new-segment.result.items c.push_area.new.out.items c.deref.result.now c.deref.ensures.value c.in-Ok.ensures.bytes c.new-segment.ensures.items c.records.ensures in
    let small : number < 2 ^ 64 = omega (arith, c.records.ensures) in
    let is : IsSegment number area c.deref.result.now = segment_is number area c.deref.result.now written small c.in-Ok.ensures.short in
    let makes = c.in-Ok.ensures.makes in
    let counted : records c.rotate.new.self ≡ number = ap records c.in-Err.ensures.kept in
    kept_either disk.seen disk.may_leave disk.moment disk.left_at _ c.args.self.now (c.requires.kept tells)
    (failed_back disk.seen disk.may_leave disk.moment disk.left_at here c.rotate.new.self c.rotate.new.disk makes c.args.self.now c.self.view_is counted (λ contents doubtful stands. (c.in-Err.ensures.commits tells (spelled here.tables.schema) contents doubtful number area stands is).refused))

pub returns-clause-kept_back : goal.returns-clause-kept_back
returns-clause-kept_back g c tells =
    let disk = g.D.Disk in
    let here : Keeping g.row.D.Denot = record { tables = c.self.inside.tables; journal = c.self.inside.journal; disk = c.self.inside.disk; log_max = c.self.inside.log_max } in
    let area : List ℕ = area_of (database_of c.self.inside.tables) in
    let number : ℕ = records c.self.inside.journal in
    let written : c.deref.result.now ≡ segment_of number area = pushed_segment number c.records.result area c.new-segment.result.items c.push_area.new.out.items c.deref.result.now c.deref.ensures.value c.in-Ok.ensures.bytes c.new-segment.ensures.items c.records.ensures in
    let small : number < 2 ^ 64 = omega (arith, c.records.ensures) in
    let is : IsSegment number area c.deref.result.now = segment_is number area c.deref.result.now written small c.in-Ok.ensures.short in
    let makes = c.in-Ok.ensures.makes in
    let counted : records c.rotate.new.self ≡ number = ap records c.in-Err.ensures.kept in
    (failed_back disk.seen disk.may_leave disk.moment disk.left_at here c.rotate.new.self c.rotate.new.disk makes c.args.self.now c.self.view_is counted (λ contents doubtful stands. (c.in-Err.ensures.commits tells (spelled here.tables.schema) contents doubtful number area stands is).refused))

pub returns-in-Ok-rotate-clause-emptied : goal.returns-in-Ok-rotate-clause-emptied
returns-in-Ok-rotate-clause-emptied g c =
    let root = some_root c.self.inside.journal.root c.self.invariant.1 in
    let turned = c.in-Ok-rotate.ensures.turned root.0 root.1 in
    turned.since

pub returns-in-Ok-rotate-clause-quiet : goal.returns-in-Ok-rotate-clause-quiet
returns-in-Ok-rotate-clause-quiet g c =
    let root = some_root c.self.inside.journal.root c.self.invariant.1 in
    let turned = c.in-Ok-rotate.ensures.turned root.0 root.1 in
    ap is_some turned.quiet

pub invariant_of-self : goal.invariant_of-self
invariant_of-self g c =
    let root = some_root c.self.inside.journal.root c.self.invariant.1 in
    (c.self.invariant.0, still_rooted c.self.inside.journal c.rotate.new.self _ c.deref.result.now c.rotate.result root.0 root.1 (c.rotate.ensures.turned root.0 root.1) c.rotate.ensures.kept)
