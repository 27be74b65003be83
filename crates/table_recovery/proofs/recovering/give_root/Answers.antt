use Rattle.std.proofs.Common.{◌≡◌, ◌<◌, ◌^◌, ℕ, List, arith}
use Rattle.table_rows.specs.Database.{Database, database_of}
use Rattle.check_point.specs.Area.{area_of, segment_of}
use Rattle.redo_journal.specs.Image.{Contents, area_alone, nothing}
use Rattle.redo_journal.specs.Journal.{records}
use Rattle.redo_journal.specs.Segment.{IsSegment}
use Rattle.table_recovery.proofs.PayloadLaws.{number_back, pushed_segment, segment_is}
use Rattle.table_recovery.proofs.TurnLemmas.{any_doubtful, still_old, turn_again, turn_moments}
use Rattle.table_recovery.proofs.recovering.give_root.Goals as goal

pub returns-in_err-push_area-clause-any_moment : goal.returns-in_err-push_area-clause-any_moment
returns-in_err-push_area-clause-any_moment g c tells text contents stands =
    let disk = g.D.Disk in
    (still_old disk.seen disk.may_leave disk.moment disk.left_at text contents (database_of c.args.tables.now) (records c.args.journal.now) nothing c.args.journal.now c.args.disk.now c.requires.quiet stands (λ image left. g.met.D.Disk.only_now c.args.disk.now image tells left)).0

pub returns-in_err-push_area-clause-again : goal.returns-in_err-push_area-clause-again
returns-in_err-push_area-clause-again g c tells text contents stands =
    let disk = g.D.Disk in
    (still_old disk.seen disk.may_leave disk.moment disk.left_at text contents (database_of c.args.tables.now) (records c.args.journal.now) nothing c.args.journal.now c.args.disk.now c.requires.quiet stands (λ image left. g.met.D.Disk.only_now c.args.disk.now image tells left)).1

pub turn_over-requires-clause-segment : goal.turn_over-requires-clause-segment
turn_over-requires-clause-segment g c =
    let area : List ℕ = area_of (database_of c.args.tables.now) in
    let number : ℕ = records c.args.journal.now in
    let written : c.deref.result.now ≡ segment_of number area = pushed_segment number c.records.result area c.new-segment.result.items c.push_area.new.out.items c.deref.result.now c.deref.ensures.value c.in_ok-push_area.ensures.bytes c.new-segment.ensures.items c.records.ensures in
    let small : number < 2 ^ 64 = omega (arith, c.records.ensures) in
    record { number = number; area = area; is = segment_is number area c.deref.result.now written small c.in_ok-push_area.ensures.short }

pub returns-in_err-turn_over-clause-any_moment : goal.returns-in_err-turn_over-clause-any_moment
returns-in_err-turn_over-clause-any_moment g c tells text contents stands =
    let disk = g.D.Disk in
    let db : Database = database_of c.args.tables.now in
    let number : ℕ = records c.args.journal.now in
    let written : c.deref.result.now ≡ segment_of number (area_of db) = pushed_segment number c.records.result (area_of db) c.new-segment.result.items c.push_area.new.out.items c.deref.result.now c.deref.ensures.value c.in_ok-push_area.ensures.bytes c.new-segment.ensures.items c.records.ensures in
    let small : number < 2 ^ 64 = omega (arith, c.records.ensures) in
    let is : IsSegment number (area_of db) c.deref.result.now = segment_is number (area_of db) c.deref.result.now written small c.in_ok-push_area.ensures.short in
    let on = any_doubtful text contents nothing contents c.args.journal.now (disk.seen c.args.disk.now) (disk.may_leave c.args.disk.now) c.requires.quiet stands in
    turn_moments disk.seen disk.may_leave disk.moment disk.left_at text contents db number c.in_ok-push_area.ensures.makes c.args.journal.now c.turn_over.new.self c.args.disk.now c.turn_over.new.disk c.turn_over.result
    (c.turn_over.ensures.commits tells text contents contents number (area_of db) on is)

pub returns-in_err-turn_over-clause-again : goal.returns-in_err-turn_over-clause-again
returns-in_err-turn_over-clause-again g c tells text contents stands =
    let disk = g.D.Disk in
    let db : Database = database_of c.args.tables.now in
    let number : ℕ = records c.args.journal.now in
    let written : c.deref.result.now ≡ segment_of number (area_of db) = pushed_segment number c.records.result (area_of db) c.new-segment.result.items c.push_area.new.out.items c.deref.result.now c.deref.ensures.value c.in_ok-push_area.ensures.bytes c.new-segment.ensures.items c.records.ensures in
    let small : number < 2 ^ 64 = omega (arith, c.records.ensures) in
    let is : IsSegment number (area_of db) c.deref.result.now = segment_is number (area_of db) c.deref.result.now written small c.in_ok-push_area.ensures.short in
    let on = any_doubtful text contents nothing contents c.args.journal.now (disk.seen c.args.disk.now) (disk.may_leave c.args.disk.now) c.requires.quiet stands in
    turn_again disk.seen disk.may_leave disk.moment disk.left_at text contents db number c.in_ok-push_area.ensures.makes c.args.journal.now c.turn_over.new.self c.args.disk.now c.turn_over.new.disk c.turn_over.result
    (c.turn_over.ensures.commits tells text contents contents number (area_of db) on is)

pub returns-clause-any_moment : goal.returns-clause-any_moment
returns-clause-any_moment g c tells text contents stands =
    let disk = g.D.Disk in
    let db : Database = database_of c.args.tables.now in
    let number : ℕ = records c.args.journal.now in
    let written : c.deref.result.now ≡ segment_of number (area_of db) = pushed_segment number c.records.result (area_of db) c.new-segment.result.items c.push_area.new.out.items c.deref.result.now c.deref.ensures.value c.in_ok-push_area.ensures.bytes c.new-segment.ensures.items c.records.ensures in
    let small : number < 2 ^ 64 = omega (arith, c.records.ensures) in
    let is : IsSegment number (area_of db) c.deref.result.now = segment_is number (area_of db) c.deref.result.now written small c.in_ok-push_area.ensures.short in
    let on = any_doubtful text contents nothing contents c.args.journal.now (disk.seen c.args.disk.now) (disk.may_leave c.args.disk.now) c.requires.quiet stands in
    turn_moments disk.seen disk.may_leave disk.moment disk.left_at text contents db number c.in_ok-push_area.ensures.makes c.args.journal.now c.turn_over.new.self c.args.disk.now c.turn_over.new.disk c.turn_over.result
    (c.turn_over.ensures.commits tells text contents contents number (area_of db) on is)

pub returns-clause-again : goal.returns-clause-again
returns-clause-again g c tells text contents stands =
    let disk = g.D.Disk in
    let db : Database = database_of c.args.tables.now in
    let number : ℕ = records c.args.journal.now in
    let written : c.deref.result.now ≡ segment_of number (area_of db) = pushed_segment number c.records.result (area_of db) c.new-segment.result.items c.push_area.new.out.items c.deref.result.now c.deref.ensures.value c.in_ok-push_area.ensures.bytes c.new-segment.ensures.items c.records.ensures in
    let small : number < 2 ^ 64 = omega (arith, c.records.ensures) in
    let is : IsSegment number (area_of db) c.deref.result.now = segment_is number (area_of db) c.deref.result.now written small c.in_ok-push_area.ensures.short in
    let on = any_doubtful text contents nothing contents c.args.journal.now (disk.seen c.args.disk.now) (disk.may_leave c.args.disk.now) c.requires.quiet stands in
    turn_again disk.seen disk.may_leave disk.moment disk.left_at text contents db number c.in_ok-push_area.ensures.makes c.args.journal.now c.turn_over.new.self c.args.disk.now c.turn_over.new.disk c.turn_over.result
    (c.turn_over.ensures.commits tells text contents contents number (area_of db) on is)

pub returns-clause-stands : goal.returns-clause-stands
returns-clause-stands g c tells text contents stands =
    let disk = g.D.Disk in
    let db : Database = database_of c.args.tables.now in
    let number : ℕ = records c.args.journal.now in
    let written : c.deref.result.now ≡ segment_of number (area_of db) = pushed_segment number c.records.result (area_of db) c.new-segment.result.items c.push_area.new.out.items c.deref.result.now c.deref.ensures.value c.in_ok-push_area.ensures.bytes c.new-segment.ensures.items c.records.ensures in
    let small : number < 2 ^ 64 = omega (arith, c.records.ensures) in
    let is : IsSegment number (area_of db) c.deref.result.now = segment_is number (area_of db) c.deref.result.now written small c.in_ok-push_area.ensures.short in
    let next : Contents = area_alone number (area_of db) in
    any_doubtful text next next nothing c.turn_over.new.self (disk.seen c.turn_over.new.disk) (disk.may_leave c.turn_over.new.disk) c.in_ok-turn_over.ensures.turned.quiet
    (c.in_ok-turn_over.ensures.commits tells text contents nothing number (area_of db) stands is).acknowledged

pub returns-clause-counted : goal.returns-clause-counted
returns-clause-counted g c =
    let area : List ℕ = area_of (database_of c.args.tables.now) in
    let number : ℕ = records c.args.journal.now in
    let written : c.deref.result.now ≡ segment_of number area = pushed_segment number c.records.result area c.new-segment.result.items c.push_area.new.out.items c.deref.result.now c.deref.ensures.value c.in_ok-push_area.ensures.bytes c.new-segment.ensures.items c.records.ensures in
    let small : number < 2 ^ 64 = omega (arith, c.records.ensures) in
    omega (arith, c.in_ok-turn_over.ensures.turned.first, c.in_ok-turn_over.ensures.turned.since, number_back number area c.deref.result.now written small)
