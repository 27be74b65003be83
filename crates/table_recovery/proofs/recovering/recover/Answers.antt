use Rattle.std.proofs.Common.{ℕ, sym, subst, ◌∙◌}
use Rattle.std.proofs.lemmas.Result.{err_from_is_err_and}
use Rattle.row_types.specs.declared.tables.Schema.{Schema}
use Rattle.table_rows.specs.Database.{Database, database_of}
use Rattle.hs_schema.specs.Spelling.{spelled}
use Rattle.redo_journal.specs.Image.{nothing}
use Rattle.redo_journal.proofs.ReadingLaws.{fresh_no_journal}
use Rattle.table_recovery.specs.Shown.{ImageShows}
use Rattle.table_recovery.proofs.RecoverLemmas.{no_area_without_root, none_is, not_for_bytes, opened_again, opened_moments, rooted_again, rooted_moments}
use Rattle.table_recovery.proofs.TurnLemmas.{shown_turned}
use Rattle.table_recovery.proofs.recovering.recover.Goals as goal

pub returns-in_err-found-clause-any_moment : goal.returns-in_err-found-clause-any_moment
returns-in_err-found-clause-any_moment g c tells db place all =
    let disk = g.D.Disk in
    opened_moments disk.seen disk.may_leave disk.moment disk.left_at c.args.schema.now c.args.bytes_max c.args.disk.now c.open_tables.new.disk (c.open_tables.ensures.harmless tells) db place all (c.open_tables.ensures.any_moment tells)

pub returns-in_err-found-clause-again : goal.returns-in_err-found-clause-again
returns-in_err-found-clause-again g c tells db place all =
    let disk = g.D.Disk in
    opened_again disk.seen disk.may_leave disk.moment disk.left_at c.args.schema.now c.args.bytes_max c.args.disk.now c.open_tables.new.disk (c.open_tables.ensures.harmless tells) db place all (c.open_tables.ensures.again tells) (c.open_tables.ensures.untouched tells) (λ image left. g.met.D.Disk.counts_now c.open_tables.new.disk image tells left)

pub returns-in_err-found-clause-untouched_root : goal.returns-in_err-found-clause-untouched_root
returns-in_err-found-clause-untouched_root g c tells contents area is has =
    c.open_tables.ensures.untouched tells (λ fresh. fresh_no_journal (spelled c.args.schema.now) (g.D.Disk.seen c.args.disk.now) contents fresh is)

pub returns-in_err-found-clause-harmless_root : goal.returns-in_err-found-clause-harmless_root
returns-in_err-found-clause-harmless_root g c tells contents area is has =
    c.open_tables.ensures.harmless tells (λ fresh. fresh_no_journal (spelled c.args.schema.now) (g.D.Disk.seen c.args.disk.now) contents fresh is)

pub returns-in_err-found-clause-untouched : goal.returns-in_err-found-clause-untouched
returns-in_err-found-clause-untouched g c tells =
    let p = err_from_is_err_and c.from_residual.result c.from_residual.ensures.1 in
    rw (p.1, p.2) (λ of_bytes. c.open_tables.ensures.untouched tells (c.in_err-found.ensures.begun tells of_bytes))

pub returns-in_err-found-clause-harmless : goal.returns-in_err-found-clause-harmless
returns-in_err-found-clause-harmless g c tells =
    let p = err_from_is_err_and c.from_residual.result c.from_residual.ensures.1 in
    rw (p.1, p.2) (λ of_bytes. c.open_tables.ensures.harmless tells (c.in_err-found.ensures.begun tells of_bytes))

pub returns-then-has_root-clause-any_moment : goal.returns-then-has_root-clause-any_moment
returns-then-has_root-clause-any_moment g c tells db place all =
    let disk = g.D.Disk in
    opened_moments disk.seen disk.may_leave disk.moment disk.left_at c.args.schema.now c.args.bytes_max c.args.disk.now c.open_tables.new.disk (c.open_tables.ensures.harmless tells) db place all (c.open_tables.ensures.any_moment tells)

pub returns-then-has_root-clause-again : goal.returns-then-has_root-clause-again
returns-then-has_root-clause-again g c tells db place all =
    let disk = g.D.Disk in
    opened_again disk.seen disk.may_leave disk.moment disk.left_at c.args.schema.now c.args.bytes_max c.args.disk.now c.open_tables.new.disk (c.open_tables.ensures.harmless tells) db place all (c.open_tables.ensures.again tells) (c.open_tables.ensures.untouched tells) (λ image left. g.met.D.Disk.counts_now c.open_tables.new.disk image tells left)

pub returns-then-has_root-clause-untouched_root : goal.returns-then-has_root-clause-untouched_root
returns-then-has_root-clause-untouched_root g c tells contents area is has =
    c.open_tables.ensures.untouched tells (λ fresh. fresh_no_journal (spelled c.args.schema.now) (g.D.Disk.seen c.args.disk.now) contents fresh is)

pub returns-then-has_root-clause-harmless_root : goal.returns-then-has_root-clause-harmless_root
returns-then-has_root-clause-harmless_root g c tells contents area is has =
    c.open_tables.ensures.harmless tells (λ fresh. fresh_no_journal (spelled c.args.schema.now) (g.D.Disk.seen c.args.disk.now) contents fresh is)

pub give_root-requires-clause-no_root : goal.give_root-requires-clause-no_root
give_root-requires-clause-no_root g c =
    none_is c.in_ok-found.found.journal.root (sym c.has_root.ensures ∙ c.if-has_root.false)

pub returns-in_err-give_root-clause-any_moment : goal.returns-in_err-give_root-clause-any_moment
returns-in_err-give_root-clause-any_moment g c tells db place all =
    let disk = g.D.Disk in
    let schema : Schema = c.args.schema.now in
    let found : Database = database_of c.in_ok-found.found.tables in
    let shown = c.in_ok-found.ensures.stands tells in
    rooted_moments disk.seen disk.may_leave disk.moment disk.left_at schema c.args.bytes_max c.args.disk.now c.open_tables.new.disk (c.open_tables.ensures.harmless tells) db place all found c.in_ok-found.found.journal (c.in_ok-found.ensures.reads tells) (c.in_ok-found.ensures.among tells) shown c.give_root.new.disk
    (opened_moments disk.seen disk.may_leave disk.moment disk.left_at schema c.args.bytes_max c.args.disk.now c.open_tables.new.disk (c.open_tables.ensures.harmless tells) db place all (c.open_tables.ensures.any_moment tells))
    (c.give_root.ensures.any_moment tells (spelled schema) shown.contents shown.stands)

pub returns-in_err-give_root-clause-again : goal.returns-in_err-give_root-clause-again
returns-in_err-give_root-clause-again g c tells db place all =
    let disk = g.D.Disk in
    let schema : Schema = c.args.schema.now in
    let found : Database = database_of c.in_ok-found.found.tables in
    let shown = c.in_ok-found.ensures.stands tells in
    rooted_again disk.seen disk.may_leave disk.moment disk.left_at schema c.args.bytes_max c.args.disk.now c.open_tables.new.disk (c.open_tables.ensures.harmless tells) db place all found c.in_ok-found.found.journal (c.in_ok-found.ensures.reads tells) (c.in_ok-found.ensures.among tells) shown c.give_root.new.disk
    (c.give_root.ensures.again tells (spelled schema) shown.contents shown.stands)

pub returns-in_err-give_root-clause-untouched_root : goal.returns-in_err-give_root-clause-untouched_root
returns-in_err-give_root-clause-untouched_root g c tells contents area is has =
    let disk = g.D.Disk in
    let schema : Schema = c.args.schema.now in
    let found : Database = database_of c.in_ok-found.found.tables in
    let shown = c.in_ok-found.ensures.stands tells in
    absurd (no_area_without_root schema c.args.bytes_max found c.in_ok-found.found.journal (disk.seen c.open_tables.new.disk) (disk.may_leave c.open_tables.new.disk) shown c.in_ok-found.ensures.quiet (none_is c.in_ok-found.found.journal.root (sym c.has_root.ensures ∙ c.if-has_root.false)) contents area (disk.seen c.args.disk.now) (c.open_tables.ensures.untouched tells) is has)

pub returns-in_err-give_root-clause-harmless_root : goal.returns-in_err-give_root-clause-harmless_root
returns-in_err-give_root-clause-harmless_root g c tells contents area is has =
    let disk = g.D.Disk in
    let schema : Schema = c.args.schema.now in
    let found : Database = database_of c.in_ok-found.found.tables in
    let shown = c.in_ok-found.ensures.stands tells in
    absurd (no_area_without_root schema c.args.bytes_max found c.in_ok-found.found.journal (disk.seen c.open_tables.new.disk) (disk.may_leave c.open_tables.new.disk) shown c.in_ok-found.ensures.quiet (none_is c.in_ok-found.found.journal.root (sym c.has_root.ensures ∙ c.if-has_root.false)) contents area (disk.seen c.args.disk.now) (c.open_tables.ensures.untouched tells) is has)

pub returns-in_err-give_root-clause-refused : goal.returns-in_err-give_root-clause-refused
returns-in_err-give_root-clause-refused g c tells =
    let p = err_from_is_err_and c.from_residual-in_err-give_root.result c.from_residual-in_err-give_root.ensures.1 in
    rw (p.1, p.2) (not_for_bytes c.args.schema.now c.args.bytes_max (g.D.Disk.seen c.args.disk.now) c.in_err-give_root.field-0.0 c.in_err-give_root.ensures.not_of_bytes)

pub returns-in_err-give_root-clause-untouched : goal.returns-in_err-give_root-clause-untouched
returns-in_err-give_root-clause-untouched g c tells =
    let p = err_from_is_err_and c.from_residual-in_err-give_root.result c.from_residual-in_err-give_root.ensures.1 in
    rw (p.1, p.2) (λ of_bytes. absurd (c.in_err-give_root.ensures.not_of_bytes of_bytes))

pub returns-in_err-give_root-clause-harmless : goal.returns-in_err-give_root-clause-harmless
returns-in_err-give_root-clause-harmless g c tells =
    let p = err_from_is_err_and c.from_residual-in_err-give_root.result c.from_residual-in_err-give_root.ensures.1 in
    rw (p.1, p.2) (λ of_bytes. absurd (c.in_err-give_root.ensures.not_of_bytes of_bytes))

pub returns-clause-any_moment : goal.returns-clause-any_moment
returns-clause-any_moment g c tells db place all =
    let disk = g.D.Disk in
    let schema : Schema = c.args.schema.now in
    let found : Database = database_of c.in_ok-found.found.tables in
    let shown = c.in_ok-found.ensures.stands tells in
    rooted_moments disk.seen disk.may_leave disk.moment disk.left_at schema c.args.bytes_max c.args.disk.now c.open_tables.new.disk (c.open_tables.ensures.harmless tells) db place all found c.in_ok-found.found.journal (c.in_ok-found.ensures.reads tells) (c.in_ok-found.ensures.among tells) shown c.give_root.new.disk
    (opened_moments disk.seen disk.may_leave disk.moment disk.left_at schema c.args.bytes_max c.args.disk.now c.open_tables.new.disk (c.open_tables.ensures.harmless tells) db place all (c.open_tables.ensures.any_moment tells))
    (c.give_root.ensures.any_moment tells (spelled schema) shown.contents shown.stands)

pub returns-clause-again : goal.returns-clause-again
returns-clause-again g c tells db place all =
    let disk = g.D.Disk in
    let schema : Schema = c.args.schema.now in
    let found : Database = database_of c.in_ok-found.found.tables in
    let shown = c.in_ok-found.ensures.stands tells in
    rooted_again disk.seen disk.may_leave disk.moment disk.left_at schema c.args.bytes_max c.args.disk.now c.open_tables.new.disk (c.open_tables.ensures.harmless tells) db place all found c.in_ok-found.found.journal (c.in_ok-found.ensures.reads tells) (c.in_ok-found.ensures.among tells) shown c.give_root.new.disk
    (c.give_root.ensures.again tells (spelled schema) shown.contents shown.stands)

pub returns-clause-untouched_root : goal.returns-clause-untouched_root
returns-clause-untouched_root g c tells contents area is has =
    let disk = g.D.Disk in
    let schema : Schema = c.args.schema.now in
    let found : Database = database_of c.in_ok-found.found.tables in
    let shown = c.in_ok-found.ensures.stands tells in
    absurd (no_area_without_root schema c.args.bytes_max found c.in_ok-found.found.journal (disk.seen c.open_tables.new.disk) (disk.may_leave c.open_tables.new.disk) shown c.in_ok-found.ensures.quiet (none_is c.in_ok-found.found.journal.root (sym c.has_root.ensures ∙ c.if-has_root.false)) contents area (disk.seen c.args.disk.now) (c.open_tables.ensures.untouched tells) is has)

pub returns-clause-harmless_root : goal.returns-clause-harmless_root
returns-clause-harmless_root g c tells contents area is has =
    let disk = g.D.Disk in
    let schema : Schema = c.args.schema.now in
    let found : Database = database_of c.in_ok-found.found.tables in
    let shown = c.in_ok-found.ensures.stands tells in
    absurd (no_area_without_root schema c.args.bytes_max found c.in_ok-found.found.journal (disk.seen c.open_tables.new.disk) (disk.may_leave c.open_tables.new.disk) shown c.in_ok-found.ensures.quiet (none_is c.in_ok-found.found.journal.root (sym c.has_root.ensures ∙ c.if-has_root.false)) contents area (disk.seen c.args.disk.now) (c.open_tables.ensures.untouched tells) is has)

pub returns-clause-reads : goal.returns-clause-reads
returns-clause-reads g c tells =
    let found : Database = database_of c.in_ok-found.found.tables in
    subst (λ (n : ℕ). ImageShows c.args.schema.now c.args.bytes_max found n (g.D.Disk.seen c.args.disk.now)) (sym c.in_ok-give_root.ensures.counted) (c.in_ok-found.ensures.reads tells)

pub returns-clause-stands : goal.returns-clause-stands
returns-clause-stands g c tells =
    let disk = g.D.Disk in
    let schema : Schema = c.args.schema.now in
    let shown = c.in_ok-found.ensures.stands tells in
    shown_turned schema c.args.bytes_max c.in_ok-found.found.tables c.in_ok-found.found.journal c.give_root.new.journal (disk.seen c.give_root.new.disk) (disk.may_leave c.give_root.new.disk) c.in_ok-found.ensures.of_schema.0 c.in_ok-found.ensures.of_schema.1 c.in_ok-give_root.ensures.counted c.in_ok-give_root.ensures.makes
    (c.in_ok-give_root.ensures.stands tells (spelled schema) shown.contents shown.stands)

pub returns-clause-is_journal : goal.returns-clause-is_journal
returns-clause-is_journal g c tells =
    let shown = c.in_ok-found.ensures.stands tells in
    record {
      text = spelled c.args.schema.now;
      contents = _;
      doubtful = nothing;
      stands = c.in_ok-give_root.ensures.stands tells (spelled c.args.schema.now) shown.contents shown.stands;
    }
