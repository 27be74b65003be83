use Rattle.std.proofs.Common.{◌≡◌, ◌<◌, ◌^◌, ℕ, List, length, sym, ap, subst, ◌∙◌}
use Rattle.std.specs.Prelude.{Option, unwrap_or}
use Rattle.std.proofs.lemmas.Result.{err_from_is_err_and}
use Rattle.hs_schema.specs.Spelling.{spelled}
use Rattle.hs_schema.proofs.Lengths.{schema_length}
use Rattle.table_rows.specs.Database.{database_of}
use Rattle.redo_journal.specs.Image.{StandsFor}
use Rattle.redo_journal.specs.Journal.{root_gate}
use Rattle.redo_journal.specs.Records.{payloads_of}
use Rattle.redo_journal.specs.declared.record.Record.{Record}
use Rattle.redo_journal.proofs.Moments.{wider}
use Rattle.table_recovery.specs.Answers.{RefusesArea, RefusesRecords}
use Rattle.table_recovery.specs.Shown.{Begins, LeadAll}
use Rattle.table_recovery.proofs.OpenTables.{Opening, stand_for_text, stand_for_spelled, image_refused, area_refused, records_refused, shown_read, shown_on, of_schema}
use Rattle.table_recovery.proofs.opening.open_tables.Goals as goal

pub open_on-requires : goal.open_on-requires
open_on-requires g c =
    subst (λ (text : List ℕ). length text < 2 ^ 32) (sym (c.deref.ensures.value ∙ c.in_ok-text.ensures)) (schema_length c.args.schema.now c.requires.schema)

-- the journal is refused
pub returns-in_err-journal-clause-refused : goal.returns-in_err-journal-clause-refused
returns-in_err-journal-clause-refused g c tells =
    let p = err_from_is_err_and c.from_residual-in_err-journal.result c.from_residual-in_err-journal.ensures.1 in
    let refused = image_refused c.args.schema.now c.args.bytes_max c.deref.result.now (c.deref.ensures.value ∙ c.in_ok-text.ensures) (g.D.Disk.seen c.args.disk.now) c.in_err-journal.field-0.0 (c.in_err-journal.ensures.refused tells) in
    rw (p.1, p.2) (refused.0)

pub returns-in_err-journal-clause-begun : goal.returns-in_err-journal-clause-begun
returns-in_err-journal-clause-begun g c tells =
    let p = err_from_is_err_and c.from_residual-in_err-journal.result c.from_residual-in_err-journal.ensures.1 in
    let refused = image_refused c.args.schema.now c.args.bytes_max c.deref.result.now (c.deref.ensures.value ∙ c.in_ok-text.ensures) (g.D.Disk.seen c.args.disk.now) c.in_err-journal.field-0.0 (c.in_err-journal.ensures.refused tells) in
    rw (p.1, p.2) (refused.1)

pub returns-in_err-journal-clause-any_moment : goal.returns-in_err-journal-clause-any_moment
returns-in_err-journal-clause-any_moment g c tells contents all =
    let disk = g.D.Disk in
    let text = c.deref.result.now in
    let schema = c.args.schema.now in
    let spelt : text ≡ spelled schema = c.deref.ensures.value ∙ c.in_ok-text.ensures in
    let run = c.open_on.ensures.any_moment tells contents (stand_for_text text (spelled schema) spelt contents (disk.may_leave c.args.disk.now) all) in
    wider disk.moment disk.left_at c.args.disk.now c.open_on.new.disk (StandsFor text contents) (StandsFor (spelled schema) contents) (λ image is. subst (λ (t : List ℕ). StandsFor t contents image) spelt is) run

pub returns-in_err-journal-clause-again : goal.returns-in_err-journal-clause-again
returns-in_err-journal-clause-again g c tells contents all =
    let disk = g.D.Disk in
    let text = c.deref.result.now in
    let schema = c.args.schema.now in
    let spelt : text ≡ spelled schema = c.deref.ensures.value ∙ c.in_ok-text.ensures in
    stand_for_spelled text (spelled schema) spelt contents (disk.may_leave c.open_on.new.disk) (c.open_on.ensures.again tells contents (stand_for_text text (spelled schema) spelt contents (disk.may_leave c.args.disk.now) all))

-- the area makes no tables
pub returns-in_err-tables-clause-refused : goal.returns-in_err-tables-clause-refused
returns-in_err-tables-clause-refused g c tells =
    let p = err_from_is_err_and c.from_residual-in_err-tables.result c.from_residual-in_err-tables.ensures.1 in
    let schema = c.args.schema.now in
    let gate = c.unwrap_or-gate.result in
    let disk = g.D.Disk in
    let opening : Opening schema c.deref.result.now c.in_ok-journal.opened c.in_ok-journal.journal (disk.seen c.args.disk.now) (disk.seen c.open_on.new.disk) (disk.may_leave c.open_on.new.disk) = record {
      spelt = c.deref.ensures.value ∙ c.in_ok-text.ensures;
      counts = c.in_ok-journal.ensures.counted;
      places = c.in_ok-journal.ensures.places;
      quiet = c.in_ok-journal.ensures.quiet;
      low = c.in_ok-journal.ensures.low;
      reads = c.in_ok-journal.ensures.reads tells;
      stands = c.in_ok-journal.ensures.stands tells;
      stays = c.open_on.ensures.untouched tells;
    } in
    let gate_is : gate ≡ unwrap_or (root_gate c.in_ok-journal.journal) 0 = c.unwrap_or-gate.ensures ∙ ap (λ (found : Option ℕ). unwrap_or found 0) c.root_gate.ensures in
    let refused =
    area_refused schema c.args.bytes_max c.deref.result.now c.in_ok-journal.opened c.in_ok-journal.journal (disk.seen c.args.disk.now) (disk.seen c.open_on.new.disk) (disk.may_leave c.open_on.new.disk) opening
    gate c.in_err-tables.field-0.0 gate_is (subst (λ (area : Option (List ℕ)). RefusesArea schema c.args.bytes_max area gate c.in_err-tables.field-0.0) c.as_ref.ensures.value c.in_err-tables.ensures.refused) in
    rw (p.1, p.2) (refused.0)

pub returns-in_err-tables-clause-begun : goal.returns-in_err-tables-clause-begun
returns-in_err-tables-clause-begun g c tells =
    let p = err_from_is_err_and c.from_residual-in_err-tables.result c.from_residual-in_err-tables.ensures.1 in
    let schema = c.args.schema.now in
    let gate = c.unwrap_or-gate.result in
    let disk = g.D.Disk in
    let opening : Opening schema c.deref.result.now c.in_ok-journal.opened c.in_ok-journal.journal (disk.seen c.args.disk.now) (disk.seen c.open_on.new.disk) (disk.may_leave c.open_on.new.disk) = record {
      spelt = c.deref.ensures.value ∙ c.in_ok-text.ensures;
      counts = c.in_ok-journal.ensures.counted;
      places = c.in_ok-journal.ensures.places;
      quiet = c.in_ok-journal.ensures.quiet;
      low = c.in_ok-journal.ensures.low;
      reads = c.in_ok-journal.ensures.reads tells;
      stands = c.in_ok-journal.ensures.stands tells;
      stays = c.open_on.ensures.untouched tells;
    } in
    let gate_is : gate ≡ unwrap_or (root_gate c.in_ok-journal.journal) 0 = c.unwrap_or-gate.ensures ∙ ap (λ (found : Option ℕ). unwrap_or found 0) c.root_gate.ensures in
    let refused =
    area_refused schema c.args.bytes_max c.deref.result.now c.in_ok-journal.opened c.in_ok-journal.journal (disk.seen c.args.disk.now) (disk.seen c.open_on.new.disk) (disk.may_leave c.open_on.new.disk) opening
    gate c.in_err-tables.field-0.0 gate_is (subst (λ (area : Option (List ℕ)). RefusesArea schema c.args.bytes_max area gate c.in_err-tables.field-0.0) c.as_ref.ensures.value c.in_err-tables.ensures.refused) in
    rw (p.1, p.2) (refused.1)

pub returns-in_err-tables-clause-any_moment : goal.returns-in_err-tables-clause-any_moment
returns-in_err-tables-clause-any_moment g c tells contents all =
    let disk = g.D.Disk in
    let text = c.deref.result.now in
    let schema = c.args.schema.now in
    let spelt : text ≡ spelled schema = c.deref.ensures.value ∙ c.in_ok-text.ensures in
    let run = c.open_on.ensures.any_moment tells contents (stand_for_text text (spelled schema) spelt contents (disk.may_leave c.args.disk.now) all) in
    wider disk.moment disk.left_at c.args.disk.now c.open_on.new.disk (StandsFor text contents) (StandsFor (spelled schema) contents) (λ image is. subst (λ (t : List ℕ). StandsFor t contents image) spelt is) run

pub returns-in_err-tables-clause-again : goal.returns-in_err-tables-clause-again
returns-in_err-tables-clause-again g c tells contents all =
    let disk = g.D.Disk in
    let text = c.deref.result.now in
    let schema = c.args.schema.now in
    let spelt : text ≡ spelled schema = c.deref.ensures.value ∙ c.in_ok-text.ensures in
    stand_for_spelled text (spelled schema) spelt contents (disk.may_leave c.open_on.new.disk) (c.open_on.ensures.again tells contents (stand_for_text text (spelled schema) spelt contents (disk.may_leave c.args.disk.now) all))

-- a record leads nowhere
pub returns-in_err-lead_all-clause-refused : goal.returns-in_err-lead_all-clause-refused
returns-in_err-lead_all-clause-refused g c tells =
    let p = err_from_is_err_and c.from_residual-in_err-lead_all.result c.from_residual-in_err-lead_all.ensures.1 in
    let schema = c.args.schema.now in
    let start = database_of c.in_ok-tables.tables in
    let disk = g.D.Disk in
    let opening : Opening schema c.deref.result.now c.in_ok-journal.opened c.in_ok-journal.journal (disk.seen c.args.disk.now) (disk.seen c.open_on.new.disk) (disk.may_leave c.open_on.new.disk) = record {
      spelt = c.deref.ensures.value ∙ c.in_ok-text.ensures;
      counts = c.in_ok-journal.ensures.counted;
      places = c.in_ok-journal.ensures.places;
      quiet = c.in_ok-journal.ensures.quiet;
      low = c.in_ok-journal.ensures.low;
      reads = c.in_ok-journal.ensures.reads tells;
      stands = c.in_ok-journal.ensures.stands tells;
      stays = c.open_on.ensures.untouched tells;
    } in
    let refused =
    records_refused schema c.args.bytes_max c.deref.result.now c.in_ok-journal.opened c.in_ok-journal.journal (disk.seen c.args.disk.now) (disk.seen c.open_on.new.disk) (disk.may_leave c.open_on.new.disk) opening
    start c.in_err-lead_all.field-0.0
    (subst (λ (area : Option (List ℕ)). Begins schema c.args.bytes_max area start) c.as_ref.ensures.value c.in_ok-tables.ensures.begins)
    (subst (λ (found : List Record). RefusesRecords start found c.in_err-lead_all.field-0.0) c.as_slice.ensures.value c.in_err-lead_all.ensures.refused) in
    rw (p.1, p.2) (refused.0)

pub returns-in_err-lead_all-clause-begun : goal.returns-in_err-lead_all-clause-begun
returns-in_err-lead_all-clause-begun g c tells =
    let p = err_from_is_err_and c.from_residual-in_err-lead_all.result c.from_residual-in_err-lead_all.ensures.1 in
    let schema = c.args.schema.now in
    let start = database_of c.in_ok-tables.tables in
    let disk = g.D.Disk in
    let opening : Opening schema c.deref.result.now c.in_ok-journal.opened c.in_ok-journal.journal (disk.seen c.args.disk.now) (disk.seen c.open_on.new.disk) (disk.may_leave c.open_on.new.disk) = record {
      spelt = c.deref.ensures.value ∙ c.in_ok-text.ensures;
      counts = c.in_ok-journal.ensures.counted;
      places = c.in_ok-journal.ensures.places;
      quiet = c.in_ok-journal.ensures.quiet;
      low = c.in_ok-journal.ensures.low;
      reads = c.in_ok-journal.ensures.reads tells;
      stands = c.in_ok-journal.ensures.stands tells;
      stays = c.open_on.ensures.untouched tells;
    } in
    let refused =
    records_refused schema c.args.bytes_max c.deref.result.now c.in_ok-journal.opened c.in_ok-journal.journal (disk.seen c.args.disk.now) (disk.seen c.open_on.new.disk) (disk.may_leave c.open_on.new.disk) opening
    start c.in_err-lead_all.field-0.0
    (subst (λ (area : Option (List ℕ)). Begins schema c.args.bytes_max area start) c.as_ref.ensures.value c.in_ok-tables.ensures.begins)
    (subst (λ (found : List Record). RefusesRecords start found c.in_err-lead_all.field-0.0) c.as_slice.ensures.value c.in_err-lead_all.ensures.refused) in
    rw (p.1, p.2) (refused.1)

pub returns-in_err-lead_all-clause-any_moment : goal.returns-in_err-lead_all-clause-any_moment
returns-in_err-lead_all-clause-any_moment g c tells contents all =
    let disk = g.D.Disk in
    let text = c.deref.result.now in
    let schema = c.args.schema.now in
    let spelt : text ≡ spelled schema = c.deref.ensures.value ∙ c.in_ok-text.ensures in
    let run = c.open_on.ensures.any_moment tells contents (stand_for_text text (spelled schema) spelt contents (disk.may_leave c.args.disk.now) all) in
    wider disk.moment disk.left_at c.args.disk.now c.open_on.new.disk (StandsFor text contents) (StandsFor (spelled schema) contents) (λ image is. subst (λ (t : List ℕ). StandsFor t contents image) spelt is) run

pub returns-in_err-lead_all-clause-again : goal.returns-in_err-lead_all-clause-again
returns-in_err-lead_all-clause-again g c tells contents all =
    let disk = g.D.Disk in
    let text = c.deref.result.now in
    let schema = c.args.schema.now in
    let spelt : text ≡ spelled schema = c.deref.ensures.value ∙ c.in_ok-text.ensures in
    stand_for_spelled text (spelled schema) spelt contents (disk.may_leave c.open_on.new.disk) (c.open_on.ensures.again tells contents (stand_for_text text (spelled schema) spelt contents (disk.may_leave c.args.disk.now) all))

-- the tables are found
pub returns-clause-reads : goal.returns-clause-reads
returns-clause-reads g c tells =
    let schema = c.args.schema.now in
    let start = database_of c.in_ok-tables.tables in
    let db = database_of c.lead_all.new.tables in
    let disk = g.D.Disk in
    let opening : Opening schema c.deref.result.now c.in_ok-journal.opened c.in_ok-journal.journal (disk.seen c.args.disk.now) (disk.seen c.open_on.new.disk) (disk.may_leave c.open_on.new.disk) = record {
      spelt = c.deref.ensures.value ∙ c.in_ok-text.ensures;
      counts = c.in_ok-journal.ensures.counted;
      places = c.in_ok-journal.ensures.places;
      quiet = c.in_ok-journal.ensures.quiet;
      low = c.in_ok-journal.ensures.low;
      reads = c.in_ok-journal.ensures.reads tells;
      stands = c.in_ok-journal.ensures.stands tells;
      stays = c.open_on.ensures.untouched tells;
    } in
    shown_read schema c.args.bytes_max c.deref.result.now c.in_ok-journal.opened c.in_ok-journal.journal (disk.seen c.args.disk.now) (disk.seen c.open_on.new.disk) (disk.may_leave c.open_on.new.disk) opening
    start db
    (subst (λ (area : Option (List ℕ)). Begins schema c.args.bytes_max area start) c.as_ref.ensures.value c.in_ok-tables.ensures.begins)
    (subst (λ (found : List Record). LeadAll start (payloads_of found) db) c.as_slice.ensures.value c.in_ok-lead_all.ensures.leads)

pub returns-clause-stands : goal.returns-clause-stands
returns-clause-stands g c tells =
    let schema = c.args.schema.now in
    let start = database_of c.in_ok-tables.tables in
    let db = database_of c.lead_all.new.tables in
    let disk = g.D.Disk in
    let opening : Opening schema c.deref.result.now c.in_ok-journal.opened c.in_ok-journal.journal (disk.seen c.args.disk.now) (disk.seen c.open_on.new.disk) (disk.may_leave c.open_on.new.disk) = record {
      spelt = c.deref.ensures.value ∙ c.in_ok-text.ensures;
      counts = c.in_ok-journal.ensures.counted;
      places = c.in_ok-journal.ensures.places;
      quiet = c.in_ok-journal.ensures.quiet;
      low = c.in_ok-journal.ensures.low;
      reads = c.in_ok-journal.ensures.reads tells;
      stands = c.in_ok-journal.ensures.stands tells;
      stays = c.open_on.ensures.untouched tells;
    } in
    shown_on schema c.args.bytes_max c.deref.result.now c.in_ok-journal.opened c.in_ok-journal.journal (disk.seen c.args.disk.now) (disk.seen c.open_on.new.disk) (disk.may_leave c.open_on.new.disk) opening
    start db
    (subst (λ (area : Option (List ℕ)). Begins schema c.args.bytes_max area start) c.as_ref.ensures.value c.in_ok-tables.ensures.begins)
    (subst (λ (found : List Record). LeadAll start (payloads_of found) db) c.as_slice.ensures.value c.in_ok-lead_all.ensures.leads)

pub returns-clause-of_schema : goal.returns-clause-of_schema
returns-clause-of_schema g c =
    let schema = c.args.schema.now in
    let start = database_of c.in_ok-tables.tables in
    let db = database_of c.lead_all.new.tables in
    of_schema schema c.args.bytes_max c.in_ok-journal.opened c.in_ok-journal.journal start db c.in_ok-journal.ensures.counted
    (subst (λ (area : Option (List ℕ)). Begins schema c.args.bytes_max area start) c.as_ref.ensures.value c.in_ok-tables.ensures.begins)
    (subst (λ (found : List Record). LeadAll start (payloads_of found) db) c.as_slice.ensures.value c.in_ok-lead_all.ensures.leads)

pub returns-clause-any_moment : goal.returns-clause-any_moment
returns-clause-any_moment g c tells contents all =
    let disk = g.D.Disk in
    let text = c.deref.result.now in
    let schema = c.args.schema.now in
    let spelt : text ≡ spelled schema = c.deref.ensures.value ∙ c.in_ok-text.ensures in
    let run = c.open_on.ensures.any_moment tells contents (stand_for_text text (spelled schema) spelt contents (disk.may_leave c.args.disk.now) all) in
    wider disk.moment disk.left_at c.args.disk.now c.open_on.new.disk (StandsFor text contents) (StandsFor (spelled schema) contents) (λ image is. subst (λ (t : List ℕ). StandsFor t contents image) spelt is) run

pub returns-clause-again : goal.returns-clause-again
returns-clause-again g c tells contents all =
    let disk = g.D.Disk in
    let text = c.deref.result.now in
    let schema = c.args.schema.now in
    let spelt : text ≡ spelled schema = c.deref.ensures.value ∙ c.in_ok-text.ensures in
    stand_for_spelled text (spelled schema) spelt contents (disk.may_leave c.open_on.new.disk) (c.open_on.ensures.again tells contents (stand_for_text text (spelled schema) spelt contents (disk.may_leave c.args.disk.now) all))
