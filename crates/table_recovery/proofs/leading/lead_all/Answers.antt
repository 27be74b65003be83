use Rattle.std.proofs.lemmas.Result.{err_from_is_err_and}
use Rattle.table_rows.specs.Database.{database_of}
use Rattle.table_recovery.proofs.LeadLemmas.{led_on, stopped}
use Rattle.table_recovery.proofs.leading.lead_all.Goals as goal

pub loop-record-preserved : goal.loop-record-preserved
loop-record-preserved c =
    led_on (database_of c.args.tables.now) (database_of c.loop-record.tables) c.args.records.now c.loop-record.record-index c.record-item.result c.loop-record-test.true c.record-item.is c.loop-record.invariant
    (database_of c.lead.new.tables) c.in_ok-lead.ensures.leads

pub returns-in_err-lead-clause-refused : goal.returns-in_err-lead-clause-refused
returns-in_err-lead-clause-refused c =
    let p = err_from_is_err_and c.from_residual.result c.from_residual.ensures.1 in
    let refuses =
    stopped (database_of c.args.tables.now) (database_of c.loop-record.tables) c.args.records.now c.loop-record.record-index c.record-item.result c.loop-record-test.true c.record-item.is c.loop-record.invariant
    c.in_err-lead.field-0.0 c.in_err-lead.ensures.refused in
    rw (p.1, p.2) refuses
