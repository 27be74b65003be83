use Rattle.std.proofs.Common.{take}
use Rattle.table_rows.specs.Database.{database_of}
use Rattle.redo_journal.specs.Records.{payloads_of}
use Rattle.table_recovery.specs.Shown.{LeadAll}
use Rattle.table_recovery.proofs.leading.lead_all.Given as goal

abbrev pub invariant-loop-record : goal.invariant-loop-record
invariant-loop-record l = LeadAll (database_of l.fn.tables) (payloads_of (take l.record-index l.records)) (database_of l.tables)
