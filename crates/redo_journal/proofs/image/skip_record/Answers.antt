use Rattle.redo_journal.proofs.RecordLemmas.{no_root}
use Rattle.redo_journal.proofs.image.skip_record.Goals as goal

pub returns-clause-ok : goal.returns-clause-ok
returns-clause-ok c = record {
  payload = c.in_ok-_payload._payload.now;
  no_root = no_root c.args.image.now c.args.gate c.in_ok-_payload.next c.in_ok-_payload._payload.now c.in_ok-_payload.ensures.ok c.if-is_root.ensures.no;
  reads = c.in_ok-_payload.ensures.ok;
}
