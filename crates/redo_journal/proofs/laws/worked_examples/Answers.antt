use Rattle.redo_journal.proofs.WorkedExamples as examples
use Rattle.redo_journal.proofs.laws.worked_examples.Goals as goal

pub returns : goal.returns
returns c = record {
  new_journal = examples.new_journal;
  one_record = examples.one_record;
  segment = examples.segment;
  with_a_root = examples.with_a_root;
  no_gate_behind = examples.no_gate_behind;
  gate_behind = examples.gate_behind;
  closed_header = examples.closed_header;
  open_header = examples.open_header;
}
