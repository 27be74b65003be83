use Rattle.hs_disk.proofs.WorkedExamples as examples
use Rattle.hs_disk.proofs.laws.worked_examples.Goals as goal

pub returns : goal.returns
returns c = record {
  past_the_end = examples.past_the_end;
  torn_anyhow = examples.torn_anyhow;
  torn_short = examples.torn_short;
  never_shorter = examples.never_shorter;
  never_before = examples.never_before;
  cut_undone = examples.cut_undone;
  cut_synced = examples.cut_synced;
  write_synced = examples.write_synced;
}
