use Rattle.redo_journal.proofs.ReadingLaws as laws
use Rattle.redo_journal.proofs.laws.an_image_reads_one_way.Goals as goal

pub returns : goal.returns
returns c = record {
  one_contents = laws.one_contents;
  one_place = laws.one_place;
  not_other = laws.not_other;
  not_damaged = laws.not_damaged;
  other_not_refused = laws.other_not_refused;
  fresh_no_journal = laws.fresh_no_journal;
  fresh_no_other = laws.fresh_no_other;
  fresh_not_refused = λ text image place. laws.fresh_not_refused text image place;
}
