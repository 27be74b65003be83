use Rattle.redo_journal.proofs.FreeLemmas as free
use Rattle.redo_journal.proofs.laws.what_follows_is_free.Goals as goal

pub returns : goal.returns
returns c = record {
  journals = free.journals_on;
  fresh = free.fresh_on;
  one_byte = free.one_byte;
}
