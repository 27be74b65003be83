use Rattle.std.proofs.Common.{◌∙◌}
use Rattle.redo_journal.proofs.SegmentLemmas.{number_read}
use Rattle.redo_journal.proofs.segment.number_of.Goals as goal

pub returns : goal.returns
returns c = c.number_at.ensures ∙ number_read c.args.segment.now
