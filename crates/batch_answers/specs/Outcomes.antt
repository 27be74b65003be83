-- What comes of a batch that is run as a whole or not at all.
use Rattle.std.specs.Prelude.{◌≡◌, List}
use Rattle.request_types.specs.declared.batches.Item.{Item}
use Rattle.line_pipeline.specs.declared.outcomes.Outcome.{Outcome}
use Rattle.line_pipeline.specs.declared.outcomes.Outcome.TheVariants as outcomes
use Rattle.table_rows.specs.Database.{Database}
use Rattle.batch_answers.specs.Answers.{after, parts_for}

-- A batch that is done answers each of its connections, and leaves the rows that its items leave. One that isn't leaves
-- them as they were.
abbrev pub Comes : Outcome → Database → List Item → Database → Type 0
Comes (outcomes.Done replies) old items new = (replies.parts ≡ parts_for old items) × (new ≡ after old items)
Comes outcomes.DiskFault old items new = new ≡ old
Comes outcomes.NoMemory old items new = new ≡ old
