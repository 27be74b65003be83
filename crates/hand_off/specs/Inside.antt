-- What a hand-off is to a contract. No public clause cites this.
use Rattle.std.specs.Prelude.{Option}
use Rattle.crossbeam_utils.specs.declared.cache_padded.CachePadded.{CachePadded}
use Rattle.crossbeam_utils.specs.Padded.{padded_value}
use Rattle.crossbeam_queue.specs.declared.array_queue.Doing.{Doing}
use Rattle.crossbeam_queue.specs.declared.array_queue.Slotted.{Slotted}
use Rattle.crossbeam_queue.specs.Passes.{ruled_capacity}
use Rattle.hand_off.specs.declared.knows.Knows.{Knows}
use Rattle.hand_off.specs.Passes.{Line}

abbrev pub line_of : {A Q B : Type 0} → CachePadded (Slotted (Option A) (Doing A (Knows A)) Q B) → Line
line_of queue = record { id = (padded_value queue).table.shared.table_id; capacity = ruled_capacity (padded_value queue) }
