-- How connections stand under their numbers. No public clause cites this file.
use Rattle.std.specs.Prelude.{ℕ, ◌+◌, List, [], ◌∷◌, Option, Some, None}
use Rattle.request_types.specs.declared.connections.ConnId.{ConnId}
use Rattle.line_pipeline.specs.declared.conns.Conn.{Conn}
use Rattle.line_pipeline.specs.declared.slots.Slot.{Slot}

-- the connections of these slots, where the first slot has this number
abbrev pub conns_from : ℕ → List (Option Slot) → List (ConnId × Conn)
conns_from n [] = []
conns_from n (None ∷ slots) = conns_from (n + 1) slots
conns_from n (Some slot ∷ slots) = (record { number = n; generation = slot.generation }, slot.conn) ∷ conns_from (n + 1) slots
