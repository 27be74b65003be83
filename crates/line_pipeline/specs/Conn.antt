-- A connection, live or closed, and what each call makes of it.
use Rattle.std.specs.Prelude.{◌≡◌, ◌≤◌, ⊤, ℕ, Bool, true, false, List, [], ◌++◌, length, drop, Option, Some, None, IfSome, if◌then◌else◌}
use Rattle.hs_line.specs.Lines.{has_lf}
use Rattle.request_types.specs.declared.ports.Port.{Port}
use Rattle.request_types.specs.declared.ports.Port.TheVariants as ports
use Rattle.request_types.specs.declared.connections.ConnId.{ConnId}
use Rattle.row_types.specs.declared.tables.Schema.{Schema}
use Rattle.request_types.specs.declared.batches.Item.{Item}
use Rattle.line_pipeline.specs.declared.changes.Change.{Change}
use Rattle.line_pipeline.specs.declared.changes.Change.TheVariants as changes
use Rattle.line_pipeline.specs.declared.conns.Conn.{Conn}
use Rattle.line_pipeline.specs.declared.conns.Conn.TheVariants as conns
use Rattle.line_pipeline.specs.declared.reasons.Reason.{Reason}
use Rattle.line_pipeline.specs.declared.reasons.Reason.TheVariants as reasons
use Rattle.line_pipeline.specs.declared.reasons.ConnState.{ConnState}
use Rattle.line_pipeline.specs.declared.reasons.ConnState.TheVariants as states
use Rattle.line_pipeline.specs.declared.secrets.Secrets.{Secrets}
use Rattle.line_pipeline.specs.Live.{Live}
use Rattle.line_pipeline.specs.Live as live

-- The secret of a port. The SQL port has none.
abbrev pub secret_of : Secrets → Port → Option (List ℕ)
secret_of secrets ports.Reading = secrets.reading
secret_of secrets ports.Writing = secrets.writing
secret_of secrets ports.Sql = None

-- A change of live connections alone.
abbrev pub if_live : (Live → Live) → Conn → Conn
if_live change (conns.Live l) = conns.Live (change l)
if_live change (conns.Closed reason) = conns.Closed reason

-- What a caller is told of it.
abbrev pub state_of : Conn → ConnState
state_of (conns.Live l) = states.Live
state_of (conns.Closed reason) = states.Closed reason

-- How many more bytes are received. A closed connection receives none.
abbrev pub room_of : Conn → ℕ
room_of (conns.Live l) = live.room_of l
room_of (conns.Closed reason) = 0

-- The bytes that weren't sent yet. Nothing is sent on a closed connection.
abbrev pub unsent_of : Conn → List ℕ
unsent_of (conns.Live l) = l.unsent
unsent_of (conns.Closed reason) = []

-- Whether it is live and holds a line feed.
abbrev pub asks : Conn → Bool
asks (conns.Live l) = has_lf l.held
asks (conns.Closed reason) = false

-- Whether a text can join its output without memory. A closed connection lets it fall.
abbrev pub has_place : Conn → Bool
has_place (conns.Live l) = l.has_place
has_place (conns.Closed reason) = true

-- The bytes were received.
abbrev pub fed : List ℕ → Conn → Conn
fed piece = if_live (λ l. record l { held = l.held ++ piece })

-- The peer has ended, and all its bytes were received.
abbrev pub ended : Conn → Conn
ended = if_live (λ l. record l { met_end = true })

-- So many bytes of the front were sent.
abbrev pub sent_off : ℕ → Conn → Conn
sent_off count = if_live (λ l. record l { unsent = drop count l.unsent })

-- It is closed, and all that it held and that waited for it is gone. The first reason stands.
abbrev pub closed : Reason → Conn → Conn
closed reason (conns.Live l) = conns.Closed reason
closed reason (conns.Closed first) = conns.Closed first

-- The text joined its output, and used the place.
abbrev pub answered : List ℕ → Conn → Conn
answered text = if_live (λ l. record l { unsent = l.unsent ++ text; has_place = false })

-- The place is given up.
abbrev pub place_used : Conn → Conn
place_used = if_live (λ l. record l { has_place = false })

-- It is closed where it has an end of its own.
abbrev pub finished : Conn → Conn
finished (conns.Live l) = at_end (live.ending l) where
  at_end : Option Reason → Conn
  at_end None = conns.Live l
  at_end (Some reason) = conns.Closed reason
finished (conns.Closed reason) = conns.Closed reason

-- What the lines that one turn takes of it ask for.
abbrev pub items_of : Schema → ConnId → Conn → List Item
items_of schema id (conns.Live l) = live.items_of schema id l
items_of schema id (conns.Closed reason) = []

-- It without those lines.
abbrev pub took : Schema → Conn → Conn
took schema = if_live (live.took schema)

-- Where memory is refused, it is closed if it asks for something.
abbrev pub refused : Conn → Conn
refused conn = if asks conn then closed reasons.BatchMemory conn else conn

-- What a change makes of it.
abbrev pub applied : Change → Conn → Conn
applied (changes.Feed piece) = fed piece.now
applied changes.End = ended
applied (changes.Sent count) = sent_off count
applied (changes.Close reason) = closed reason
applied changes.Finish = finished
applied changes.Refuse = refused
applied (changes.Answer text) = answered text
applied changes.UsePlace = place_used

-- Bytes that come have room, bytes that were sent waited, and for a text there is a place.
abbrev pub MayChange : Change → Option Conn → Type 0
MayChange (changes.Feed piece) held = IfSome held (λ conn. length piece.now ≤ room_of conn)
MayChange (changes.Sent count) held = IfSome held (λ conn. count ≤ length (unsent_of conn))
MayChange (changes.Answer text) held = IfSome held (λ conn. has_place conn ≡ true)
MayChange _ held = ⊤
