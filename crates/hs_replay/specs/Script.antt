-- A script: its lines, the events that they say, the state that the events lead through, and what they print.
use Rattle.std.specs.Prelude.{ℕ, ◌+◌, ◌-◌, ◌^◌, List, [], ◌∷◌, ◌++◌, take, drop, Bool, true, false, not, ◌&&◌, Option, Some, None, Result, Ok, Err, length, nat_lt, is_some, is_none, unwrap_or, option_map, ◌==◌, if◌then◌else◌}
use Rattle.std.specs.Str.{bytes_eq}
use Rattle.std.specs.List.{list_all, list_any}
use Rattle.hs_line.specs.Lines.{lines_of, rest_of}
use Rattle.request_types.specs.declared.ports.Port.{Port}
use Rattle.request_types.specs.declared.ports.Port.TheVariants as ports
use Rattle.row_types.specs.declared.tables.TableDef.{TableDef}
use Rattle.row_types.specs.declared.tables.Schema.{Schema}
use Rattle.hs_schema.specs.Reading.{Breach}
use Rattle.hs_schema.specs.Reading.{table_at as table_said}
use Rattle.table_rows.specs.Sizes.{most_bytes}
use Rattle.line_pipeline.specs.declared.secrets.Secrets.{Secrets}
use Rattle.line_pipeline.specs.Conn.{secret_of}
use Rattle.replay_script.specs.declared.events.Event.{Event}
use Rattle.replay_script.specs.declared.events.Event.TheVariants as events
use Rattle.replay_script.specs.Events.{event_of}
use Rattle.table_rows.specs.Database.{empty_database}
use Rattle.replay_turns.specs.Linked.{Linked, linked_at, has_ended, opened, on, peer_sent, peer_ended, with_room, failing_next}
use Rattle.batch_worker.specs.declared.ends.TurnEnd.TheVariants.{Done}
use Rattle.replay_turns.specs.Session.{Session, turn}
use Rattle.request_types.specs.Names.{table_named}
use Rattle.replay_turns.specs.Shown.{rows_shown}
use Rattle.hs_replay.specs.declared.ends.Flaw.{Flaw}
use Rattle.hs_replay.specs.declared.ends.Flaw.TheVariants.{NoEvent, BadTable}
use Rattle.hs_replay.specs.declared.ends.BadLine.{BadLine}

-- ---- the state that events lead through

-- The state between two lines: what the head says, the numbers of the connections that were opened, and, from the first event on,
-- the connections and the rows.
pub record State : Type 0 where
  pub schema : Schema
  pub bytes_max : Option ℕ
  pub secrets : Secrets
  pub opened : List ℕ
  pub session : Option Session

-- Before the first line nothing is said.
abbrev pub start : State
start = record {
  schema = record { tables = [] };
  bytes_max = None;
  secrets = record { reading = None; writing = None };
  opened = [];
  session = None;
}

-- How many bytes the rows may fill.
abbrev pub limit_of : State → ℕ
limit_of s = unwrap_or s.bytes_max most_bytes

-- Before the first event there are no connections and no rows.
abbrev pub at_first : State → Session
at_first s = record {
  schema = s.schema;
  secrets = s.secrets;
  database = empty_database s.schema (limit_of s);
  conns = [];
}

-- The connections and the rows.
abbrev pub session_of : State → Session
session_of s = unwrap_or s.session (at_first s)

-- The port of the connection of this number, if it is open.
abbrev pub port_in : ℕ → State → Option Port
port_in number s = option_map (λ l. l.port) (linked_at number (session_of s).conns)

-- The state with these connections and rows.
abbrev pub with_session : State → Session → State
with_session s new = record s { session = Some new }

-- The state with the connection of this number changed.
abbrev pub with_conn : ℕ → (Linked → Linked) → State → State
with_conn number change s = with_session s (record (session_of s) { conns = on number change (session_of s).conns })

-- ---- which events may come

-- Whether a number is among others.
abbrev pub is_among : ℕ → List ℕ → Bool
is_among n ns = list_any (λ m. m == n) ns

-- Whether a peer may send more: its connection is open, and it hasn't ended.
abbrev pub may_send : ℕ → State → Bool
may_send number s = is_some (port_in number s) && not (has_ended number (session_of s).conns)

-- Whether two ports are one.
abbrev pub same_port : Port → Port → Bool
same_port ports.Reading ports.Reading = true
same_port ports.Writing ports.Writing = true
same_port ports.Sql ports.Sql = true
same_port _ _ = false

-- Whether this is a port, and that one.
abbrev pub is_port : Option Port → Port → Bool
is_port None port = false
is_port (Some held) port = same_port held port

-- Whether an event may come. The head is over with the first event that is none of its lines.
abbrev pub may_come : Event → State → Bool
may_come (events.Table line) s = is_none s.session
may_come (events.LimitBytes most) s = is_none s.session && is_none s.bytes_max
may_come (events.Secret port key) s = is_none s.session && is_none (secret_of s.secrets port)
may_come (events.Open number port) s = not (is_among number s.opened) && nat_lt (length (session_of s).conns) 256
may_come (events.Bytes number piece) s = may_send number s
may_come (events.End number) s = may_send number s
may_come (events.Room number count) s = is_some (port_in number s)
may_come (events.Fault number) s = is_some (port_in number s)
may_come (events.Turn port numbers) s = list_all (λ number. is_port (port_in number s) port) numbers
may_come (events.Show db name) s = is_some (table_named s.schema.tables db name)

-- The first rule that a table line breaks, and its token.
abbrev pub breach_of : Result TableDef Breach → Option Flaw
breach_of (Ok table) = None
breach_of (Err breach) = Some (BadTable breach.rule breach.token)

-- The rules that an event breaks: only table lines have some.
abbrev pub broken_by : Event → State → Option Flaw
broken_by (events.Table line) s = breach_of (table_said s.schema.tables line)
broken_by _ s = None

-- Why an event may not come, if it may not.
abbrev pub flaw_of : Event → State → Option Flaw
flaw_of event s = if may_come event s then broken_by event s else Some NoEvent

-- ---- what events do

-- The tables with the one that a line says.
abbrev pub with_table : List TableDef → Result TableDef Breach → List TableDef
with_table tables (Ok table) = tables ++ table ∷ []
with_table tables (Err breach) = tables

-- The secrets with that of a port. The SQL port has none.
abbrev pub with_secret : Secrets → Port → List ℕ → Secrets
with_secret secrets ports.Reading key = record secrets { reading = Some key }
with_secret secrets ports.Writing key = record secrets { writing = Some key }
with_secret secrets ports.Sql key = secrets

-- The session with one more connection.
abbrev pub with_one_more : ℕ → Port → Session → Session
with_one_more number port session = record session { conns = session.conns ++ opened session.secrets number port ∷ [] }

-- The state that an event leaves.
abbrev pub after : Event → State → State
after (events.Table line) s = record s { schema = record { tables = with_table s.schema.tables (table_said s.schema.tables line) } }
after (events.LimitBytes most) s = record s { bytes_max = Some most }
after (events.Secret port key) s = record s { secrets = with_secret s.secrets port key }
after (events.Open number port) s =
    record (with_session s (with_one_more number port (session_of s))) { opened = s.opened ++ number ∷ [] }
after (events.Bytes number piece) s = with_conn number (peer_sent piece) s
after (events.End number) s = with_conn number peer_ended s
after (events.Room number count) s = with_conn number (with_room count) s
after (events.Fault number) s = with_conn number failing_next s
after (events.Turn port numbers) s = with_session s (turn Done numbers (session_of s)).1
after (events.Show db name) s = with_session s (session_of s)

-- What an event prints.
abbrev pub printed : Event → State → List ℕ
printed (events.Turn port numbers) s = (turn Done numbers (session_of s)).0
printed (events.Show db name) s = rows_shown (table_named s.schema.tables db name) (session_of s).database
printed _ s = []

-- ---- a whole script

-- An event, unless it has a flaw.
abbrev pub unless : Option Flaw → Event → Result Event Flaw
unless None event = Ok event
unless (Some flaw) event = Err flaw

-- The event that a line says, where it may come. A line that says none has a flaw too.
abbrev pub placed : State → Option Event → Result Event Flaw
placed s None = Err NoEvent
placed s (Some event) = unless (flaw_of event s) event

-- The event that a line is in a state, or why it is none.
abbrev pub event_in : State → List ℕ → Result Event Flaw
event_in s line = placed s (event_of line)

-- What follows on an event, or on a flaw.
abbrev pub by_event : {A : Type 0} → Result Event Flaw → (Event → A) → (Flaw → A) → A
by_event (Ok event) go stop = go event
by_event (Err flaw) go stop = stop flaw

-- What the lines print, up to the first bad one.
abbrev pub text_from : State → List (List ℕ) → List ℕ
text_from s [] = []
text_from s (line ∷ lines) =
    by_event (event_in s line) (λ event. printed event s ++ text_from (after event s) lines) (λ flaw. [])

-- The line of this number with this flaw.
abbrev pub bad_line : ℕ → Flaw → BadLine
bad_line number flaw = record { number = number; flaw = flaw }

-- A script ends with a whole line. Bytes behind the last one are a bad line.
abbrev pub cut_after : ℕ → List ℕ → Option BadLine
cut_after n rest = if bytes_eq rest [] then None else Some (bad_line (n + 1) NoEvent)

-- The first bad line, after n lines.
abbrev pub bad_line_from : ℕ → State → List (List ℕ) → List ℕ → Option BadLine
bad_line_from n s [] rest = cut_after n rest
bad_line_from n s (line ∷ lines) rest =
    by_event (event_in s line) (λ event. bad_line_from (n + 1) (after event s) lines rest) (λ flaw. Some (bad_line (n + 1) flaw))

-- The most bytes that a script may have.
abbrev pub most_script : ℕ
most_script = 2 ^ 64 - 1

-- The whole lines among these bytes.
abbrev pub script_lines : List ℕ → List (List ℕ)
script_lines bytes = lines_of (take most_script bytes)

-- What stands behind them: a line that has no end, and all bytes beyond the most that a script may have.
abbrev pub script_rest : List ℕ → List ℕ
script_rest bytes = rest_of (take most_script bytes) ++ drop most_script bytes

-- What a script prints, up to its first bad line.
abbrev pub script_text : List ℕ → List ℕ
script_text bytes = text_from start (script_lines bytes)

-- A script's first bad line.
abbrev pub bad_line_of : List ℕ → Option BadLine
bad_line_of bytes = bad_line_from 0 start (script_lines bytes) (script_rest bytes)

-- The first bad one of its whole lines.
abbrev pub bad_whole_line_of : List ℕ → Option BadLine
bad_whole_line_of bytes = bad_line_from 0 start (script_lines bytes) []
