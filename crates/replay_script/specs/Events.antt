-- The event that a line of a script says.
use Rattle.std.specs.Prelude.{ℕ, List, [], ◌∷◌, ◌&&◌, Option, Some, None, Result, Ok, Err, length, nat_le, codes, option_map, option_and_then, if◌then◌else◌}
use Rattle.std.specs.Str.{bytes_eq}
use Rattle.hs_line.specs.declared.limits.TheConstants.{MAX_LINE_LEN}
use Rattle.hs_token.specs.declared.tokens.Token.{Token}
use Rattle.hs_token.specs.declared.tokens.Token.TheVariants.{Text}
use Rattle.hs_token.specs.Number.{u32_of}
use Rattle.hs_token.specs.Reading.{line_at}
use Rattle.replay_script.specs.declared.events.Event.{Event}
use Rattle.replay_script.specs.declared.events.Event.TheVariants.{Table, LimitBytes, Secret, Open, Bytes, End, Room, Fault, Turn, Show}
use Rattle.replay_script.specs.Words.{both, port_of, conns_of}

-- ---- one event each, from the tokens behind its word

-- `bytes <conn> <piece>`: the peer of a connection has sent a piece, which is a text.
abbrev pub bytes_event : List Token → Option Event
bytes_event (Text conn ∷ Text piece ∷ []) = option_map (λ c. Bytes c piece) (u32_of conn)
bytes_event _ = None

-- `turn <port> <conn> ..`: one turn of a port's connections.
abbrev pub turn_event : List Token → Option Event
turn_event (Text port ∷ conns) = both Turn (port_of port) (conns_of conns)
turn_event _ = None

-- `show <db> <table>`: the rows of a table are to be printed.
abbrev pub show_event : List Token → Option Event
show_event (Text db ∷ Text table ∷ []) = Some (Show db table)
show_event _ = None

-- `open <conn> <port>`: a connection on a port.
abbrev pub open_event : List Token → Option Event
open_event (Text conn ∷ Text port ∷ []) = both Open (u32_of conn) (port_of port)
open_event _ = None

-- `end <conn>`: the peer of a connection has ended.
abbrev pub end_event : List Token → Option Event
end_event (Text conn ∷ []) = option_map End (u32_of conn)
end_event _ = None

-- `room <conn> <n>`: a connection takes n more bytes.
abbrev pub room_event : List Token → Option Event
room_event (Text conn ∷ Text n ∷ []) = both Room (u32_of conn) (u32_of n)
room_event _ = None

-- `fault <conn>`: the next call of a connection fails.
abbrev pub fault_event : List Token → Option Event
fault_event (Text conn ∷ []) = option_map Fault (u32_of conn)
fault_event _ = None

-- A limit is 1 to 268,435,456.
abbrev pub limit_of : ℕ → Option Event
limit_of n = if nat_le 1 n && nat_le n 268435456 then Some (LimitBytes n) else None

-- `limit bytes <n>`: the sizes of all rows come to n at most.
abbrev pub limit_event : List Token → Option Event
limit_event (Text what ∷ Text n ∷ []) = if bytes_eq what (codes "bytes") then option_and_then limit_of (u32_of n) else None
limit_event _ = None

-- `secret <port> <key>`: the key of a port, which is a text.
abbrev pub secret_event : List Token → Option Event
secret_event (Text port ∷ Text key ∷ []) = option_map (λ p. Secret p key) (port_of port)
secret_event _ = None

-- ---- by the first word

-- The event of a head line that begins with this word, `table` apart.
abbrev pub head_event : List ℕ → List Token → Option Event
head_event word rest =
    if bytes_eq word (codes "limit") then limit_event rest
    else if bytes_eq word (codes "secret") then secret_event rest
    else None

-- The event of a line that begins with this word: what befalls one connection, or a head line.
abbrev pub rarer_event : List ℕ → List Token → Option Event
rarer_event word rest =
    if bytes_eq word (codes "open") then open_event rest
    else if bytes_eq word (codes "end") then end_event rest
    else if bytes_eq word (codes "room") then room_event rest
    else if bytes_eq word (codes "fault") then fault_event rest
    else head_event word rest

-- The event of a line's tokens, by its first word. A table line is its tokens.
abbrev pub event_of_tokens : List Token → Option Event
event_of_tokens (Text word ∷ rest) =
    if bytes_eq word (codes "bytes") then bytes_event rest
    else if bytes_eq word (codes "turn") then turn_event rest
    else if bytes_eq word (codes "show") then show_event rest
    else if bytes_eq word (codes "table") then Some (Table (Text word ∷ rest))
    else rarer_event word rest
event_of_tokens _ = None

-- The event of what was read of a line: its tokens, or its first bad place.
abbrev pub event_read : Result (List Token) ℕ → Option Event
event_read (Ok tokens) = event_of_tokens tokens
event_read (Err place) = None

-- The event that a line says, if it is one. A line that is too long says none.
abbrev pub event_of : List ℕ → Option Event
event_of line = if nat_le (length line) MAX_LINE_LEN then event_read (line_at line) else None
