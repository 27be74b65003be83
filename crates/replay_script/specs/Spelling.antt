-- Which events a script may have, and the line of each.
use Rattle.std.specs.Prelude.{◌≡◌, ◌≢◌, ℕ, ◌<◌, ◌≤◌, ◌^◌, List, [], ◌∷◌, true, codes, decimal, map}
use Rattle.std.specs.List.{AllByRecursion}
use Rattle.hs_token.specs.declared.tokens.Token.{Token}
use Rattle.hs_token.specs.declared.tokens.Token.TheVariants.{Text}
use Rattle.request_types.specs.declared.ports.Port.{Port}
use Rattle.request_types.specs.declared.ports.Port.TheVariants.{Reading, Writing, Sql}
use Rattle.replay_script.specs.declared.events.Event.{Event}
use Rattle.replay_script.specs.declared.events.Event.TheVariants.{Table, LimitBytes, Secret, Open, Bytes, End, Room, Fault, Turn, Show}
use Rattle.replay_script.specs.Words.{are_conns}

-- A number has 32 bits.
abbrev pub IsNumber : ℕ → Type 0
IsNumber n = n < 2 ^ 32

-- A port is one of those that words name.
abbrev pub IsNamed : Port → Type 0
IsNamed port = port ≢ Sql

-- What an event may hold: texts of any bytes, and numbers, ports and connections as the script's rules have them.
abbrev pub IsEvent : Event → Type 0
IsEvent (Table tokens) = (rest : List Token) × (tokens ≡ Text (codes "table") ∷ rest)
IsEvent (LimitBytes n) = (1 ≤ n) × (n ≤ 268435456)
IsEvent (Secret port key) = IsNamed port
IsEvent (Open conn port) = IsNumber conn × IsNamed port
IsEvent (Bytes conn piece) = IsNumber conn
IsEvent (End conn) = IsNumber conn
IsEvent (Room conn n) = IsNumber conn × IsNumber n
IsEvent (Fault conn) = IsNumber conn
IsEvent (Turn port conns) = IsNamed port × AllByRecursion IsNumber conns × (are_conns conns ≡ true)
IsEvent (Show db table) = Unit {0}

-- The word of a port.
abbrev pub port_word : Port → List ℕ
port_word Reading = codes "r"
port_word Writing = codes "w"
port_word Sql = codes "s"

-- A number, as a token.
abbrev pub number : ℕ → Token
number n = Text (decimal n)

-- The tokens of an event's line.
abbrev pub tokens_of : Event → List Token
tokens_of (Table tokens) = tokens
tokens_of (LimitBytes n) = Text (codes "limit") ∷ Text (codes "bytes") ∷ number n ∷ []
tokens_of (Secret port key) = Text (codes "secret") ∷ Text (port_word port) ∷ Text key ∷ []
tokens_of (Open conn port) = Text (codes "open") ∷ number conn ∷ Text (port_word port) ∷ []
tokens_of (Bytes conn piece) = Text (codes "bytes") ∷ number conn ∷ Text piece ∷ []
tokens_of (End conn) = Text (codes "end") ∷ number conn ∷ []
tokens_of (Room conn n) = Text (codes "room") ∷ number conn ∷ number n ∷ []
tokens_of (Fault conn) = Text (codes "fault") ∷ number conn ∷ []
tokens_of (Turn port conns) = Text (codes "turn") ∷ Text (port_word port) ∷ map number conns
tokens_of (Show db table) = Text (codes "show") ∷ Text db ∷ Text table ∷ []
