-- What the line of an event says is that event.
use Rattle.std.proofs.Common.{◌≡◌, ◌≢◌, ℕ, ◌≤◌, List, [], ◌∷◌, length, map, Some, refl, arith}
use Rattle.std.specs.List.{AllByRecursion}
use Rattle.std.proofs.lemmas.Bool.{le-leb}
use Rattle.hs_line.specs.declared.limits.TheConstants.{MAX_LINE_LEN}
use Rattle.hs_token.specs.Spelling.{line_spelled}
use Rattle.hs_token.proofs.LineLemmas.{line_again}
use Rattle.hs_token.proofs.NumberLemmas.{printed_u32}
use Rattle.request_types.specs.declared.ports.Port.{Port}
use Rattle.request_types.specs.declared.ports.Port.TheVariants.{Reading, Writing, Sql}
use Rattle.replay_script.specs.declared.events.Event.{Event}
use Rattle.replay_script.specs.declared.events.Event.TheVariants.{Table, LimitBytes, Secret, Open, Bytes, End, Room, Fault, Turn, Show}
use Rattle.replay_script.specs.Words.{port_of, numbers_of}
use Rattle.replay_script.specs.Events.{event_of_tokens, event_of}
use Rattle.replay_script.specs.Spelling.{IsNumber, IsNamed, IsEvent, port_word, number, tokens_of}

port_again : (port : Port) → IsNamed port → port_of (port_word port) ≡ Some port
port_again Reading named = refl
port_again Writing named = refl
port_again Sql named = absurd (named refl)

numbers_again : (conns : List ℕ) → AllByRecursion IsNumber conns → numbers_of (map number conns) ≡ Some conns
numbers_again [] all = refl
numbers_again (conn ∷ conns) all = rw (printed_u32 conn all.0, numbers_again conns all.1) refl

tokens_again : (event : Event) → IsEvent event → event_of_tokens (tokens_of event) ≡ Some event
tokens_again (Table tokens) is = rw is.1 refl
tokens_again (LimitBytes n) is = rw (printed_u32 n (omega (arith, is.1)), le-leb 1 n is.0, le-leb n 268435456 is.1) refl
tokens_again (Secret port key) is = rw (port_again port is) refl
tokens_again (Open conn port) is = rw (printed_u32 conn is.0, port_again port is.1) refl
tokens_again (Bytes conn piece) is = rw (printed_u32 conn is) refl
tokens_again (End conn) is = rw (printed_u32 conn is) refl
tokens_again (Room conn n) is = rw (printed_u32 conn is.0, printed_u32 n is.1) refl
tokens_again (Fault conn) is = rw (printed_u32 conn is) refl
tokens_again (Turn port conns) is = rw (port_again port is.0, numbers_again conns is.1, is.2) refl
tokens_again (Show db table) is = refl

some_tokens : (event : Event) → IsEvent event → tokens_of event ≢ []
some_tokens (Table tokens) is e = let same = is.1 in absurd cc
some_tokens (LimitBytes n) is e = absurd cc
some_tokens (Secret port key) is e = absurd cc
some_tokens (Open conn port) is e = absurd cc
some_tokens (Bytes conn piece) is e = absurd cc
some_tokens (End conn) is e = absurd cc
some_tokens (Room conn n) is e = absurd cc
some_tokens (Fault conn) is e = absurd cc
some_tokens (Turn port conns) is e = absurd cc
some_tokens (Show db table) is e = absurd cc

-- the line of an event is read as that event, where it isn't too long
pub event_again : (event : Event) → IsEvent event → length (line_spelled (tokens_of event)) ≤ MAX_LINE_LEN → event_of (line_spelled (tokens_of event)) ≡ Some event
event_again event is short = rw (le-leb (length (line_spelled (tokens_of event))) MAX_LINE_LEN short, line_again (tokens_of event) (some_tokens event is)) (tokens_again event is)
