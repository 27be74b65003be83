-- What a line says is an event that a script may have.
use Rattle.std.proofs.Common.{◌≡◌, ℕ, Bool, true, false, cond, List, [], ◌∷◌, length, Option, Some, None, Result, Ok, Err, ap}
use Rattle.std.specs.Prelude.{codes, option_map, option_and_then, nat_lt, nat_le, ◌&&◌, ◌^◌}
use Rattle.std.specs.Option.{IfSome}
use Rattle.std.specs.List.{AllByRecursion}
use Rattle.std.specs.Str.{bytes_eq}
use Rattle.std.specs.Str.Parse.{digits_value}
use Rattle.std.proofs.lemmas.Bool.{cond_both, ltb-true, leb-true, and_parts}
use Rattle.std.proofs.lemmas.Slice.Eq.{bytes_eq-Decides}
use Rattle.hs_line.specs.declared.limits.TheConstants.{MAX_LINE_LEN}
use Rattle.hs_token.specs.declared.tokens.Token.{Token}
use Rattle.hs_token.specs.declared.tokens.Token.TheVariants.{Null, Text}
use Rattle.hs_token.specs.Number.{is_number, u32_of}
use Rattle.hs_token.specs.Reading.{line_at}
use Rattle.request_types.specs.declared.ports.Port.TheVariants.{Reading, Writing}
use Rattle.replay_script.specs.declared.events.Event.{Event}
use Rattle.replay_script.specs.declared.events.Event.TheVariants.{Table, LimitBytes, Secret, Open, Bytes, End, Room, Fault, Turn}
use Rattle.replay_script.specs.Words.{both, port_of, numbers_of, are_conns, conns_of}
use Rattle.replay_script.specs.Events.{bytes_event, turn_event, show_event, open_event, end_event, room_event, fault_event, limit_of, limit_event, secret_event, head_event, rarer_event, event_of_tokens, event_read, event_of}
use Rattle.replay_script.specs.Spelling.{IsNumber, IsNamed, IsEvent}

-- ---- what is made of parts that fit fits

made : {A B : Type 0} (P : A → Type 0) (Q : B → Type 0) (make : A → B) (a : Option A) → IfSome a P → ((x : A) → P x → Q (make x)) → IfSome (option_map make a) Q
made P Q make None p fits = tt
made P Q make (Some x) p fits = fits x p

made_of_two : {A B C : Type 0} (P : A → Type 0) (Q : B → Type 0) (R : C → Type 0) (make : A → B → C) (a : Option A) (b : Option B)
    → IfSome a P → IfSome b Q → ((x : A) (y : B) → P x → Q y → R (make x y)) → IfSome (both make a b) R
made_of_two P Q R make None b p q fits = tt
made_of_two P Q R make (Some x) None p q fits = tt
made_of_two P Q R make (Some x) (Some y) p q fits = fits x y p q

-- an event that fits, where there is one
abbrev Fits : Option Event → Type 0
Fits event = IfSome event IsEvent

either : (b : Bool) (x y : Option Event) → Fits x → Fits y → Fits (cond b x y)
either true x y p q = p
either false x y p q = q

-- ---- numbers, ports and connections

number_fits : (text : List ℕ) → IfSome (u32_of text) IsNumber
number_fits text =
    let value = digits_value 10 text in
    let low = nat_lt value (2 ^ 32) in
    cond_both (is_number text && low) (Some value) None (λ n. IfSome n IsNumber) (λ yes. ltb-true value (2 ^ 32) (and_parts (is_number text) low yes).1) (λ no. tt)

port_fits : (word : List ℕ) → IfSome (port_of word) IsNamed
port_fits word = letter (bytes_eq word (codes "r")) (bytes_eq word (codes "w")) where
  letter : (r w : Bool) → IfSome (cond r (Some Reading) (cond w (Some Writing) None)) IsNamed
  letter true w = λ e. absurd cc
  letter false true = λ e. absurd cc
  letter false false = tt

numbers_fit : (tokens : List Token) → IfSome (numbers_of tokens) (AllByRecursion IsNumber)
numbers_fit [] = tt
numbers_fit (Null ∷ rest) = tt
numbers_fit (Text text ∷ rest) =
    made_of_two IsNumber (AllByRecursion IsNumber) (AllByRecursion IsNumber) (λ number numbers. number ∷ numbers) (u32_of text) (numbers_of rest) (number_fits text) (numbers_fit rest) (λ x y p q. (p, q))

-- the connections of a turn
abbrev AreConns : List ℕ → Type 0
AreConns conns = AllByRecursion IsNumber conns × (are_conns conns ≡ true)

conns_fit : (tokens : List Token) → IfSome (conns_of tokens) AreConns
conns_fit tokens = checked (numbers_of tokens) (numbers_fit tokens) where
  checked : (numbers : Option (List ℕ)) → IfSome numbers (AllByRecursion IsNumber) → IfSome (option_and_then (λ conns. cond (are_conns conns) (Some conns) None) numbers) AreConns
  checked None fit = tt
  checked (Some conns) fit = cond_both (are_conns conns) (Some conns) None (λ o. IfSome o AreConns) (λ yes. (fit, yes)) (λ no. tt)

-- ---- one event each

bytes_fits : (rest : List Token) → Fits (bytes_event rest)
bytes_fits [] = tt
bytes_fits (Null ∷ rest) = tt
bytes_fits (Text conn ∷ []) = tt
bytes_fits (Text conn ∷ Null ∷ rest) = tt
bytes_fits (Text conn ∷ Text piece ∷ []) = made IsNumber IsEvent (λ c. Bytes c piece) (u32_of conn) (number_fits conn) (λ c p. p)
bytes_fits (Text conn ∷ Text piece ∷ more ∷ rest) = tt

turn_fits : (rest : List Token) → Fits (turn_event rest)
turn_fits [] = tt
turn_fits (Null ∷ rest) = tt
turn_fits (Text port ∷ conns) = made_of_two IsNamed AreConns IsEvent Turn (port_of port) (conns_of conns) (port_fits port) (conns_fit conns) (λ x y p q. (p, q.0, q.1))

show_fits : (rest : List Token) → Fits (show_event rest)
show_fits [] = tt
show_fits (Null ∷ rest) = tt
show_fits (Text db ∷ []) = tt
show_fits (Text db ∷ Null ∷ rest) = tt
show_fits (Text db ∷ Text table ∷ []) = tt
show_fits (Text db ∷ Text table ∷ more ∷ rest) = tt

open_fits : (rest : List Token) → Fits (open_event rest)
open_fits [] = tt
open_fits (Null ∷ rest) = tt
open_fits (Text conn ∷ []) = tt
open_fits (Text conn ∷ Null ∷ rest) = tt
open_fits (Text conn ∷ Text port ∷ []) = made_of_two IsNumber IsNamed IsEvent Open (u32_of conn) (port_of port) (number_fits conn) (port_fits port) (λ x y p q. (p, q))
open_fits (Text conn ∷ Text port ∷ more ∷ rest) = tt

end_fits : (rest : List Token) → Fits (end_event rest)
end_fits [] = tt
end_fits (Null ∷ rest) = tt
end_fits (Text conn ∷ []) = made IsNumber IsEvent End (u32_of conn) (number_fits conn) (λ c p. p)
end_fits (Text conn ∷ more ∷ rest) = tt

room_fits : (rest : List Token) → Fits (room_event rest)
room_fits [] = tt
room_fits (Null ∷ rest) = tt
room_fits (Text conn ∷ []) = tt
room_fits (Text conn ∷ Null ∷ rest) = tt
room_fits (Text conn ∷ Text n ∷ []) = made_of_two IsNumber IsNumber IsEvent Room (u32_of conn) (u32_of n) (number_fits conn) (number_fits n) (λ x y p q. (p, q))
room_fits (Text conn ∷ Text n ∷ more ∷ rest) = tt

fault_fits : (rest : List Token) → Fits (fault_event rest)
fault_fits [] = tt
fault_fits (Null ∷ rest) = tt
fault_fits (Text conn ∷ []) = made IsNumber IsEvent Fault (u32_of conn) (number_fits conn) (λ c p. p)
fault_fits (Text conn ∷ more ∷ rest) = tt

limit_fits : (n : Option ℕ) → Fits (option_and_then limit_of n)
limit_fits None = tt
limit_fits (Some n) =
    let low = nat_le 1 n in
    let high = nat_le n 268435456 in
    cond_both (low && high) (Some (LimitBytes n)) None Fits (λ yes. (leb-true 1 n (and_parts low high yes).0, leb-true n 268435456 (and_parts low high yes).1)) (λ no. tt)

limit_line_fits : (rest : List Token) → Fits (limit_event rest)
limit_line_fits [] = tt
limit_line_fits (Null ∷ rest) = tt
limit_line_fits (Text what ∷ []) = tt
limit_line_fits (Text what ∷ Null ∷ rest) = tt
limit_line_fits (Text what ∷ Text n ∷ []) = either (bytes_eq what (codes "bytes")) (option_and_then limit_of (u32_of n)) None (limit_fits (u32_of n)) tt
limit_line_fits (Text what ∷ Text n ∷ more ∷ rest) = tt

secret_fits : (rest : List Token) → Fits (secret_event rest)
secret_fits [] = tt
secret_fits (Null ∷ rest) = tt
secret_fits (Text port ∷ []) = tt
secret_fits (Text port ∷ Null ∷ rest) = tt
secret_fits (Text port ∷ Text key ∷ []) = made IsNamed IsEvent (λ p. Secret p key) (port_of port) (port_fits port) (λ p named. named)
secret_fits (Text port ∷ Text key ∷ more ∷ rest) = tt

-- ---- by the first word

head_fits : (word : List ℕ) (rest : List Token) → Fits (head_event word rest)
head_fits word rest =
    let is_secret = bytes_eq word (codes "secret") in
    either (bytes_eq word (codes "limit")) (limit_event rest) (cond is_secret (secret_event rest) None) (limit_line_fits rest)
    (either is_secret (secret_event rest) None (secret_fits rest) tt)

rarer_fits : (word : List ℕ) (rest : List Token) → Fits (rarer_event word rest)
rarer_fits word rest =
    let is_end = bytes_eq word (codes "end") in
    let is_room = bytes_eq word (codes "room") in
    let is_fault = bytes_eq word (codes "fault") in
    let from_fault = cond is_fault (fault_event rest) (head_event word rest) in
    let from_room = cond is_room (room_event rest) from_fault in
    let from_end = cond is_end (end_event rest) from_room in
    either (bytes_eq word (codes "open")) (open_event rest) from_end (open_fits rest)
    (either is_end (end_event rest) from_room (end_fits rest)
    (either is_room (room_event rest) from_fault (room_fits rest)
    (either is_fault (fault_event rest) (head_event word rest) (fault_fits rest) (head_fits word rest))))

table_or_rarer : (word : List ℕ) (rest : List Token) → Fits (cond (bytes_eq word (codes "table")) (Some (Table (Text word ∷ rest))) (rarer_event word rest))
table_or_rarer word rest =
    cond_both (bytes_eq word (codes "table")) (Some (Table (Text word ∷ rest))) (rarer_event word rest) Fits
    (λ yes. (rest, ap (λ (w : List ℕ). Text w ∷ rest) ((bytes_eq-Decides word (codes "table")).0 yes))) (λ no. rarer_fits word rest)

tokens_fit : (tokens : List Token) → Fits (event_of_tokens tokens)
tokens_fit [] = tt
tokens_fit (Null ∷ rest) = tt
tokens_fit (Text word ∷ rest) =
    let is_turn = bytes_eq word (codes "turn") in
    let is_show = bytes_eq word (codes "show") in
    let from_table = cond (bytes_eq word (codes "table")) (Some (Table (Text word ∷ rest))) (rarer_event word rest) in
    let from_show = cond is_show (show_event rest) from_table in
    let from_turn = cond is_turn (turn_event rest) from_show in
    either (bytes_eq word (codes "bytes")) (bytes_event rest) from_turn (bytes_fits rest)
    (either is_turn (turn_event rest) from_show (turn_fits rest)
    (either is_show (show_event rest) from_table (show_fits rest) (table_or_rarer word rest)))

read_fits : (read : Result (List Token) ℕ) → Fits (event_read read)
read_fits (Ok tokens) = tokens_fit tokens
read_fits (Err place) = tt

-- what a line says is an event that a script may have
pub said_fits : (line : List ℕ) → IfSome (event_of line) IsEvent
said_fits line = either (nat_le (length line) MAX_LINE_LEN) (event_read (line_at line)) None (read_fits (line_at line)) tt
