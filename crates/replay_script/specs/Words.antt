-- What the tokens behind the first word of a line name: ports, numbers and connections.
use Rattle.std.specs.Prelude.{ℕ, List, [], ◌∷◌, Bool, false, Option, Some, None, nat_eq, codes, option_map, option_and_then, if◌then◌else◌}
use Rattle.std.specs.Str.{bytes_eq}
use Rattle.hs_token.specs.declared.tokens.Token.{Token}
use Rattle.hs_token.specs.declared.tokens.Token.TheVariants as tokens
use Rattle.hs_token.specs.Number.{u32_of}
use Rattle.request_types.specs.declared.ports.Port.{Port}
use Rattle.request_types.specs.declared.ports.Port.TheVariants.{Reading, Writing}
use Rattle.row_types.specs.Valid.{are_distinct}

-- What is made of two things, where both are there.
abbrev pub both : {A B C : Type 0} → (A → B → C) → Option A → Option B → Option C
both make a b = option_and_then (λ x. option_map (make x) b) a

-- `r` is the reading port and `w` the writing one.
abbrev pub port_of : List ℕ → Option Port
port_of word =
    if bytes_eq word (codes "r") then Some Reading
    else if bytes_eq word (codes "w") then Some Writing
    else None

-- The numbers that tokens write, where each is a text that writes one.
abbrev pub numbers_of : List Token → Option (List ℕ)
numbers_of [] = Some []
numbers_of (tokens.Null ∷ rest) = None
numbers_of (tokens.Text text ∷ rest) = both (λ number numbers. number ∷ numbers) (u32_of text) (numbers_of rest)

-- One number at least, and none twice.
abbrev pub are_conns : List ℕ → Bool
are_conns [] = false
are_conns (conn ∷ conns) = are_distinct nat_eq (conn ∷ conns)

-- The connections that tokens number: one at least, and none twice.
abbrev pub conns_of : List Token → Option (List ℕ)
conns_of tokens = option_and_then (λ conns. if are_conns conns then Some conns else None) (numbers_of tokens)
