-- Tokens as words and numbers, and the next tokens of a line.
use Rattle.std.specs.Prelude.{ℕ, ℤ, List, [], ◌∷◌, length, take, drop, Option, None, Result, Ok, Err, Bool, false, nat_eq, nat_lt, if◌then◌else◌}
use Rattle.std.specs.Cmp.Lexicographic.{pointwise}
use Rattle.hs_token.specs.declared.tokens.Token.{Token}
use Rattle.hs_token.specs.declared.tokens.Token.TheVariants.{Null, Text}
use Rattle.hs_token.specs.Number.{u32_of, i64_of}
use Rattle.request_types.specs.declared.codes.Code.{Code}
use Rattle.request_types.specs.declared.codes.Code.TheVariants.{Args}
use Rattle.request_types.specs.Refusal.{◌>>=◌, or_refuse}

-- Whether a token is this text.
abbrev pub is_word : List ℕ → Token → Bool
is_word word Null = false
is_word word (Text text) = pointwise nat_eq text word

-- The number below 2^32 that a token writes.
abbrev pub u32_at : Token → Option ℕ
u32_at Null = None
u32_at (Text text) = u32_of text

-- The integer of 64 bits that a token writes.
abbrev pub i64_at : Token → Option ℤ
i64_at Null = None
i64_at (Text text) = i64_of text

-- The next token is a number.
unfoldable pub number_at : List Token → Result (ℕ × List Token) Code
number_at [] = Err Args
number_at (t ∷ ts) = or_refuse Args (u32_at t) >>= λ n. Ok (n, ts)

-- The next so many tokens.
unfoldable pub front_at : ℕ → List Token → Result (List Token × List Token) Code
front_at n ts = if nat_lt (length ts) n then Err Args else Ok (take n ts, drop n ts)
