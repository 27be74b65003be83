-- Tokens. At each place the longest one is read.
use Rattle.std.specs.Prelude.{ℕ, ◌+◌, Bool, ◌&&◌, ◌||◌, ◌==◌, if◌then◌else◌, List, [], ◌∷◌, take, drop, map, slice_index, Option, Some, None}
use Rattle.std.specs.Char.{is_ascii_digit, is_ascii_alphabetic, is_ascii_alphanumeric}
use Rattle.std.specs.List.{prefix_len}
use Rattle.std.specs.Str.{str_eq_ignore_ascii_case}
use denote.Enum.Bare.{sameb}
use Rattle.sql_parse.specs.contracts.token_kinds.TokenKind.{the_type}
use Rattle.sql_parse.specs.declared.token_kinds.TokenKind.{TokenKind}
use Rattle.sql_parse.specs.declared.token_kinds.TokenKind.TheVariants.{Name, Quoted, Number, Text, Hex, Open, Close, Comma, Semicolon, Dot, Star, Plus, Minus, Equal, NotEqual, Less, LessEqual, Greater, GreaterEqual, End, Bad}
use Rattle.sql_parse.specs.declared.token_kinds.TheConstants.{KEYWORDS}
use Rattle.sql_parse.specs.declared.quotes.Within.TheVariants.{Bytes}
use Rattle.sql_parse.specs.Strings.{closing, hex_closing}

-- A kind, and the number of bytes that spell it.
abbrev pub Token : Type 0
Token = TokenKind × ℕ

-- Nothing that is spelled so is a token.
abbrev pub bad : Token
bad = (Bad, 0)

-- A blank, a tab or a carriage return.
abbrev pub is_blank : ℕ → Bool
is_blank b = b == 32 || b == 9 || b == 13

-- A word begins with an ASCII letter or `_`.
abbrev pub is_word_start : ℕ → Bool
is_word_start b = is_ascii_alphabetic b || b == 95

-- Letters, digits and `_` follow.
abbrev pub is_word_byte : ℕ → Bool
is_word_byte b = is_ascii_alphanumeric b || b == 95

-- The text behind its white space.
abbrev pub skip : List ℕ → List ℕ
skip z = drop (prefix_len is_blank z) z

-- The keyword that a word is but for ASCII case; one that is none is a name.
abbrev pub among : List (List ℕ × TokenKind) → List ℕ → TokenKind
among [] word = Name
among (k ∷ ks) word = if str_eq_ignore_ascii_case k.0 word then k.1 else among ks word

unfoldable pub keyword : List ℕ → TokenKind
keyword = among (map (λ k. (k.0.now, k.1)) KEYWORDS)

-- A token of this kind that is so long, if there is one.
abbrev pub of_len : TokenKind → Option ℕ → Token
of_len kind None = bad
of_len kind (Some n) = (kind, n)

-- Whether a text begins with `X'` or `x'`.
abbrev pub begins_hex : List ℕ → Bool
begins_hex z = (slice_index z 0 == 120 || slice_index z 0 == 88) && slice_index z 1 == 39

-- A keyword, a name, or a string of hexadecimal digits.
abbrev pub word_at : List ℕ → Token
word_at z =
    let n = prefix_len is_word_byte z in
    if begins_hex z then of_len Hex (hex_closing 2 (drop 2 z)) else (keyword (take n z), n)

-- Digits, which neither a letter nor `_` follows.
abbrev pub number_at : List ℕ → Token
number_at z =
    let n = prefix_len is_ascii_digit z in
    if is_word_byte (slice_index z n) then bad else (Number, n)

-- A word between backquotes.
abbrev pub quoted_at : List ℕ → Token
quoted_at z =
    let n = prefix_len is_word_byte (drop 1 z) in
    if is_word_start (slice_index z 1) && slice_index z (n + 1) == 96 then (Quoted, n + 2)
    else bad

-- A string between quotes.
abbrev pub string_at : List ℕ → Token
string_at z = of_len Text (closing Bytes 1 (drop 1 z))

-- A symbol of one byte.
abbrev pub single : ℕ → Token
single b =
    if b == 40 then (Open, 1)
    else (if b == 41 then (Close, 1)
    else (if b == 44 then (Comma, 1)
    else (if b == 59 then (Semicolon, 1)
    else (if b == 46 then (Dot, 1)
    else (if b == 42 then (Star, 1)
    else (if b == 43 then (Plus, 1)
    else (if b == 45 then (Minus, 1)
    else (if b == 61 then (Equal, 1)
    else (if b == 60 then (Less, 1)
    else (if b == 62 then (Greater, 1) else bad))))))))))

-- One of two bytes comes before one of one.
abbrev pub symbol_at : ℕ → ℕ → Token
symbol_at b c =
    if b == 60 && c == 62 then (NotEqual, 2)
    else (if b == 33 && c == 61 then (NotEqual, 2)
    else (if b == 60 && c == 61 then (LessEqual, 2)
    else (if b == 62 && c == 61 then (GreaterEqual, 2) else single b)))

-- The token that a text begins with, which has no white space in front. Behind the end a byte reads
-- as 0, which no token has.
unfoldable pub token : List ℕ → Token
token [] = (End, 0)
token (b ∷ z) =
    if is_word_start b then word_at (b ∷ z)
    else (if is_ascii_digit b then number_at (b ∷ z)
    else (if b == 96 then quoted_at (b ∷ z)
    else (if b == 39 then string_at (b ∷ z) else symbol_at b (slice_index (b ∷ z) 1))))

-- Whether two kinds are the same.
unfoldable pub same_kind : TokenKind → TokenKind → Bool
same_kind = sameb the_type
