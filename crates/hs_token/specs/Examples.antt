-- A row written out, as a find answers it.
use Rattle.std.specs.Prelude.{ℕ, List, [], ◌∷◌}
use Rattle.hs_token.specs.declared.tokens.Token.{Token}
use Rattle.hs_token.specs.declared.tokens.Token.TheVariants.{Null, Text}

-- A text of one digit or letter.
abbrev one : ℕ → Token
one b = Text (b ∷ [])

-- The code 0, three columns, and the rows (2, 00 09 0A 0F 41, 7), (3, NULL, 8) and (4, the empty
-- text, 9).
abbrev pub long_row : List Token
long_row =
    one 48 ∷ one 51 ∷ one 50 ∷ Text (0 ∷ 9 ∷ 10 ∷ 15 ∷ 65 ∷ []) ∷ one 55
    ∷ one 51 ∷ Null ∷ one 56 ∷ one 52 ∷ Text [] ∷ one 57 ∷ []

-- The same as bytes: 30 09 33 09 32 09 0140 0149 014A 014F 41 09 37 09 33 09 00 09 38 09 34 09 09
-- 39.
abbrev pub long_row_bytes : List ℕ
long_row_bytes =
    48 ∷ 9 ∷ 51 ∷ 9 ∷ 50 ∷ 9 ∷ 1 ∷ 64 ∷ 1 ∷ 73 ∷ 1 ∷ 74 ∷ 1 ∷ 79 ∷ 65 ∷ 9 ∷ 55
    ∷ 9 ∷ 51 ∷ 9 ∷ 0 ∷ 9 ∷ 56 ∷ 9 ∷ 52 ∷ 9 ∷ 9 ∷ 57 ∷ []
