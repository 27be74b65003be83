-- The one spelling of each token, of a line of tokens and of a reply.
use Rattle.std.specs.Prelude.{ℕ, ◌+◌, ◌<◌, List, [], ◌∷◌, ◌++◌, nat_le, decimal, if◌then◌else◌}
use Rattle.std.specs.List.{AllByRecursion}
use Rattle.hs_token.specs.declared.tokens.Token.{Token}
use Rattle.hs_token.specs.declared.tokens.Token.TheVariants.{Null, Text}

-- A byte from 0x10 on is itself; a byte below 0x10 is 0x01, then the byte and 0x40.
abbrev pub byte_spelled : ℕ → List ℕ
byte_spelled b = if nat_le 16 b then b ∷ [] else 1 ∷ (b + 64) ∷ []

-- A text is its bytes in order.
abbrev pub text_spelled : List ℕ → List ℕ
text_spelled [] = []
text_spelled (b ∷ bs) = byte_spelled b ++ text_spelled bs

-- NULL is the byte 0x00, which begins no text.
abbrev pub token_spelled : Token → List ℕ
token_spelled Null = 0 ∷ []
token_spelled (Text bytes) = text_spelled bytes

-- A line is the tokens with one HT between neighbours.
abbrev pub line_spelled : List Token → List ℕ
line_spelled [] = []
line_spelled (t ∷ []) = token_spelled t
line_spelled (t ∷ u ∷ ts) = token_spelled t ++ 9 ∷ line_spelled (u ∷ ts)

-- Each token with an HT in front, as in a line the tokens behind the first one are.
abbrev pub behind_tabs : List Token → List ℕ
behind_tabs [] = []
behind_tabs (t ∷ ts) = 9 ∷ token_spelled t ++ behind_tabs ts

-- A reply begins with the code, HT and the number of columns.
abbrev pub reply_head : ℕ → ℕ → List ℕ
reply_head code columns = decimal code ++ 9 ∷ decimal columns

-- A reply is a line of the code, the number of columns and the tokens, with its LF.
abbrev pub reply_line : ℕ → ℕ → List Token → List ℕ
reply_line code columns tokens =
    line_spelled (Text (decimal code) ∷ Text (decimal columns) ∷ tokens) ++ 10 ∷ []

-- A text is of bytes.
abbrev pub IsToken : Token → Type 0
IsToken Null = Unit {0}
IsToken (Text bytes) = AllByRecursion (λ b. b < 256) bytes
