-- What a find answers.
use Rattle.std.specs.Prelude.{ℕ, List, [], ◌∷◌, ◌++◌, length, map}
use Rattle.std.specs.Fmt.{signed_decimal}
use Rattle.hs_token.specs.declared.tokens.Token.{Token}
use Rattle.hs_token.specs.declared.tokens.Token.TheVariants as tokens
use Rattle.hs_token.specs.Spelling.{reply_line}
use Rattle.row_types.specs.declared.values.Value.{Value}
use Rattle.row_types.specs.declared.values.Value.TheVariants.{Null, Int, Text}
use Rattle.table_rows.specs.Entries.{cell_at}

-- The token of a cell: an integer in its printed form, a text as it is.
abbrev pub cell_token : Value → Token
cell_token Null = tokens.Null
cell_token (Int n) = tokens.Text (signed_decimal n)
cell_token (Text t) = tokens.Text t

-- The tokens of a row's cells at these columns.
abbrev pub row_tokens : List ℕ → List Value → List Token
row_tokens columns row = map (λ c. cell_token (cell_at row c)) columns

-- Those of several rows, row after row.
abbrev pub rows_tokens : List ℕ → List (List Value) → List Token
rows_tokens columns [] = []
rows_tokens columns (row ∷ rows) = row_tokens columns row ++ rows_tokens columns rows

-- The code 0, the number of columns, and the cells.
abbrev pub find_reply : List ℕ → List (List Value) → List ℕ
find_reply columns rows = reply_line 0 (length columns) (rows_tokens columns rows)

-- The most bytes that a reply may have, its LF with them.
abbrev pub most_reply : ℕ
most_reply = 16777216
