-- The replies that show no rows.
use Rattle.std.specs.Prelude.{ℕ, ◌==◌, List, [], ◌∷◌, decimal, ℤ, Option, Some, None, if◌then◌else◌}
use Rattle.std.specs.Fmt.{signed_decimal}
use Rattle.request_types.specs.Code.{text_of}
use Rattle.hs_token.specs.declared.tokens.Token.TheVariants.{Text}
use Rattle.hs_token.specs.Spelling.{reply_line}

-- The reply that is a code alone: 0 is success, and any other stands beside its text.
abbrev pub code_reply : ℕ → List ℕ
code_reply code = if code == 0 then reply_line 0 1 [] else reply_line code 1 (Text (text_of code) ∷ [])

-- The reply to a change that shows no rows: how many were changed.
abbrev pub count_reply : ℕ → List ℕ
count_reply count = reply_line 0 1 (Text (decimal count) ∷ [])

-- The reply to an insert: the number that it drew, if it drew one.
abbrev pub insert_reply : Option ℤ → List ℕ
insert_reply None = code_reply 0
insert_reply (Some number) = reply_line 0 1 (Text (signed_decimal number) ∷ [])

-- The code of a reply that would have too many bytes.
abbrev pub big : ℕ
big = 20
