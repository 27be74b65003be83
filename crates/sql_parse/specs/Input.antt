-- What is read from, and the steps that every rule is made of.
use Rattle.std.specs.Prelude.{◌≡◌, ℕ, zero, suc, if◌then◌else◌, Bool, List, [], ◌∷◌, ◌++◌, length, take, drop, Option, Some, None, Result, Ok, Err, ⊤}
use Rattle.sql_parse.specs.declared.token_kinds.TokenKind.{TokenKind}
use Rattle.sql_parse.specs.declared.token_kinds.TokenKind.TheVariants.{Comma}
use Rattle.sql_parse.specs.declared.faults.Unread.{Unread}
use Rattle.sql_parse.specs.declared.faults.Unread.TheVariants.{Syntax, NoMemory}
use Rattle.sql_parse.specs.Lex.{token, skip, same_kind}

-- The line from its next token on.
abbrev pub Input : Type 0
Input = List ℕ

-- What is read, and the line behind it; or nothing, where the line says no such thing.
abbrev pub Outcome : Type 0 → Type 0
Outcome A = Option (A × Input)

abbrev pub Parser : Type 0 → Type 0
Parser A = Input → Outcome A

abbrev pub and_then : {A B : Type 0} → Outcome A → (A → Parser B) → Outcome B
and_then (Some p) f = f p.0 p.1
and_then None f = None

infixl 10 ◌>>=◌
abbrev pub ◌>>=◌ : {A B : Type 0} → Parser A → (A → Parser B) → Parser B
p >>= f = λ i. and_then (p i) f

infixl 10 ◌>>◌
abbrev pub ◌>>◌ : {A B : Type 0} → Parser A → Parser B → Parser B
p >> q = p >>= (λ _. q)

abbrev pub pure : {A : Type 0} → A → Parser A
pure a = λ i. Some (a, i)

abbrev pub refuse : {A : Type 0} → Parser A
refuse = λ i. None

-- What takes no token, if there is such a thing.
abbrev pub lift : {A : Type 0} → Option A → Parser A
lift None = refuse
lift (Some a) = pure a

-- ---- the next token

unfoldable pub kind : Input → TokenKind
kind i = (token i).0

unfoldable pub spelling : Input → List ℕ
spelling i = take (token i).1 i

unfoldable pub next : Input → Input
next i = skip (drop (token i).1 i)

abbrev pub peek : Parser TokenKind
peek = λ i. Some (kind i, i)

-- The token's text, whatever its kind.
abbrev pub take_token : Parser (List ℕ)
take_token = λ i. Some (spelling i, next i)

unfoldable pub sees : TokenKind → Input → Bool
sees k i = same_kind (kind i) k

unfoldable pub after : TokenKind → Input → Input
after k i = if sees k i then next i else i

-- Takes a token of this kind, if it comes next.
abbrev pub eat : TokenKind → Parser Bool
eat k = λ i. Some (sees k i, after k i)

-- A token of this kind has to come next.
unfoldable pub expect : TokenKind → Parser (Unit {0})
expect k = λ i. if sees k i then Some (tt, next i) else None

-- What a token of this kind introduces, if it comes next.
abbrev pub clause : {A : Type 0} → TokenKind → Parser A → Parser (Option A)
clause k p = do
  found ← eat k
  if found then (do x ← p; pure (Some x)) else pure None

-- ---- lists. The number bounds the turns, and each turn takes a token, so the count of bytes is enough.

unfoldable pub separated_from : {A : Type 0} → Parser A → ℕ → List A → Parser (List A)
separated_from item zero found = refuse
separated_from item (suc n) found = do
  x ← item
  more ← eat Comma
  if more then separated_from item n (found ++ x ∷ []) else pure (found ++ x ∷ [])

-- item {"," item}
abbrev pub separated : {A : Type 0} → Parser A → Parser (List A)
separated item = λ i. separated_from item (length i) [] i

-- What was read is what the rule reads, unless memory ran out.
abbrev pub Reads : {A : Type 0} → Outcome A → Result A Unread → Input → Type 0
Reads outcome (Ok a) new = outcome ≡ Some (a, new)
Reads outcome (Err Syntax) new = outcome ≡ None
Reads outcome (Err NoMemory) new = ⊤

-- What was made is what the rule makes, unless memory ran out.
abbrev pub Makes : {A : Type 0} → Option A → Result A Unread → Type 0
Makes made (Ok a) = made ≡ Some a
Makes made (Err Syntax) = made ≡ None
Makes made (Err NoMemory) = ⊤
