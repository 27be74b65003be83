-- What a cursor shows, and what it keeps ready.
use Rattle.std.specs.Prelude.{◌≡◌, ◌≤◌, ℕ, List, length}
use Rattle.sql_parse.specs.declared.tokens.Tokens.TheInside.{Inside}
use Rattle.sql_parse.specs.Lex.{token}

abbrev pub ahead_of : Inside → List ℕ
ahead_of t = t.ahead.now

abbrev pub IsReady : Inside → Type 0
IsReady t = (t.token ≡ token t.ahead.now) × (t.token.1 ≤ length t.ahead.now)
