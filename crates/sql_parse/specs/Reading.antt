-- What a line of SQL is, for a schema.
use Rattle.std.specs.Prelude.{ℕ, if◌then◌else◌, List, Some, None, Result, Ok, Err}
use Rattle.row_types.specs.declared.tables.Schema.{Schema}
use Rattle.request_types.specs.declared.codes.Code.{Code}
use Rattle.request_types.specs.declared.codes.Code.TheVariants.{Syntax, Name, WrongKind}
use Rattle.sql_value.specs.declared.statements.Statement.{Statement}
use Rattle.sql_parse.specs.Lex.{skip}
use Rattle.sql_parse.specs.Input.{Outcome}
use Rattle.sql_parse.specs.Statements.{statement}
use Rattle.sql_parse.specs.Standing.{names_stand}
use Rattle.sql_parse.specs.Fitting.{kinds_fit}

-- A statement that was read is refused where it names what isn't there, and then where a part is of
-- another kind than its place asks for.
abbrev pub checked : Schema → Statement → Result Statement Code
checked schema statement =
    if names_stand schema statement then
    (if kinds_fit schema statement then Ok statement else Err WrongKind)
    else Err Name

-- A line that is no statement is refused first.
abbrev pub judged : Schema → Outcome Statement → Result Statement Code
judged schema None = Err Syntax
judged schema (Some p) = checked schema p.0

-- The statement that a line is, or its refusal.
unfoldable pub parse_of : Schema → List ℕ → Result Statement Code
parse_of schema line = judged schema (statement schema (skip line))
