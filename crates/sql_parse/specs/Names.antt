-- Tables and columns by the names that a line gives them.
use Rattle.std.specs.Prelude.{ℕ, ◌+◌, min, List, [], drop, slice_get, Option, Some, None}
use Rattle.std.specs.List.{position_from}
use Rattle.std.specs.Str.{bytes_eq, str_eq_ignore_ascii_case}
use Rattle.row_types.specs.declared.columns.Column.{Column}
use Rattle.row_types.specs.declared.tables.TableDef.{TableDef}
use Rattle.row_types.specs.declared.tables.Schema.{Schema}
use Rattle.request_types.specs.Names.{table_named}
use Rattle.sql_parse.specs.declared.token_kinds.TokenKind.{TokenKind}
use Rattle.sql_parse.specs.declared.token_kinds.TokenKind.TheVariants.{Name, Quoted, Offset}
use Rattle.sql_parse.specs.Strings.{inside}
use Rattle.sql_parse.specs.Input.{Parser, ◌>>=◌, pure, refuse, peek, take_token}

-- The place of what a name doesn't name: no schema has so many tables, no table so many columns.
abbrev pub nowhere : ℕ
nowhere = 4294967295

-- A place, where there is one.
abbrev pub or_nowhere : Option ℕ → ℕ
or_nowhere None = nowhere
or_nowhere (Some place) = min place nowhere

-- The place of the column of this name but for ASCII case.
abbrev pub column_place : List Column → List ℕ → ℕ
column_place columns name =
    or_nowhere (position_from (λ (c : Column). str_eq_ignore_ascii_case c.name name) 0 columns)

-- The number of the table of this name in this database.
abbrev pub table_in : Schema → List ℕ → List ℕ → ℕ
table_in schema db name = or_nowhere (table_named schema.tables db name)

-- The number of the table of this name, from a number on.
abbrev pub named_from : ℕ → List TableDef → List ℕ → Option ℕ
named_from n tables name = position_from (λ (t : TableDef). bytes_eq t.name name) n tables

-- A table alone of its name, of which the one is the first and the other stands behind it.
abbrev pub one_alone : Option ℕ → Option ℕ → ℕ
one_alone (Some first) None = first
one_alone (Some first) (Some other) = nowhere
one_alone None other = nowhere

-- The number of the one table of this name, whatever its database.
abbrev pub table_alone : Schema → List ℕ → ℕ
table_alone schema name = from (named_from 0 schema.tables name) where
  from : Option ℕ → ℕ
  from None = nowhere
  from (Some first) = one_alone (Some first)
      (named_from (first + 1) (drop (first + 1) schema.tables) name)

-- The columns of a table; none where it isn't there.
abbrev pub columns_in : Option TableDef → List Column
columns_in None = []
columns_in (Some t) = t.columns

abbrev pub columns_of : Schema → ℕ → List Column
columns_of schema table = columns_in (slice_get schema.tables table)

-- A name is a word that is no keyword, the word OFFSET, or a word between backquotes.
abbrev pub name_by : TokenKind → Parser (List ℕ)
name_by Name = take_token
name_by Offset = take_token
name_by Quoted = do
  spelled ← take_token
  pure (inside 1 spelled)
name_by _ = refuse

unfoldable pub name : Parser (List ℕ)
name = peek >>= name_by
