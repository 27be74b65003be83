-- Statements, rule by rule. Each reads the columns of its table by their places.
use Rattle.std.specs.Prelude.{ℕ, zero, suc, ◌+◌, ◌-◌, nat_lt, nat_eq, Bool, true, false, not, ◌||◌, if◌then◌else◌, List, [], ◌∷◌, length, map, Option, Some, None}
use Rattle.row_types.specs.declared.columns.Column.{Column}
use Rattle.row_types.specs.declared.tables.Schema.{Schema}
use Rattle.sql_value.specs.declared.exprs.Expr.{Expr}
use Rattle.sql_value.specs.declared.exprs.Expr.TheVariants as exprs
use Rattle.sql_value.specs.declared.orders.OrderKey.{OrderKey}
use Rattle.sql_value.specs.declared.orders.Limit.{Limit}
use Rattle.sql_value.specs.declared.changes.Cell.{Cell}
use Rattle.sql_value.specs.declared.changes.Cell.TheVariants.{Preset, Of}
use Rattle.sql_value.specs.declared.changes.Assign.{Assign}
use Rattle.sql_value.specs.declared.statements.SelectSpec.{SelectSpec}
use Rattle.sql_value.specs.declared.statements.InsertStmt.{InsertStmt}
use Rattle.sql_value.specs.declared.statements.UpdateStmt.{UpdateStmt}
use Rattle.sql_value.specs.declared.statements.DeleteStmt.{DeleteStmt}
use Rattle.sql_value.specs.declared.statements.Statement.{Statement}
use Rattle.sql_value.specs.declared.statements.Statement.TheVariants.{Select, Insert, Update, Delete}
use Rattle.sql_parse.specs.declared.token_kinds.TokenKind.{TokenKind}
use Rattle.sql_parse.specs.declared.token_kinds.TokenKind.TheVariants as k
use Rattle.sql_parse.specs.declared.grammar.Level.TheVariants.{Condition, Worth}
use Rattle.sql_parse.specs.Numbers.{number_of}
use Rattle.sql_parse.specs.Names.{column_place, table_in, table_alone, columns_of, or_nowhere, name}
use Rattle.sql_parse.specs.Trees.{is_met, must}
use Rattle.sql_parse.specs.Grammar.{expr}
use Rattle.sql_parse.specs.Input.{Input, Outcome, Parser, ◌>>=◌, ◌>>◌, pure, refuse, lift, peek, take_token, eat, expect, clause, separated}

-- ---- what statements share

-- Behind the first name of a table.
abbrev pub table_by : Schema → List ℕ → Bool → Parser ℕ
table_by schema first true = do
  second ← name
  pure (table_in schema first second)
table_by schema first false = pure (table_alone schema first)

-- table = name ["." name]. A name alone names the one table that has it.
unfoldable pub table : Schema → Parser ℕ
table schema = do
  first ← name
  has_dot ← eat k.Dot
  table_by schema first has_dot

-- A value inside so many parentheses. Of parentheses, NOT and signs 100 may be open at a place.
unfoldable pub value : List Column → ℕ → Parser Expr
value columns inside = do
  read ← expr columns (101 - inside) Worth
  pure read.expr

-- A condition, in which as many may be open.
unfoldable pub condition : List Column → Parser Expr
condition columns = do
  read ← expr columns 101 Condition
  met ← lift (must is_met read)
  pure met.expr

-- cell = DEFAULT | value
abbrev pub cell_by : List Column → ℕ → Bool → Parser Cell
cell_by columns inside true = pure Preset
cell_by columns inside false = do
  e ← value columns inside
  pure (Of e)

unfoldable pub cell : List Column → ℕ → Parser Cell
cell columns inside = eat k.Default >>= cell_by columns inside

-- [WHERE cond]
unfoldable pub filter : List Column → Parser (Option Expr)
filter columns = clause k.Where (condition columns)

-- [ASC], where no DESC was.
abbrev pub upwards : Bool → Parser Bool
upwards true = pure true
upwards false = eat k.Asc

-- name [ASC | DESC]
unfoldable pub order_key : List Column → Parser OrderKey
order_key columns = do
  called ← name
  down ← eat k.Desc
  said ← upwards down
  pure (record { column = column_place columns called; down = down })

-- name [ASC | DESC] {"," name [ASC | DESC]}
abbrev pub order_keys : List Column → Parser (List OrderKey)
order_keys columns = separated (order_key columns)

-- [ORDER BY name [ASC | DESC] {"," name [ASC | DESC]}]
abbrev pub order_by : List Column → Bool → Parser (List OrderKey)
order_by columns true = expect k.By >> order_keys columns
order_by columns false = pure []

unfoldable pub order : List Column → Parser (List OrderKey)
order columns = eat k.Order >>= order_by columns

-- A number of up to 64 bits.
abbrev pub number_by : TokenKind → Parser ℕ
number_by k.Number = do
  digits ← take_token
  lift (number_of digits)
number_by _ = refuse

unfoldable pub number : Parser ℕ
number = peek >>= number_by

-- num, behind LIMIT.
unfoldable pub counted : Parser Limit
counted = do
  n ← number
  pure (record { offset = 0; count = n })

-- [LIMIT num]
unfoldable pub count : Parser (Option Limit)
count = clause k.Limit counted

-- [OFFSET num]; 0 is meant where it is left out.
abbrev pub offset_by : Bool → Parser ℕ
offset_by true = number
offset_by false = pure 0

unfoldable pub offset : Parser ℕ
offset = eat k.Offset >>= offset_by

-- Behind the first number of LIMIT: of two with a comma the first is the offset.
abbrev pub paged_by : ℕ → Bool → Parser Limit
paged_by first true = do
  n ← number
  pure (record { offset = first; count = n })
paged_by first false = do
  n ← offset
  pure (record { offset = n; count = first })

-- num ["," num | OFFSET num], behind LIMIT.
unfoldable pub paged : Parser Limit
paged = do
  first ← number
  has_comma ← eat k.Comma
  paged_by first has_comma

-- [LIMIT num ["," num | OFFSET num]]
unfoldable pub page : Parser (Option Limit)
page = clause k.Limit paged

-- ---- SELECT

-- The table behind the next FROM, a word that stands nowhere else in a SELECT. The number bounds
-- the turns.
abbrev pub ahead_by : Schema → Parser ℕ → TokenKind → Parser ℕ
ahead_by schema more k.From = take_token >> table schema
ahead_by schema more k.End = refuse
ahead_by schema more k.Bad = refuse
ahead_by schema more _ = take_token >> more

unfoldable pub table_ahead_from : Schema → ℕ → Parser ℕ
table_ahead_from schema zero = refuse
table_ahead_from schema (suc n) = peek >>= ahead_by schema (table_ahead_from schema n)

-- The table that a SELECT is about, whose columns its items name. Nothing is taken.
abbrev pub found_ahead : Input → Outcome ℕ → Outcome ℕ
found_ahead i None = None
found_ahead i (Some p) = Some (p.0, i)

abbrev pub next_table : Schema → Parser ℕ
next_table schema = λ i. table_ahead_from schema (length i) i

unfoldable pub table_ahead : Schema → Parser ℕ
table_ahead schema = λ i. found_ahead i (next_table schema i)

-- The places of all columns, from a number on.
abbrev pub places_from : ℕ → List Column → List ℕ
places_from n [] = []
places_from n (c ∷ cs) = or_nowhere (Some n) ∷ places_from (n + 1) cs

abbrev pub all_places : List Column → List ℕ
all_places columns = places_from 0 columns

abbrev pub all_columns : List Column → List Expr
all_columns columns = map (λ place. exprs.Column place) (all_places columns)

-- value {"," value}
abbrev pub values : List Column → Parser (List Expr)
values columns = separated (value columns 0)

-- "*", which is all columns, or value {"," value}
abbrev pub items_by : List Column → Bool → Parser (List Expr)
items_by columns true = pure (all_columns columns)
items_by columns false = values columns

unfoldable pub items : List Column → Parser (List Expr)
items columns = eat k.Star >>= items_by columns

-- ("*" | value {"," value}) FROM table [WHERE cond] [order] [LIMIT ..], of the table of this number.
unfoldable pub select_of : Schema → ℕ → Parser SelectSpec
select_of schema number = do
  shown ← items (columns_of schema number)
  expect k.From
  named ← table schema
  met ← filter (columns_of schema number)
  sorted ← order (columns_of schema number)
  cut ← page
  pure (record { table = number; items = shown; condition = met; order = sorted; limit = cut })

-- select = SELECT ("*" | value {"," value}) FROM table [WHERE cond] [order] [LIMIT ..]
unfoldable pub select : Schema → Parser SelectSpec
select schema = table_ahead schema >>= select_of schema

-- ---- INSERT

-- name {"," name} ")"
unfoldable pub column : List Column → Parser ℕ
column columns = do
  called ← name
  pure (column_place columns called)

abbrev pub column_list : List Column → Parser (List ℕ)
column_list columns = separated (column columns)

-- The columns of a list, or all of them where there is no list.
abbrev pub columns_by : List Column → Bool → Parser (List ℕ)
columns_by columns true = do
  places ← column_list columns
  expect k.Close
  pure places
columns_by columns false = pure (all_places columns)

abbrev pub cells : List Column → Parser (List Cell)
cells columns = separated (cell columns 1)

-- group = "(" cell {"," cell} ")"
unfoldable pub group : List Column → Parser (List Cell)
group columns = do
  expect k.Open
  found ← cells columns
  expect k.Close
  pure found

-- A group, which has so many cells, if that is asked.
unfoldable pub wide_group : List Column → Bool → ℕ → Parser (List Cell)
wide_group columns is_asked width = do
  found ← group columns
  if not is_asked || nat_eq (length found) width then pure found else refuse

-- group {"," group}
abbrev pub groups : List Column → Bool → ℕ → Parser (List (List Cell))
groups columns is_asked width = separated (wide_group columns is_asked width)

-- Whether groups have to be as wide as the columns: not where the table isn't there and no columns
-- are listed.
abbrev pub is_counted : Schema → ℕ → Bool → Bool
is_counted schema number has_list = has_list || nat_lt number (length schema.tables)

-- ["(" name {"," name} ")"] VALUES group {"," group}, of the table of this number.
unfoldable pub insert_of : Schema → ℕ → Parser InsertStmt
insert_of schema number = do
  has_list ← eat k.Open
  places ← columns_by (columns_of schema number) has_list
  expect k.Values
  found ← groups (columns_of schema number) (is_counted schema number has_list) (length places)
  pure (record { table = number; columns = places; groups = found })

-- insert = INSERT [INTO] table ["(" name {"," name} ")"] VALUES group {"," group}
unfoldable pub insert : Schema → Parser InsertStmt
insert schema = do
  said ← eat k.Into
  number ← table schema
  insert_of schema number

-- ---- UPDATE and DELETE

-- name "=" cell
unfoldable pub assign : List Column → Parser Assign
assign columns = do
  place ← column columns
  expect k.Equal
  made ← cell columns 0
  pure (record { column = place; cell = made })

-- name "=" cell {"," name "=" cell}
abbrev pub assigns : List Column → Parser (List Assign)
assigns columns = separated (assign columns)

-- update = UPDATE table SET name "=" cell {"," name "=" cell} [WHERE cond] [order] [LIMIT num]
unfoldable pub update : Schema → Parser UpdateStmt
update schema = do
  number ← table schema
  expect k.Set
  made ← assigns (columns_of schema number)
  met ← filter (columns_of schema number)
  sorted ← order (columns_of schema number)
  cut ← count
  pure (record { table = number; assigns = made; condition = met; order = sorted; limit = cut })

-- delete = DELETE FROM table [WHERE cond] [order] [LIMIT num]
unfoldable pub delete : Schema → Parser DeleteStmt
delete schema = do
  expect k.From
  number ← table schema
  met ← filter (columns_of schema number)
  sorted ← order (columns_of schema number)
  cut ← count
  pure (record { table = number; condition = met; order = sorted; limit = cut })

-- ---- the line

-- What a statement is, by its first word.
abbrev pub statement_by : Schema → TokenKind → Parser Statement
statement_by schema k.Select = do
  spec ← select schema
  pure (Select spec)
statement_by schema k.Insert = do
  stmt ← insert schema
  pure (Insert stmt)
statement_by schema k.Update = do
  stmt ← update schema
  pure (Update stmt)
statement_by schema k.Delete = do
  stmt ← delete schema
  pure (Delete stmt)
statement_by schema _ = refuse

unfoldable pub any_statement : Schema → Parser Statement
any_statement schema = do
  kind ← peek
  take_token
  statement_by schema kind

-- statement = (select | insert | update | delete) [";"]
unfoldable pub statement : Schema → Parser Statement
statement schema = do
  found ← any_statement schema
  said ← eat k.Semicolon
  expect k.End
  pure found
