-- One text of each statement. A blank stands behind each token, operands stand in parentheses, names
-- between backquotes, and columns of an INSERT are listed.
use Prim.Native.String.{String}
use Rattle.std.specs.Prelude.{◌≡◌, ℕ, suc, ◌+◌, ◌^◌, ◌<◌, ◌≤◌, max, nat_lt, length, ⊤, IfSome, Bool, true, false, ◌&&◌, ◌||◌, ◌==◌, if◌then◌else◌, List, [], ◌∷◌, ◌++◌, map, fold, codes, pos, negsuc, Option, Some, None, slice_get, decimal}
use Rattle.std.specs.List.{AllByRecursion}
use Rattle.request_types.specs.declared.filters.FilterOp.{FilterOp}
use Rattle.request_types.specs.declared.filters.FilterOp.TheVariants as ops
use Rattle.row_types.specs.declared.values.Value.{Value}
use Rattle.row_types.specs.declared.values.Value.TheVariants as values
use Rattle.row_types.specs.declared.columns.Column.{Column}
use Rattle.row_types.specs.declared.tables.TableDef.{TableDef}
use Rattle.row_types.specs.declared.tables.Schema.{Schema}
use Rattle.sql_value.specs.declared.exprs.ArithOp.{ArithOp}
use Rattle.sql_value.specs.declared.exprs.ArithOp.TheVariants.{Sum, Difference, Product}
use Rattle.sql_value.specs.declared.exprs.Expr.{Expr}
use Rattle.sql_value.specs.declared.exprs.Expr.TheOpen.{Expr-F}
use Rattle.sql_value.specs.declared.exprs.Expr.TheFolds.{fold-Expr}
use Rattle.sql_value.specs.declared.orders.OrderKey.{OrderKey}
use Rattle.sql_value.specs.declared.orders.Limit.{Limit}
use Rattle.sql_value.specs.declared.changes.Cell.{Cell}
use Rattle.sql_value.specs.declared.changes.Cell.TheVariants.{Preset, Of}
use Rattle.sql_value.specs.declared.changes.Assign.{Assign}
use Rattle.sql_value.specs.declared.statements.SelectSpec.{SelectSpec}
use Rattle.sql_value.specs.declared.statements.InsertStmt.{InsertStmt}
use Rattle.sql_value.specs.declared.statements.UpdateStmt.{UpdateStmt}
use Rattle.sql_value.specs.declared.statements.DeleteStmt.{DeleteStmt}
use Rattle.sql_value.specs.declared.statements.Statement.{Statement}
use Rattle.sql_value.specs.declared.statements.Statement.TheVariants.{Select, Insert, Update, Delete}
use Rattle.sql_parse.specs.Names.{columns_of}
use Rattle.sql_parse.specs.Standing.{are_all, table_of}

-- What is written in front of a text.
abbrev pub Front : Type 0
Front = List ℕ → List ℕ

-- No text.
abbrev pub nothing : Front
nothing rest = rest

-- The one in front of the other.
infixr 10 ◌<+>◌
abbrev pub ◌<+>◌ : Front → Front → Front
a <+> b = λ rest. a (b rest)

-- A token, and a blank behind it.
abbrev pub word : List ℕ → Front
word token = λ rest. token ++ 32 ∷ rest

-- A keyword or a symbol.
abbrev pub spell : String → Front
spell token = word (codes token)

-- A name between backquotes.
abbrev pub quoted : List ℕ → Front
quoted name = word (96 ∷ (name ++ 96 ∷ []))

-- The bytes of a string between its quotes: each quote and each `\` is there twice.
abbrev pub doubled : List ℕ → List ℕ
doubled [] = []
doubled (b ∷ z) = if b == 39 || b == 92 then b ∷ b ∷ doubled z else b ∷ doubled z

-- A number in decimal digits.
abbrev pub number : ℕ → Front
number n = word (decimal n)

-- A value. A negative integer is a sign and the digits of its amount.
abbrev pub literal : Value → Front
literal values.Null = spell "NULL"
literal (values.Int (pos n)) = number n
literal (values.Int (negsuc n)) = spell "-" <+> number (suc n)
literal (values.Text t) = word (39 ∷ (doubled t ++ 39 ∷ []))

-- A text in parentheses.
abbrev pub parens : Front → Front
parens a = spell "(" <+> a <+> spell ")"

-- Each behind a comma.
abbrev pub more : List Front → Front
more [] = nothing
more (x ∷ xs) = spell "," <+> x <+> more xs

-- With commas between them.
abbrev pub commas : List Front → Front
commas [] = nothing
commas (x ∷ xs) = x <+> more xs

-- The name of the column at a place.
abbrev pub name_in : Option Column → List ℕ
name_in None = []
name_in (Some c) = c.name

-- The name of a column.
abbrev pub column : List Column → ℕ → Front
column columns place = quoted (name_in (slice_get columns place))

-- The symbol of a sum, a difference or a product.
abbrev pub sign : ArithOp → Front
sign Sum = spell "+"
sign Difference = spell "-"
sign Product = spell "*"

-- The symbol of a comparison.
abbrev pub comparison : FilterOp → Front
comparison ops.Equal = spell "="
comparison ops.NotEqual = spell "<>"
comparison ops.Less = spell "<"
comparison ops.LessEqual = spell "<="
comparison ops.Greater = spell ">"
comparison ops.GreaterEqual = spell ">="

-- A part of an expression, with the texts of its operands.
abbrev pub part : List Column → Expr-F Front → Front
part columns (Expr-F.Literal value) = literal value
part columns (Expr-F.Column place) = column columns place
part columns (Expr-F.Negate a) = spell "-" <+> parens a
part columns (Expr-F.Arith op a b) = parens a <+> sign op <+> parens b
part columns (Expr-F.Compare op a b) = parens a <+> comparison op <+> parens b
part columns (Expr-F.IsNull a) = parens a <+> spell "IS" <+> spell "NULL"
part columns (Expr-F.InList a all) = parens a <+> spell "IN" <+> parens (commas all)
part columns (Expr-F.Not a) = spell "NOT" <+> parens a
part columns (Expr-F.And a b) = parens a <+> spell "AND" <+> parens b
part columns (Expr-F.Or a b) = parens a <+> spell "OR" <+> parens b

-- A whole expression, part by part.
abbrev pub expression : List Column → Expr → Front
expression columns = fold-Expr Front (part columns)

-- ---- statements

-- A table by the name of its database and its own.
abbrev pub table_name : Option TableDef → Front
table_name None = nothing
table_name (Some t) = quoted t.db <+> spell "." <+> quoted t.name

-- The clause WHERE, if there is a condition.
abbrev pub filter : List Column → Option Expr → Front
filter columns None = nothing
filter columns (Some e) = spell "WHERE" <+> expression columns e

-- Whether the greatest comes first.
abbrev pub direction : Bool → Front
direction true = spell "DESC"
direction false = spell "ASC"

-- A column by which rows are sorted.
abbrev pub order_key : List Column → OrderKey → Front
order_key columns key = column columns key.column <+> direction key.down

-- The clause ORDER BY, if rows are sorted by something.
abbrev pub order : List Column → List OrderKey → Front
order columns [] = nothing
order columns (key ∷ keys) = spell "ORDER" <+> spell "BY" <+> commas (map (order_key columns) (key ∷ keys))

-- The clause LIMIT of a SELECT.
abbrev pub page : Option Limit → Front
page None = nothing
page (Some l) = spell "LIMIT" <+> number l.count <+> spell "OFFSET" <+> number l.offset

-- The clause LIMIT of a change, which passes over no row.
abbrev pub count : Option Limit → Front
count None = nothing
count (Some l) = spell "LIMIT" <+> number l.count

-- What goes into a column: its preset, or a value.
abbrev pub cell : List Column → Cell → Front
cell columns Preset = spell "DEFAULT"
cell columns (Of e) = expression columns e

-- The values of a new row.
abbrev pub group : List Column → List Cell → Front
group columns cells = parens (commas (map (cell columns) cells))

-- An assignment to a column.
abbrev pub assign : List Column → Assign → Front
assign columns a = column columns a.column <+> spell "=" <+> cell columns a.cell

-- A SELECT of a table that is so named and has these columns.
abbrev pub select : List Column → Front → SelectSpec → Front
select columns named spec =
    spell "SELECT" <+> commas (map (expression columns) spec.items) <+> spell "FROM" <+> named
    <+> filter columns spec.condition <+> order columns spec.order <+> page spec.limit

-- An INSERT into it.
abbrev pub insert : List Column → Front → InsertStmt → Front
insert columns named stmt =
    spell "INSERT" <+> spell "INTO" <+> named
    <+> parens (commas (map (column columns) stmt.columns))
    <+> spell "VALUES" <+> commas (map (group columns) stmt.groups)

-- An UPDATE of its rows.
abbrev pub update : List Column → Front → UpdateStmt → Front
update columns named stmt =
    spell "UPDATE" <+> named <+> spell "SET" <+> commas (map (assign columns) stmt.assigns)
    <+> filter columns stmt.condition <+> order columns stmt.order <+> count stmt.limit

-- A DELETE of its rows.
abbrev pub delete : List Column → Front → DeleteStmt → Front
delete columns named stmt =
    spell "DELETE" <+> spell "FROM" <+> named
    <+> filter columns stmt.condition <+> order columns stmt.order <+> count stmt.limit

-- A statement, whatever its kind.
abbrev pub statement : List Column → Front → Statement → Front
statement columns named (Select spec) = select columns named spec
statement columns named (Insert stmt) = insert columns named stmt
statement columns named (Update stmt) = update columns named stmt
statement columns named (Delete stmt) = delete columns named stmt

-- The line of a statement.
abbrev pub spelled : Schema → Statement → List ℕ
spelled schema s =
    statement (columns_of schema (table_of s)) (table_name (slice_get schema.tables (table_of s))) s []

-- ---- which expressions have such a text

-- Whether an integer has 64 bits.
abbrev pub has_bits : Value → Bool
has_bits values.Null = true
has_bits (values.Int (pos n)) = nat_lt n 9223372036854775808
has_bits (values.Int (negsuc n)) = nat_lt n 9223372036854775808
has_bits (values.Text t) = true

-- Whether each of these is so, and there is one.
abbrev pub are_some : List Bool → Bool
are_some [] = false
are_some (b ∷ bs) = b && are_all bs

-- Whether a part has a text, if its operands have one: no list is empty.
abbrev pub part_written : Expr-F Bool → Bool
part_written (Expr-F.Literal value) = has_bits value
part_written (Expr-F.Column place) = true
part_written (Expr-F.Negate a) = a
part_written (Expr-F.Arith op a b) = a && b
part_written (Expr-F.Compare op a b) = a && b
part_written (Expr-F.IsNull a) = a
part_written (Expr-F.InList a all) = a && are_some all
part_written (Expr-F.Not a) = a
part_written (Expr-F.And a b) = a && b
part_written (Expr-F.Or a b) = a && b

-- Whether a whole expression has a text.
abbrev pub is_written : Expr → Bool
is_written = fold-Expr Bool part_written

-- The greatest of these numbers, or 0.
abbrev pub most : List ℕ → ℕ
most = fold max 0

-- The depth of a part, with those of its operands.
abbrev pub part_depth : Expr-F ℕ → ℕ
part_depth (Expr-F.Literal value) = 1
part_depth (Expr-F.Column place) = 1
part_depth (Expr-F.Negate a) = a + 1
part_depth (Expr-F.Arith op a b) = max a b + 1
part_depth (Expr-F.Compare op a b) = max a b + 1
part_depth (Expr-F.IsNull a) = a + 1
part_depth (Expr-F.InList a all) = max a (most all) + 1
part_depth (Expr-F.Not a) = a + 1
part_depth (Expr-F.And a b) = max a b + 1
part_depth (Expr-F.Or a b) = max a b + 1

-- The depth of a whole expression.
abbrev pub depth : Expr → ℕ
depth = fold-Expr ℕ part_depth

-- How many signs stand before a value.
abbrev pub signs : Value → ℕ
signs (values.Int (negsuc n)) = 1
signs _ = 0

-- How deep parentheses, NOT and signs nest in the text of a part.
abbrev pub part_nesting : Expr-F ℕ → ℕ
part_nesting (Expr-F.Literal value) = signs value
part_nesting (Expr-F.Column place) = 0
part_nesting (Expr-F.Negate a) = a + 2
part_nesting (Expr-F.Arith op a b) = max a b + 1
part_nesting (Expr-F.Compare op a b) = max a b + 1
part_nesting (Expr-F.IsNull a) = a + 1
part_nesting (Expr-F.InList a all) = max a (most all) + 1
part_nesting (Expr-F.Not a) = a + 2
part_nesting (Expr-F.And a b) = max a b + 1
part_nesting (Expr-F.Or a b) = max a b + 1

-- How deep the text of a whole expression nests.
abbrev pub nesting : Expr → ℕ
nesting = fold-Expr ℕ part_nesting

-- An expression that the text says: it is at most 1,000 parts deep, and its text nests so deep at
-- most.
pub record HasText (nests : ℕ) (e : Expr) : Type 0 where
  pub written : is_written e ≡ true
  pub deep : depth e ≤ 1000
  pub nested : nesting e ≤ nests

-- A cell that the text says.
abbrev pub CellHasText : ℕ → Cell → Type 0
CellHasText nests Preset = ⊤
CellHasText nests (Of e) = HasText nests e

-- Numbers of 64 bits.
abbrev pub IsPage : Limit → Type 0
IsPage l = (l.offset < 2 ^ 64) × (l.count < 2 ^ 64)

-- The same, where no row is passed over.
abbrev pub IsCount : Limit → Type 0
IsCount l = (l.offset ≡ 0) × (l.count < 2 ^ 64)

-- ---- which statements have such a line: parentheses, NOT and signs nest at most 100 deep, those
-- around a group included, and an INSERT lists a column.

abbrev pub StatementHasText : Statement → Type 0
StatementHasText (Select spec) =
    AllByRecursion (HasText 100) spec.items × IfSome spec.condition (HasText 100) × IfSome spec.limit IsPage
StatementHasText (Insert stmt) =
    (1 ≤ length stmt.columns) × AllByRecursion (AllByRecursion (CellHasText 99)) stmt.groups
StatementHasText (Update stmt) =
    AllByRecursion (λ (a : Assign). CellHasText 100 a.cell) stmt.assigns × IfSome stmt.condition (HasText 100) × IfSome stmt.limit IsCount
StatementHasText (Delete stmt) = IfSome stmt.condition (HasText 100) × IfSome stmt.limit IsCount
