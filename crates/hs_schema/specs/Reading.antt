-- What a table line says: the table, or the first rule that it breaks and the number of the token there.
use Rattle.std.specs.Prelude.{◌≡◌, ℕ, zero, suc, ◌+◌, ◌*◌, Bool, true, false, not, ◌&&◌, ◌==◌, nat_le, nat_lt, nat_eq, if◌then◌else◌, List, [], ◌∷◌, ◌++◌, length, map, take, drop, slice_get, slice_index, codes, Option, Some, None, option_map, Result, Ok, Err}
use Rattle.std.specs.Str.{bytes_eq}
use Rattle.std.specs.List.{list_any, list_all}
use Rattle.hs_token.specs.declared.tokens.Token.{Token}
use Rattle.hs_token.specs.declared.tokens.Token.TheVariants as tokens
use Rattle.hs_token.specs.Number.{u32_of, i64_of}
use Rattle.row_types.specs.declared.values.Value.{Value}
use Rattle.row_types.specs.declared.values.Value.TheVariants as values
use Rattle.row_types.specs.declared.columns.Kind.{Kind}
use Rattle.row_types.specs.declared.columns.Kind.TheVariants as kinds
use Rattle.row_types.specs.declared.columns.Column.{Column}
use Rattle.row_types.specs.declared.indexes.IndexKind.{IndexKind}
use Rattle.row_types.specs.declared.indexes.IndexKind.TheVariants.{Primary, Unique, Plain}
use Rattle.row_types.specs.declared.indexes.IndexDef.{IndexDef}
use Rattle.row_types.specs.declared.tables.TableDef.{TableDef}
use Rattle.row_types.specs.Counted.{has_counted, is_led}
use Rattle.row_types.specs.Valid.{is_name, are_distinct, same_but_case, is_kind, is_primary, primary_name, may_be_null, most_row_size}
use Rattle.hs_schema.specs.declared.nullness.Nullness.{Nullness}
use Rattle.hs_schema.specs.declared.nullness.Nullness.TheVariants.{Allowed, Forbidden, Counted}
use Rattle.hs_schema.specs.declared.faults.SchemaRule.{SchemaRule}
use Rattle.hs_schema.specs.declared.faults.SchemaRule.TheVariants.{BadName, BadKind, DuplicateName, NoPrimary, TooMany}
use Rattle.hs_schema.specs.declared.faults.LineFault.{LineFault}
use Rattle.hs_schema.specs.declared.faults.LineFault.TheVariants.{Broken, NoMemory}

-- A rule that is broken, and the number of the token where it is. A missing token has the number of tokens.
pub record Breach : Type 0 where
  pub rule : SchemaRule
  pub token : ℕ

-- A line whose first broken rule this is.
abbrev pub broken : {X : Type 0} → SchemaRule → ℕ → Result X Breach
broken rule token = Err (record { rule = rule; token = token })

-- The next token is read, unless a rule was broken before.
infixl 10 ◌>>=◌
abbrev pub ◌>>=◌ : {A B : Type 0} → Result A Breach → (A → Result B Breach) → Result B Breach
(Ok x) >>= f = f x
(Err breach) >>= f = Err breach

-- Whether a token is this word.
abbrev pub is_word : List ℕ → Option Token → Bool
is_word word None = false
is_word word (Some tokens.Null) = false
is_word word (Some (tokens.Text text)) = bytes_eq text word

-- A token that has to be a text.
abbrev pub text_in : ℕ → Option Token → Result (List ℕ) Breach
text_in place None = broken BadKind place
text_in place (Some tokens.Null) = broken BadKind place
text_in place (Some (tokens.Text text)) = Ok text

-- A text at this place of a line.
abbrev pub text_at : List Token → ℕ → Result (List ℕ) Breach
text_at line place = text_in place (slice_get line place)

-- A text that has to be a name.
unfoldable pub name_at : List Token → ℕ → Result (List ℕ) Breach
name_at line place = do
  text ← text_at line place
  if is_name text then Ok text else broken BadName place

-- What was read of a token, where that was anything.
abbrev pub known : {X : Type 0} → ℕ → Option X → Result X Breach
known place None = broken BadKind place
known place (Some x) = Ok x

-- A kind of texts of at most so many bytes.
abbrev pub sized : Option ℕ → Option Kind
sized None = None
sized (Some most) = if is_kind (kinds.Bytes most) then Some (kinds.Bytes most) else None

-- `int`, or `bytes:` and a number in decimal, of which no 0 is the first digit.
abbrev pub kind_of : List ℕ → Option Kind
kind_of text =
    if bytes_eq text (codes "int") then Some kinds.Int
    else if bytes_eq (take 6 text) (codes "bytes:") && not (slice_index (drop 6 text) 0 == 48)
    then sized (u32_of (drop 6 text))
    else None

-- The kind that a text says.
abbrev pub kind_at : List Token → ℕ → Result Kind Breach
kind_at line place = text_at line place >>= λ text. known place (kind_of text)

-- Whether NULL is allowed, or forbidden, or numbers are drawn: `null`, `not` or `auto`.
abbrev pub nullness_of : List ℕ → Option Nullness
nullness_of text =
    if bytes_eq text (codes "null") then Some Allowed
    else if bytes_eq text (codes "not") then Some Forbidden
    else if bytes_eq text (codes "auto") then Some Counted
    else None

-- Whether a column allows NULL.
abbrev pub allows_null : Nullness → Bool
allows_null Allowed = true
allows_null Forbidden = false
allows_null Counted = false

-- Whether it is counted.
abbrev pub is_counted : Nullness → Bool
is_counted Allowed = false
is_counted Forbidden = false
is_counted Counted = true

-- A column of integers may be counted where none before it is.
abbrev pub can_count : List Column → Kind → Bool
can_count before kinds.Int = not (has_counted before)
can_count before (kinds.Bytes most) = false

-- The nullness that a text says, for a column of this kind behind those before.
unfoldable pub nullness_at : List Column → Kind → List Token → ℕ → Result Nullness Breach
nullness_at before kind line place = do
  text ← text_at line place
  nullness ← known place (nullness_of text)
  if is_counted nullness && not (can_count before kind) then broken BadKind place else Ok nullness

-- The preset that a text is, where the column holds it.
abbrev pub preset_of : Kind → List ℕ → Option Value
preset_of kinds.Int text = option_map values.Int (i64_of text)
preset_of (kinds.Bytes most) text = if nat_lt most (length text) then None else Some (values.Text text)

-- A preset is the NULL token or the value as a text. A counted column has no other than NULL.
abbrev pub preset_in : Kind → Bool → ℕ → Option Token → Result Value Breach
preset_in kind counted place None = broken BadKind place
preset_in kind counted place (Some tokens.Null) = Ok values.Null
preset_in kind true place (Some (tokens.Text text)) = broken BadKind place
preset_in kind false place (Some (tokens.Text text)) = known place (preset_of kind text)

-- Whether a column is so named, whatever the case.
abbrev pub has_column : List Column → List ℕ → Bool
has_column columns name = list_any (λ c. same_but_case name c.name) columns

-- The name of a new column, which none of those before it bears.
unfoldable pub column_name_at : List Column → List Token → ℕ → Result (List ℕ) Breach
column_name_at before line place = do
  name ← name_at line place
  if has_column before name then broken DuplicateName place else Ok name

-- The place of the token `c` of a column: the line's first three tokens and five for each column come before.
abbrev pub column_place : List Column → ℕ
column_place before = 3 + 5 * length before

-- The column behind those before: its name, kind, nullness and preset.
unfoldable pub column_at : List Column → List Token → Result Column Breach
column_at before line = do
  name ← column_name_at before line (column_place before + 1)
  kind ← kind_at line (column_place before + 2)
  nullness ← nullness_at before kind line (column_place before + 3)
  preset ← preset_in kind (is_counted nullness) (column_place before + 4) (slice_get line (column_place before + 4))
  Ok (record { name = name; kind = kind; null = allows_null nullness; auto = is_counted nullness; preset = preset })

-- Whether one more column follows.
abbrev pub column_follows : List Column → List Token → Bool
column_follows before line = is_word (codes "c") (slice_get line (column_place before))

-- The columns of a line, those before among them, as long as there is room for one more.
unfoldable pub columns_at : ℕ → List Column → List Token → Result (List Column) Breach
columns_at zero before line =
    if column_follows before line then broken TooMany (column_place before) else Ok before
columns_at (suc room) before line =
    if column_follows before line then (column_at before line >>= λ c. columns_at room (before ++ c ∷ []) line)
    else Ok before

-- One column at least.
unfoldable pub columns_of : List Token → Result (List Column) Breach
columns_of line = if column_follows [] line then columns_at 64 [] line else broken BadKind 3

-- The kind of index that a word means.
abbrev pub index_kind_of : List ℕ → Option IndexKind
index_kind_of text =
    if bytes_eq text (codes "primary") then Some Primary
    else if bytes_eq text (codes "unique") then Some Unique
    else if bytes_eq text (codes "index") then Some Plain
    else None

-- The names between the commas of a text, where `name` is what was read of the first.
abbrev pub names_from : List ℕ → List ℕ → List (List ℕ)
names_from name [] = name ∷ []
names_from name (b ∷ bs) = if b == 44 then name ∷ names_from [] bs else names_from (name ++ b ∷ []) bs

-- The place of the column of exactly this name, past the end where there is none.
abbrev pub place_of : List Column → List ℕ → ℕ
place_of [] name = 0
place_of (c ∷ cs) name = if bytes_eq c.name name then 0 else place_of cs name + 1

-- The places of the columns that a text lists.
abbrev pub parts_of : List Column → List ℕ → List ℕ
parts_of columns text = map (place_of columns) (names_from [] text)

-- The parts of an index, in the order of the rules at one token.
unfoldable pub fine_parts : List Column → IndexKind → ℕ → List ℕ → Result (List ℕ) Breach
fine_parts columns kind place parts =
    if is_primary kind && list_any (may_be_null columns) parts then broken BadKind place
    else if not (list_all (λ part. nat_lt part (length columns)) parts) then broken BadName place
    else if not (are_distinct nat_eq parts) then broken DuplicateName place
    else if nat_lt 8 (length parts) then broken TooMany place
    else Ok parts

-- The place of the token `i` of an index: the columns and four tokens for each index come before.
abbrev pub index_place : List Column → List IndexDef → ℕ
index_place columns before = column_place columns + 4 * length before

-- Whether an index is so named.
abbrev pub has_index : List IndexDef → List ℕ → Bool
has_index indexes name = list_any (λ i. bytes_eq name i.name) indexes

-- The name of a new index, which none of those before it bears.
unfoldable pub index_name_at : List IndexDef → List Token → ℕ → Result (List ℕ) Breach
index_name_at before line place = do
  name ← name_at line place
  if has_index before name then broken DuplicateName place else Ok name

-- The primary index is named PRIMARY, and no other.
abbrev pub suits : IndexKind → List ℕ → Bool
suits kind name = if is_primary kind then bytes_eq name primary_name else not (bytes_eq name primary_name)

-- The kind of the index of this name.
unfoldable pub index_kind_at : List ℕ → List Token → ℕ → Result IndexKind Breach
index_kind_at name line place = do
  text ← text_at line place
  kind ← known place (index_kind_of text)
  if suits kind name then Ok kind else broken BadName place

-- The index behind those before: its name, kind and parts.
unfoldable pub index_at : List Column → List IndexDef → List Token → Result IndexDef Breach
index_at columns before line = do
  name ← index_name_at before line (index_place columns before + 1)
  kind ← index_kind_at name line (index_place columns before + 2)
  text ← text_at line (index_place columns before + 3)
  parts ← fine_parts columns kind (index_place columns before + 3) (parts_of columns text)
  Ok (record { name = name; kind = kind; parts = parts })

-- Whether one more index follows, where the line doesn't end.
abbrev pub index_follows : List Token → ℕ → Result Bool Breach
index_follows line place =
    if nat_le (length line) place then Ok false
    else if is_word (codes "i") (slice_get line place) then Ok true
    else broken BadKind place

-- The indexes of a line up to its end, those before among them, as long as there is room for one more.
unfoldable pub indexes_at : ℕ → List Column → List IndexDef → List Token → Result (List IndexDef) Breach
indexes_at zero columns before line = do
  more ← index_follows line (index_place columns before)
  if more then broken TooMany (index_place columns before) else Ok before
indexes_at (suc room) columns before line = do
  more ← index_follows line (index_place columns before)
  if more then (index_at columns before line >>= λ i. indexes_at room columns (before ++ i ∷ []) line) else Ok before

-- A line begins with `table`, and there is room for one more table.
abbrev pub start_at : List TableDef → List Token → Result (Unit {0}) Breach
start_at tables line =
    if not (is_word (codes "table") (slice_get line 0)) then broken BadKind 0
    else if nat_le 64 (length tables) then broken TooMany 0
    else Ok tt

-- Whether a table has this name in this database.
abbrev pub has_table : List TableDef → List ℕ → List ℕ → Bool
has_table tables db name = list_any (λ t. bytes_eq db t.db && bytes_eq name t.name) tables

-- The name of a new table, which none of those before it bears in this database.
unfoldable pub table_name_at : List TableDef → List ℕ → List Token → Result (List ℕ) Breach
table_name_at tables db line = do
  name ← name_at line 2
  if has_table tables db name then broken DuplicateName 2 else Ok name

-- At a line's end one index is the primary one, the greatest row has room, and a counted column leads an index.
abbrev pub whole_table : TableDef → ℕ → Result TableDef Breach
whole_table table end =
    if not (list_any (λ i. is_primary i.kind) table.indexes) then broken NoPrimary end
    else if nat_lt 16384 (most_row_size table.columns) then broken TooMany end
    else if not (is_led table.columns table.indexes) then broken BadKind end
    else Ok table

-- The table of a line that stands behind these tables.
unfoldable pub table_at : List TableDef → List Token → Result TableDef Breach
table_at tables line = do
  started ← start_at tables line
  db ← name_at line 1
  name ← table_name_at tables db line
  columns ← columns_of line
  indexes ← indexes_at 16 columns [] line
  whole_table (record { db = db; name = name; columns = columns; indexes = indexes }) (length line)

-- A fault is the breach of what was read; want of memory may come with any reading.
abbrev pub Fails : {Y : Type 0} → LineFault → Result Y Breach → Type 0
Fails (Broken rule token) read = read ≡ broken rule token
Fails NoMemory read = Unit {0}

-- What a step answered, seen by view, is what the reading gives, unless memory ran out.
abbrev pub Gives : {X Y : Type 0} → (X → Y) → Result X LineFault → Result Y Breach → Type 0
Gives view (Ok x) read = read ≡ Ok (view x)
Gives view (Err fault) read = Fails fault read
