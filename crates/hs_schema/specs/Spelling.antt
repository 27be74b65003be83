-- The one text of a schema.
use Rattle.std.specs.Prelude.{ℕ, Bool, true, false, List, [], ◌∷◌, ◌++◌, flat_map, slice_get, codes, decimal, Option, Some, None}
use Rattle.std.specs.Fmt.{signed_decimal}
use Rattle.hs_token.specs.declared.tokens.Token.{Token}
use Rattle.hs_token.specs.declared.tokens.Token.TheVariants as tokens
use Rattle.hs_token.specs.Spelling.{line_spelled}
use Rattle.row_types.specs.declared.values.Value.{Value}
use Rattle.row_types.specs.declared.values.Value.TheVariants as values
use Rattle.row_types.specs.declared.columns.Kind.{Kind}
use Rattle.row_types.specs.declared.columns.Kind.TheVariants.{Int, Bytes}
use Rattle.row_types.specs.declared.columns.Column.{Column}
use Rattle.row_types.specs.declared.indexes.IndexKind.{IndexKind}
use Rattle.row_types.specs.declared.indexes.IndexKind.TheVariants.{Primary, Unique, Plain}
use Rattle.row_types.specs.declared.indexes.IndexDef.{IndexDef}
use Rattle.row_types.specs.declared.tables.TableDef.{TableDef}
use Rattle.row_types.specs.declared.tables.Schema.{Schema}

-- A column's kind in a word.
abbrev pub kind_text : Kind → List ℕ
kind_text Int = codes "int"
kind_text (Bytes most) = codes "bytes:" ++ decimal most

-- Whether a column is counted, and whether NULL is allowed, in a word.
abbrev pub nullness_text : Bool → Bool → List ℕ
nullness_text true null = codes "auto"
nullness_text false true = codes "null"
nullness_text false false = codes "not"

-- The kind of an index in a word.
abbrev pub index_kind_text : IndexKind → List ℕ
index_kind_text Primary = codes "primary"
index_kind_text Unique = codes "unique"
index_kind_text Plain = codes "index"

-- A preset is the NULL token, an integer in its printed form, or the text itself.
abbrev pub preset_token : Value → Token
preset_token values.Null = tokens.Null
preset_token (values.Int n) = tokens.Text (signed_decimal n)
preset_token (values.Text text) = tokens.Text text

-- A column is `c`, its name, kind, nullness and preset.
abbrev pub column_tokens : Column → List Token
column_tokens c =
    tokens.Text (codes "c") ∷ tokens.Text c.name ∷ tokens.Text (kind_text c.kind) ∷ tokens.Text (nullness_text c.auto c.null)
    ∷ preset_token c.preset ∷ []

-- The name of a column, if it is one.
abbrev pub name_in : Option Column → List ℕ
name_in None = []
name_in (Some c) = c.name

-- The names of the columns at these places, with commas between.
abbrev pub names_text : List Column → List ℕ → List ℕ
names_text columns [] = []
names_text columns (p ∷ []) = name_in (slice_get columns p)
names_text columns (p ∷ q ∷ ps) = name_in (slice_get columns p) ++ 44 ∷ names_text columns (q ∷ ps)

-- An index is `i`, its name, kind and columns.
abbrev pub index_tokens : List Column → IndexDef → List Token
index_tokens columns i =
    tokens.Text (codes "i") ∷ tokens.Text i.name ∷ tokens.Text (index_kind_text i.kind) ∷ tokens.Text (names_text columns i.parts) ∷ []

-- A table is `table`, the name of its database, its own, its columns and its indexes.
abbrev pub table_tokens : TableDef → List Token
table_tokens t =
    tokens.Text (codes "table") ∷ tokens.Text t.db ∷ tokens.Text t.name
    ∷ (flat_map column_tokens t.columns ++ flat_map (index_tokens t.columns) t.indexes)

-- A table's line, with its LF.
abbrev pub table_line : TableDef → List ℕ
table_line t = line_spelled (table_tokens t) ++ 10 ∷ []

-- The lines of the tables in order.
abbrev pub spelled : Schema → List ℕ
spelled schema = flat_map table_line schema.tables
