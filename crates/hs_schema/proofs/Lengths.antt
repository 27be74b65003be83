-- How long a valid schema's text may be.
--     line_length      a line is no longer than the weights of its tokens
--     columns_weight, indexes_weight, table_weight      what the tokens of a valid table weigh
--     schema_length      the text of all tables
use Rattle.std.proofs.Common.{◌≡◌, ℕ, zero, suc, ◌+◌, ◌*◌, ◌<◌, ◌≤◌, ◌^◌, Bool, true, false, cond, ◌&&◌, List, [], ◌∷◌, ◌++◌, length, refl, arith, codes}
use Rattle.std.specs.Prelude.{flat_map, decimal, slice_get, slice_index, nat_le, nat_lt, not, ℤ, pos, negsuc, FitsSigned}
use Rattle.std.specs.Int.{w64}
use Rattle.std.specs.Fmt.{signed_decimal}
use Rattle.std.specs.Char.{is_ascii_digit}
use Rattle.std.specs.List.{list_all, AllByRecursion}
use Rattle.std.proofs.lemmas.Bool.{leb-true, ltb-false, and_parts}
use Rattle.std.proofs.lemmas.List.{length-append}
use Rattle.std.proofs.lemmas.Fmt.{length-decimal-le}
use Rattle.hs_token.specs.declared.tokens.Token.{Token}
use Rattle.hs_token.specs.declared.tokens.Token.TheVariants as tokens
use Rattle.hs_token.specs.Spelling.{byte_spelled, text_spelled, token_spelled, line_spelled}
use Rattle.row_types.specs.declared.values.Value.{Value}
use Rattle.row_types.specs.declared.values.Value.TheVariants as values
use Rattle.row_types.specs.declared.columns.Kind.{Kind}
use Rattle.row_types.specs.declared.columns.Kind.TheVariants as kinds
use Rattle.row_types.specs.declared.columns.Fit.TheVariants as fits
use Rattle.row_types.specs.declared.columns.Column.{Column}
use Rattle.row_types.specs.declared.indexes.IndexKind.{IndexKind}
use Rattle.row_types.specs.declared.indexes.IndexKind.TheVariants.{Primary, Unique, Plain}
use Rattle.row_types.specs.declared.indexes.IndexDef.{IndexDef}
use Rattle.row_types.specs.declared.tables.TableDef.{TableDef}
use Rattle.row_types.specs.declared.tables.Schema.{Schema}
use Rattle.row_types.specs.Fit.{kind_fit}
use Rattle.row_types.specs.Valid.{is_name, is_name_byte, is_kind, IsHeld, IsColumn, IsIndex, IsTable, IsValid}
use Rattle.hs_schema.specs.Spelling.{kind_text, nullness_text, index_kind_text, preset_token, column_tokens, name_in, names_text, index_tokens, table_tokens, table_line, spelled}

-- a byte is spelled as one or two, a tab stands behind a token
abbrev weight : Token → ℕ
weight tokens.Null = 2
weight (tokens.Text text) = 2 * length text + 1

abbrev weights : List Token → ℕ
weights [] = 0
weights (t ∷ ts) = weight t + weights ts

weights_append : (xs ys : List Token) → weights (xs ++ ys) ≡ weights xs + weights ys
weights_append [] ys = omega arith
weights_append (x ∷ xs) ys = omega (arith, weights_append xs ys)

byte_length : (b : ℕ) → length (byte_spelled b) ≤ 2
byte_length b = by_size (nat_le 16 b)
  where
    by_size : (small : Bool) → length (cond small (b ∷ []) (1 ∷ (b + 64) ∷ [])) ≤ 2
    by_size true = omega arith
    by_size false = omega arith

text_length : (text : List ℕ) → length (text_spelled text) ≤ 2 * length text
text_length [] = omega arith
text_length (b ∷ bs) = omega (arith, length-append (byte_spelled b) (text_spelled bs), byte_length b, text_length bs)

token_length : (t : Token) → length (token_spelled t) + 1 ≤ weight t
token_length tokens.Null = omega arith
token_length (tokens.Text text) = omega (arith, text_length text)

pub line_length : (ts : List Token) → length (line_spelled ts) ≤ weights ts
line_length [] = omega arith
line_length (t ∷ []) = omega (arith, token_length t)
line_length (t ∷ u ∷ ts) =
    omega (arith, length-append (token_spelled t) (9 ∷ line_spelled (u ∷ ts)), token_length t, line_length (u ∷ ts))

-- the words of a column
name_length : (text : List ℕ) → is_name text ≡ true → length text ≤ 64
name_length text name =
    let first = and_parts (nat_le 1 (length text) && nat_le (length text) 64 && not (is_ascii_digit (slice_index text 0))) (list_all is_name_byte text) name in
    let second = and_parts (nat_le 1 (length text) && nat_le (length text) 64) (not (is_ascii_digit (slice_index text 0))) first.0 in
    leb-true (length text) 64 (and_parts (nat_le 1 (length text)) (nat_le (length text) 64) second.0).1

most_length : (most : ℕ) → is_kind (kinds.Bytes most) ≡ true → most ≤ 16316
most_length most kind = leb-true most 16316 (and_parts (nat_le 1 most) (nat_le most 16316) kind).1

kind_length : (kind : Kind) → is_kind kind ≡ true → length (kind_text kind) ≤ 11
kind_length kinds.Int kind = omega arith
kind_length (kinds.Bytes most) kind =
    let few = most_length most kind in
    omega (arith, length-append (codes "bytes:") (decimal most), length-decimal-le 5 most (omega arith) (omega (arith, few)) (omega (arith, few)))

nullness_length : (auto null : Bool) → length (nullness_text auto null) ≤ 4
nullness_length true null = omega arith
nullness_length false true = omega arith
nullness_length false false = omega arith

number_length : (n : ℤ) → FitsSigned w64 n → length (signed_decimal n) ≤ 20
number_length (pos n) held = omega (arith, length-decimal-le 19 n (omega arith) (omega (arith, held)) (omega (arith, held)))
number_length (negsuc n) held = omega (arith, length-decimal-le 19 (suc n) (omega arith) (omega (arith, held)) (omega (arith, held)))

fitting : (long : Bool) → cond long fits.Long fits.Fine ≡ fits.Fine → long ≡ false
fitting true fit = absurd cc
fitting false fit = refl

preset_weight : (kind : Kind) (preset : Value) → is_kind kind ≡ true → kind_fit kind preset ≡ fits.Fine → IsHeld preset → weight (preset_token preset) ≤ 32633
preset_weight kind values.Null fine fit held = omega arith
preset_weight kinds.Int (values.Int n) fine fit held = omega (arith, number_length n held)
preset_weight (kinds.Bytes most) (values.Int n) fine fit held = absurd cc
preset_weight kinds.Int (values.Text t) fine fit held = absurd cc
preset_weight (kinds.Bytes most) (values.Text t) fine fit held =
    omega (arith, most_length most fine, ltb-false most (length t) (fitting (nat_lt most (length t)) fit))

column_weight : (c : Column) → IsColumn c → weights (column_tokens c) ≤ 33000
column_weight c is =
    omega (arith, name_length c.name is.name, kind_length c.kind is.kind, nullness_length c.auto c.null, preset_weight c.kind c.preset is.kind is.preset is.held)

columns_weight : (cs : List Column) → AllByRecursion IsColumn cs → weights (flat_map column_tokens cs) ≤ 33000 * length cs
columns_weight [] all = omega arith
columns_weight (c ∷ cs) all =
    omega (arith, weights_append (column_tokens c) (flat_map column_tokens cs), column_weight c all.0, columns_weight cs all.1)

-- the words of an index
name_at_length : (cs : List Column) → AllByRecursion IsColumn cs → (place : ℕ) → length (name_in (slice_get cs place)) ≤ 64
name_at_length [] all place = omega arith
name_at_length (c ∷ cs) all zero = name_length c.name all.0.name
name_at_length (c ∷ cs) all (suc place) = name_at_length cs all.1 place

names_length : (cs : List Column) → AllByRecursion IsColumn cs → (ps : List ℕ) → length (names_text cs ps) ≤ 65 * length ps
names_length cs all [] = omega arith
names_length cs all (p ∷ []) = omega (arith, name_at_length cs all p)
names_length cs all (p ∷ q ∷ ps) =
    omega (arith, length-append (name_in (slice_get cs p)) (44 ∷ names_text cs (q ∷ ps)), name_at_length cs all p, names_length cs all (q ∷ ps))

index_kind_length : (kind : IndexKind) → length (index_kind_text kind) ≤ 7
index_kind_length Primary = omega arith
index_kind_length Unique = omega arith
index_kind_length Plain = omega arith

index_weight : (cs : List Column) → AllByRecursion IsColumn cs → (i : IndexDef) → IsIndex cs i → weights (index_tokens cs i) ≤ 1200
index_weight cs all i is =
    omega (arith, name_length i.name is.name, index_kind_length i.kind, names_length cs all i.parts, is.most_parts)

indexes_weight : (cs : List Column) → AllByRecursion IsColumn cs → (is : List IndexDef) → AllByRecursion (IsIndex cs) is → weights (flat_map (index_tokens cs) is) ≤ 1200 * length is
indexes_weight cs all [] each = omega arith
indexes_weight cs all (i ∷ is) each =
    omega (arith, weights_append (index_tokens cs i) (flat_map (index_tokens cs) is), index_weight cs all i each.0, indexes_weight cs all is each.1)

-- a table, and all of them
table_weight : (t : TableDef) → IsTable t → weights (table_tokens t) ≤ 2200000
table_weight t is =
    let columns = is.columns in
    let indexes = is.indexes in
    omega (arith, weights_append (flat_map column_tokens t.columns) (flat_map (index_tokens t.columns) t.indexes), name_length t.db is.db, name_length t.name is.name, columns_weight t.columns columns.each, columns.most, indexes_weight t.columns columns.each t.indexes indexes.each, indexes.most)

table_length : (t : TableDef) → IsTable t → length (table_line t) ≤ 2200001
table_length t is =
    omega (arith, length-append (line_spelled (table_tokens t)) (10 ∷ []), line_length (table_tokens t), table_weight t is)

tables_length : (ts : List TableDef) → AllByRecursion IsTable ts → length (flat_map table_line ts) ≤ 2200001 * length ts
tables_length [] all = omega arith
tables_length (t ∷ ts) all =
    omega (arith, length-append (table_line t) (flat_map table_line ts), table_length t all.0, tables_length ts all.1)

pub schema_length : (schema : Schema) → IsValid schema → length (spelled schema) < 2 ^ 32
schema_length schema valid = omega (arith, tables_length schema.tables valid.tables, valid.most)
