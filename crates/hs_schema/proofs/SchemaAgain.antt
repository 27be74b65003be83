-- The text of a valid schema is read again.
use Rattle.std.proofs.Common.{◌≡◌, ◌≢◌, ◌∙◌, ℕ, suc, ◌+◌, ◌*◌, ◌<◌, ◌≤◌, true, false, ltb, List, [], ◌∷◌, ◌++◌, length, drop, Some, Ok, refl, sym, ap, arith, codes}
use Rattle.std.specs.Prelude.{slice_get, flat_map}
use Rattle.std.specs.List.{AllByRecursion}
use Rattle.std.proofs.lemmas.Bool.{lt-leb, le-ltb, ne_eqb}
use Rattle.std.proofs.lemmas.List.{length-append}
use mathlib.Core.List.{append_assoc, append-nil}
use Rattle.hs_token.specs.declared.tokens.Token.{Token}
use Rattle.hs_token.specs.Spelling.{line_spelled}
use Rattle.hs_token.specs.Reading.{line_at}
use Rattle.hs_token.proofs.LineLemmas.{line_again, one_line}
use Rattle.hs_line.specs.Lines.{IsLine, lines_of}
use Rattle.hs_line.proofs.LinesLemmas.{lines_of-line}
use Rattle.row_types.specs.declared.columns.Column.{Column}
use Rattle.row_types.specs.declared.indexes.IndexDef.{IndexDef}
use Rattle.row_types.specs.declared.tables.TableDef.{TableDef}
use Rattle.row_types.specs.declared.tables.Schema.{Schema}
use Rattle.row_types.specs.Valid.{are_distinct, same_table, most_row_size, IsTable, IsValid}
use Rattle.hs_schema.specs.Reading.{is_word, name_at, columns_of, indexes_at, has_table, index_place, table_name_at, table_at}
use Rattle.hs_schema.specs.Adding.{with_lines}
use Rattle.hs_schema.specs.Spelling.{column_tokens, index_tokens, table_tokens, table_line, spelled}
use Rattle.hs_schema.proofs.ColumnAgain.{new_at, columns_again}
use Rattle.hs_schema.proofs.IndexAgain.{indexes_again}

-- after the columns comes an index or nothing
no_column : (columns : List Column) (is : List IndexDef) → is_word (codes "c") (slice_get (flat_map (index_tokens columns) is) 0) ≡ false
no_column columns [] = refl
no_column columns (i ∷ is) = refl

columns_read : (t : TableDef) → IsTable t → columns_of (table_tokens t) ≡ Ok t.columns
unfolding columns_of
columns_read t is =
    let line = table_tokens t in
    let rest = flat_map (index_tokens t.columns) t.indexes in
    let first : is_word (codes "c") (slice_get line 3) ≡ true = first_column t.columns rest is.columns.some in
    rw first (columns_again 64 [] t.columns line rest refl (no_column t.columns t.indexes) is.columns.most is.columns.each is.columns.names is.columns.once) where
      first_column : (cs : List Column) (rest : List Token) → 1 ≤ length cs → is_word (codes "c") (slice_get (flat_map column_tokens cs ++ rest) 0) ≡ true
      first_column [] rest some = absurd (omega arith)
      first_column (c ∷ cs) rest some = refl

drop_columns : (cs : List Column) (rest : List Token) → drop (5 * length cs) (flat_map column_tokens cs ++ rest) ≡ rest
drop_columns [] rest = refl
drop_columns (c ∷ cs) rest =
    let five : 5 * length (c ∷ cs) ≡ suc (suc (suc (suc (suc (5 * length cs))))) = omega arith in
    rw five (drop_columns cs rest)

indexes_read : (t : TableDef) → IsTable t → indexes_at 16 t.columns [] (table_tokens t) ≡ Ok t.indexes
indexes_read t is =
    let rest = flat_map (index_tokens t.columns) t.indexes in
    let three : index_place t.columns [] ≡ suc (suc (suc (5 * length t.columns))) = omega arith in
    let behind : drop (index_place t.columns []) (table_tokens t) ≡ rest = rw three (drop_columns t.columns rest) in
    indexes_again 16 t.columns [] t.indexes (table_tokens t) behind is.indexes.most is.columns.each is.columns.names is.indexes.each is.indexes.names

pub table_again : (before : List TableDef) (t : TableDef) → IsTable t → length before < 64 → has_table before t.db t.name ≡ false → table_at before (table_tokens t) ≡ Ok t
unfolding table_at table_name_at name_at
table_again before t is room new =
    let rows : ltb 16384 (most_row_size t.columns) ≡ false = le-ltb 16384 (most_row_size t.columns) is.columns.rows in
    rw (lt-leb 64 (length before) room, is.db, is.name, new, columns_read t is, indexes_read t is, is.indexes.primary, rows, is.indexes.led) refl

is_line : (bytes : List ℕ) → AllByRecursion (λ b. b ≢ 10) bytes → IsLine bytes
is_line [] none = refl
is_line (b ∷ bs) none = rw (ne_eqb b 10 none.0, is_line bs none.1) refl

table_some : (t : TableDef) → table_tokens t ≢ []
table_some t e = absurd cc

-- the text of the tables behind those before
tables_again : (before ts : List TableDef) → AllByRecursion IsTable ts → length before + length ts ≤ 64 → are_distinct same_table (before ++ ts) ≡ true → with_lines before (lines_of (flat_map table_line ts)) ≡ Some (before ++ ts)
tables_again before [] each le names = ap (λ (ts : List TableDef). Some ts) (sym (append-nil before))
tables_again before (t ∷ ts) each le names =
    let tokens = table_tokens t in
    let line = line_spelled tokens in
    let more = flat_map table_line ts in
    let split : lines_of (flat_map table_line (t ∷ ts)) ≡ line ∷ lines_of more = ap lines_of (append_assoc line (10 ∷ []) more) ∙ lines_of-line line more (is_line line (one_line tokens)) in
    let read : line_at line ≡ Ok tokens = line_again tokens (table_some t) in
    let table : table_at before tokens ≡ Ok t = table_again before t each.0 (omega arith) (new_at same_table before t ts names) in
    let grown : (before ++ t ∷ []) ++ ts ≡ before ++ t ∷ ts = append_assoc before (t ∷ []) ts in
    let rest = tables_again (before ++ t ∷ []) ts each.1 (omega (arith, length-append before (t ∷ []))) (rw grown names) in
    rw (split, read, table) (rest ∙ ap (λ (ts : List TableDef). Some ts) grown)

pub schema_again : (schema : Schema) → IsValid schema → with_lines [] (lines_of (spelled schema)) ≡ Some schema.tables
schema_again schema valid = tables_again [] schema.tables valid.tables (omega (arith, valid.most)) valid.names
