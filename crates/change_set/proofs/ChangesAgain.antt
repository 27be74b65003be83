-- A change that is read fits the schema and stands in the bytes, and one that fits is read again.
--     change_takes, change_again      both ways
--     kinds_in      the columns of a table may be
--     bytes_when_fit      a change that fits has bytes
use Rattle.std.proofs.Common.{◌≡◌, ℕ, zero, suc, ◌^◌, ◌<◌, cond, ltb, List, [], ◌∷◌, ◌++◌, length, get_or, Some, None, refl, ap, subst, ◌∙◌, append_assoc, arith}
use Rattle.std.specs.Int.{w16, w64, to_be_bytes}
use Rattle.std.specs.List.{AllByRecursion}
use Rattle.std.proofs.lemmas.Bool.{ltb-true, lt-ltb}
use Rattle.row_types.specs.declared.tables.TableDef.{TableDef}
use Rattle.row_types.specs.declared.tables.Schema.{Schema}
use Rattle.row_types.specs.Valid.{IsTable, IsValid}
use Rattle.table_rows.specs.Rows.{no_table}
use Rattle.change_set.specs.declared.change.Change.{Change}
use Rattle.change_set.specs.declared.change.Change.TheVariants.{Put, Delete, Count}
use Rattle.change_set.specs.Sets.{def_in, key_columns}
use Rattle.change_set.specs.Fitting.{FitsSchema, columns_at}
use Rattle.change_set.specs.Payload.{values_bytes, change_bytes, HasBytes}
use Rattle.change_set.specs.Reading.{◌>>=◌, number_at, cells_at, table_at, put_at, delete_at, count_at, change_at}
use Rattle.change_set.proofs.Fields.{IsBytes, bytes_rest, bind_some, when_some, some_is, Takes, takes_then, takes_byte, wide16, wide64, number_takes, number_again}
use Rattle.change_set.proofs.CellsAgain.{AreKinds, kinds_of, kinds_at, cells_take, cells_again, cells_short}

-- the columns of a table may be
pub kinds_in : (tables : List TableDef) (table : ℕ) → AllByRecursion IsTable tables → AreKinds (get_or tables table no_table).columns
kinds_in [] table valid = tt
kinds_in (def ∷ defs) zero valid = kinds_of def.columns valid.0.columns.each
kinds_in (def ∷ defs) (suc table) valid = kinds_in defs table valid.1

module _ (schema : Schema) where
  abbrev TakesTable : List ℕ → ℕ × List ℕ → Type 0
  TakesTable bytes x = Takes bytes (to_be_bytes w16 x.0) x.1 × (x.0 < length schema.tables)

  table_takes : (bytes : List ℕ) (x : ℕ × List ℕ) → IsBytes bytes → table_at schema bytes ≡ Some x → TakesTable bytes x
  unfolding table_at
  table_takes bytes x fits e =
      let b = bind_some (number_at w16 bytes) (λ n. cond (ltb n.0 (length schema.tables)) (Some n) None) x e in
      let g = when_some (ltb b.0.0 (length schema.tables)) b.0 x b.2 in
      let t = number_takes w16 (2 ^ 16) wide16 bytes b.0.0 b.0.1 fits b.1 in
      let taken : TakesTable bytes b.0 = (t.0, ltb-true _ _ g.0) in
      subst (TakesTable bytes) g.1 taken

  table_again : (table : ℕ) (rest : List ℕ) → table < length schema.tables → table < 2 ^ 16 → table_at schema (to_be_bytes w16 table ++ rest) ≡ Some (table, rest)
  unfolding table_at
  table_again table rest within small = rw (number_again w16 (2 ^ 16) wide16 table rest small, lt-ltb _ _ within) refl

  abbrev pub TakesChange : List ℕ → Change × List ℕ → Type 0
  TakesChange bytes x = Takes bytes (change_bytes x.0) x.1 × FitsSchema schema x.0

  put_takes : (bytes : List ℕ) (x : Change × List ℕ) → IsBytes bytes → put_at schema bytes ≡ Some x → TakesChange (1 ∷ bytes) x
  unfolding put_at
  put_takes bytes x fits e =
      let a = bind_some (table_at schema bytes) (λ t. cells_at (def_in schema t.0).columns t.1 >>= λ row. Some (Put t.0 row.0, row.1)) x e in
      let b = bind_some (cells_at (def_in schema a.0.0).columns a.0.1) (λ row. Some (Put a.0.0 row.0, row.1)) x a.2 in
      let table = table_takes bytes a.0 fits a.1 in
      let row = cells_take (def_in schema a.0.0).columns a.0.1 b.0 table.0.rest_fits b.1 in
      let both = takes_then bytes (to_be_bytes w16 a.0.0) a.0.1 (values_bytes b.0.0) b.0.1 table.0 row.0 in
      let made : TakesChange (1 ∷ bytes) (Put a.0.0 b.0.0, b.0.1) = (takes_byte 1 bytes (to_be_bytes w16 a.0.0 ++ values_bytes b.0.0) b.0.1 both, (table.1, row.1)) in
      subst (TakesChange (1 ∷ bytes)) (some_is (Put a.0.0 b.0.0, b.0.1) x b.2) made

  delete_takes : (bytes : List ℕ) (x : Change × List ℕ) → IsBytes bytes → delete_at schema bytes ≡ Some x → TakesChange (2 ∷ bytes) x
  unfolding delete_at
  delete_takes bytes x fits e =
      let a = bind_some (table_at schema bytes) (λ t. cells_at (columns_at (def_in schema t.0).columns (key_columns schema t.0)) t.1 >>= λ key. Some (Delete t.0 key.0, key.1)) x e in
      let columns = columns_at (def_in schema a.0.0).columns (key_columns schema a.0.0) in
      let b = bind_some (cells_at columns a.0.1) (λ key. Some (Delete a.0.0 key.0, key.1)) x a.2 in
      let table = table_takes bytes a.0 fits a.1 in
      let key = cells_take columns a.0.1 b.0 table.0.rest_fits b.1 in
      let both = takes_then bytes (to_be_bytes w16 a.0.0) a.0.1 (values_bytes b.0.0) b.0.1 table.0 key.0 in
      let made : TakesChange (2 ∷ bytes) (Delete a.0.0 b.0.0, b.0.1) = (takes_byte 2 bytes (to_be_bytes w16 a.0.0 ++ values_bytes b.0.0) b.0.1 both, (table.1, key.1)) in
      subst (TakesChange (2 ∷ bytes)) (some_is (Delete a.0.0 b.0.0, b.0.1) x b.2) made

  count_takes : (bytes : List ℕ) (x : Change × List ℕ) → IsBytes bytes → count_at schema bytes ≡ Some x → TakesChange (3 ∷ bytes) x
  unfolding count_at
  count_takes bytes x fits e =
      let a = bind_some (table_at schema bytes) (λ t. number_at w64 t.1 >>= λ n. Some (Count t.0 n.0, n.1)) x e in
      let b = bind_some (number_at w64 a.0.1) (λ n. Some (Count a.0.0 n.0, n.1)) x a.2 in
      let table = table_takes bytes a.0 fits a.1 in
      let number = number_takes w64 (2 ^ 64) wide64 a.0.1 b.0.0 b.0.1 table.0.rest_fits b.1 in
      let both = takes_then bytes (to_be_bytes w16 a.0.0) a.0.1 (to_be_bytes w64 b.0.0) b.0.1 table.0 number.0 in
      let made : TakesChange (3 ∷ bytes) (Count a.0.0 b.0.0, b.0.1) = (takes_byte 3 bytes (to_be_bytes w16 a.0.0 ++ to_be_bytes w64 b.0.0) b.0.1 both, (table.1, number.1)) in
      subst (TakesChange (3 ∷ bytes)) (some_is (Count a.0.0 b.0.0, b.0.1) x b.2) made

  pub change_takes : (bytes : List ℕ) (x : Change × List ℕ) → IsBytes bytes → change_at schema bytes ≡ Some x → TakesChange bytes x
  unfolding change_at
  change_takes [] x fits e = absurd cc
  change_takes (zero ∷ bytes) x fits e = absurd cc
  change_takes (suc zero ∷ bytes) x fits e = put_takes bytes x (bytes_rest 1 bytes fits) e
  change_takes (suc (suc zero) ∷ bytes) x fits e = delete_takes bytes x (bytes_rest 2 bytes fits) e
  change_takes (suc (suc (suc zero)) ∷ bytes) x fits e = count_takes bytes x (bytes_rest 3 bytes fits) e
  change_takes (suc (suc (suc (suc b))) ∷ bytes) x fits e = absurd cc

  pub change_again : (change : Change) (rest : List ℕ) → FitsSchema schema change → HasBytes change → change_at schema (change_bytes change ++ rest) ≡ Some (change, rest)
  unfolding change_at put_at delete_at count_at
  change_again (Put table row) rest fits has =
      ap (put_at schema) (append_assoc (to_be_bytes w16 table) (values_bytes row) rest)
      ∙ rw (table_again table (values_bytes row ++ rest) fits.0 has.0, cells_again (def_in schema table).columns row rest fits.1 has.1) refl
  change_again (Delete table key) rest fits has =
      ap (delete_at schema) (append_assoc (to_be_bytes w16 table) (values_bytes key) rest)
      ∙ rw (table_again table (values_bytes key ++ rest) fits.0 has.0, cells_again (columns_at (def_in schema table).columns (key_columns schema table)) key rest fits.1 has.1) refl
  change_again (Count table counter) rest fits has =
      ap (count_at schema) (append_assoc (to_be_bytes w16 table) (to_be_bytes w64 counter) rest)
      ∙ rw (table_again table (to_be_bytes w64 counter ++ rest) fits.0 has, number_again w64 (2 ^ 64) wide64 counter rest fits.1) refl

  pub bytes_when_fit : (change : Change) → IsValid schema → FitsSchema schema change → HasBytes change
  bytes_when_fit (Put table row) valid fits = (omega (arith, fits.0, valid.most), cells_short (def_in schema table).columns row (kinds_in schema.tables table valid.tables) fits.1)
  bytes_when_fit (Delete table key) valid fits = (omega (arith, fits.0, valid.most), cells_short (columns_at (def_in schema table).columns (key_columns schema table)) key (kinds_at (def_in schema table).columns (key_columns schema table) (kinds_in schema.tables table valid.tables)) fits.1)
  bytes_when_fit (Count table counter) valid fits = omega (arith, fits.0, valid.most)
