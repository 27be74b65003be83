-- One table of a state.
--     rows_with, entries_given, counter_with, with_again, counter_again, with_same      what a change of a table's rows makes of them
--     zip_set, zip_at, rows_valid, primary_in, state_with      valid states
use Rattle.std.proofs.Common.{◌≡◌, ℕ, zero, suc, ◌<◌, ◌≤◌, true, List, [], ◌∷◌, length, get_or, set, refl, ap, sym, subst, ◌∙◌, arith, get_or-set_same, set-set}
use Rattle.std.specs.List.{AllZip, list_any}
use Rattle.std.proofs.lemmas.List.{set-get_or}
use Rattle.std.proofs.lemmas.List.Elements.{All-from_recursion}
use Rattle.row_types.specs.declared.indexes.IndexDef.{IndexDef}
use Rattle.row_types.specs.Valid.{is_primary, IsTable}
use Rattle.table_rows.specs.Entries.{Entry}
use Rattle.table_rows.specs.Rows.{Rows, State, no_table, no_rows, def_of, indexes_of, rows_of, entries_of, room_of, counter_of, with_rows, with_counted, with_counter, with_entries}
use Rattle.table_rows.specs.Sizes.{total, most_bytes}
use Rattle.table_rows.specs.Valid.{AreValidRows, IsValidState}

module _ (state : State) (table : ℕ) (within : table < length state.tables) where
  pub rows_with : (rows : Rows) → rows_of (with_rows state table rows) table ≡ rows
  rows_with rows = get_or-set_same state.tables table rows no_rows within

  pub entries_given : (entries : List Entry) (counter : ℕ) → entries_of (with_counted state table entries counter) table ≡ entries
  entries_given entries counter = ap (λ (rows : Rows). rows.entries) (rows_with _)

  pub room_with : (entries : List Entry) (counter : ℕ) → room_of (with_counted state table entries counter) table ≡ room_of state table
  room_with entries counter = ap (λ (rows : Rows). rows.room) (rows_with _)

  pub counter_with : (entries : List Entry) (counter : ℕ) → counter_of (with_counted state table entries counter) table ≡ counter
  counter_with entries counter = ap (λ (rows : Rows). rows.counter) (rows_with _)

  pub with_again : (entries : List Entry) (counter : ℕ) (more : List Entry) (later : ℕ) → with_counted (with_counted state table entries counter) table more later ≡ with_counted state table more later
  with_again entries counter more later =
      ap (λ (room : ℕ). with_rows (with_counted state table entries counter) table (record { entries = more; room = room; counter = later })) (room_with entries counter)
      ∙ ap (λ (tables : List Rows). record { schema = state.schema; bytes_max = state.bytes_max; tables = tables }) (set-set state.tables table _ _)

  -- another counter after other entries
  pub counter_again : (entries : List Entry) (counter later : ℕ) → with_counter (with_counted state table entries counter) table later ≡ with_counted state table entries later
  counter_again entries counter later =
      ap (λ (es : List Entry). with_counted (with_counted state table entries counter) table es later) (entries_given entries counter) ∙ with_again entries counter entries later

pub with_same : (state : State) (table : ℕ) → with_entries state table (entries_of state table) ≡ state
with_same state table = ap (λ (tables : List Rows). record { schema = state.schema; bytes_max = state.bytes_max; tables = tables }) (set-get_or state.tables table no_rows)

pub zip_set : {A B : Type 0} (R : A → B → Type 0) (xs : List A) (ys : List B) (i : ℕ) (d : A) (y : B) → AllZip R xs ys → R (get_or xs i d) y → AllZip R xs (set ys i y)
zip_set R [] [] i d y zip at = tt
zip_set R [] (z ∷ ys) i d y zip at = absurd zip
zip_set R (x ∷ xs) [] i d y zip at = absurd zip
zip_set R (x ∷ xs) (z ∷ ys) zero d y zip at = (at, zip.1)
zip_set R (x ∷ xs) (z ∷ ys) (suc i) d y zip at = (zip.0, zip_set R xs ys i d y zip.1 at)

pub zip_at : {A B : Type 0} (R : A → B → Type 0) (xs : List A) (ys : List B) (i : ℕ) (d : A) (e : B) → AllZip R xs ys → i < length ys → R (get_or xs i d) (get_or ys i e)
zip_at R [] [] i d e zip within = absurd (omega arith)
zip_at R [] (z ∷ ys) i d e zip within = absurd zip
zip_at R (x ∷ xs) [] i d e zip within = absurd zip
zip_at R (x ∷ xs) (z ∷ ys) zero d e zip within = zip.0
zip_at R (x ∷ xs) (z ∷ ys) (suc i) d e zip within = zip_at R xs ys i d e zip.1 (omega arith)

pub zip_long : {A B : Type 0} (R : A → B → Type 0) (xs : List A) (ys : List B) → AllZip R xs ys → length xs ≡ length ys
zip_long R [] [] zip = refl
zip_long R [] (z ∷ ys) zip = absurd zip
zip_long R (x ∷ xs) [] zip = absurd zip
zip_long R (x ∷ xs) (z ∷ ys) zip = ap suc (zip_long R xs ys zip.1)

module _ (state : State) (valid : IsValidState state) (table : ℕ) (within : table < length state.tables) where
  pub table_in_schema : table < length state.schema.tables
  table_in_schema = subst (λ (n : ℕ). table < n) (sym (zip_long AreValidRows state.schema.tables state.tables valid.tables)) within

  pub def_valid : IsTable (def_of state table)
  def_valid = All-from_recursion IsTable state.schema.tables valid.schema.tables table no_table table_in_schema

  pub rows_valid : AreValidRows (def_of state table) (rows_of state table)
  rows_valid = zip_at AreValidRows state.schema.tables state.tables table no_table no_rows valid.tables within

  pub primary_in : list_any (λ (i : IndexDef). is_primary i.kind) (indexes_of state table) ≡ true
  primary_in = def_valid.indexes.primary

  pub state_with : (rows : Rows) → AreValidRows (def_of state table) rows → total (with_rows state table rows) ≤ most_bytes → IsValidState (with_rows state table rows)
  state_with rows more bytes = record {
    schema = valid.schema;
    tables = zip_set AreValidRows state.schema.tables state.tables table no_table rows valid.tables more;
    bytes = bytes;
    most = valid.most;
  }
