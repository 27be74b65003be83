-- The net changes between valid tables fit their schema.
--     whole_fits, key_fits      each value of a whole row fits its column, and of its primary key
--     held_by      columns hold values that fit them, if the integers have 64 bits
--     no_more      a set has no more changes than bytes
--     net_fits      each net change, and all of them together
--     net_payload      they have a payload, whatever their integers
use Rattle.std.proofs.Common.{◌≡◌, ℕ, zero, suc, ◌+◌, ◌^◌, ◌<◌, ◌≤◌, Bool, true, false, not, cond, List, [], ◌∷◌, ◌++◌, length, map, zip, get_or, refl, sym, ap, subst, ◌∙◌, inl, inr, arith, append_assoc, length-append}
use Rattle.std.specs.Prelude.{Contains, Option, Some, None, sum_by}
use Rattle.std.specs.List.{AllByRecursion, AllZip, position_from}
use Rattle.std.proofs.lemmas.List.Concat.{length-flat_map}
use Rattle.std.proofs.lemmas.List.Sums.{sum_by-cons}
use Rattle.std.proofs.lemmas.List.Elements.{Contains-append_cases}
use Rattle.index_tree.proofs.Elements.{no_member, each_member, all_members}
use Rattle.row_types.specs.declared.values.Value.{Value}
use Rattle.row_types.specs.declared.values.Value.TheVariants as values
use Rattle.row_types.specs.declared.columns.Column.{Column}
use Rattle.row_types.specs.declared.columns.Fit.TheVariants.{Fine, NullHere}
use Rattle.row_types.specs.declared.tables.TableDef.{TableDef}
use Rattle.row_types.specs.declared.tables.Schema.{Schema}
use Rattle.row_types.specs.Counted.{counted_of}
use Rattle.row_types.specs.Fit.{kind_fit, fit_of}
use Rattle.row_types.specs.Valid.{IsHeld, IsTable, IsValid}
use Rattle.table_rows.specs.Checks.{IsRow, is_null_in}
use Rattle.table_rows.specs.Counters.{IsCounter}
use Rattle.table_rows.specs.Entries.{Entry, cell_at, cells}
use Rattle.table_rows.specs.Rows.{no_table}
use Rattle.table_rows.specs.Valid.{IsWhole, AreValidRows}
use Rattle.table_rows.specs.Database.{Database, Holding, placed, placed_from}
use Rattle.change_set.specs.declared.change.Change.{Change}
use Rattle.change_set.specs.declared.change.Change.TheVariants.{Put, Delete, Count}
use Rattle.change_set.specs.Sets.{def_in, key_columns}
use Rattle.change_set.specs.Fitting.{AreHeld, columns_at, no_column, FitsSchema, AreChanges, IsHeldIn, AreValuesHeld}
use Rattle.change_set.specs.Payload.{change_bytes, HasBytes, HavePayload}
use Rattle.change_set.specs.Net.{table_changes, changes_from, changes}
use Rattle.change_set.specs.Putting.{IsValidDatabase}
use Rattle.change_set.proofs.CellsAgain.{AreFit, fit_short, kinds_at}
use Rattle.change_set.proofs.ChangesAgain.{kinds_in}
use Rattle.change_set.proofs.Keyed.{AreWithin, primary_within}
use Rattle.change_set.proofs.NetMembers.{IsNetOf, net_of_member}
use Rattle.change_set.proofs.NetOrder.{changes_ascend, EachAscends}
use Rattle.change_set.proofs.Nets.{each_ascends, drop_columns}
use Rattle.change_set.proofs.ShortPayload.{payload_short}

none_both : (b : Bool) (n : ℕ) (o : Option ℕ) → cond b (Some n) o ≡ None → (b ≡ false) × (o ≡ None)
none_both true n o e = absurd cc
none_both false n o e = (refl, e)

null_allowed : (b : Bool) → not b ≡ false → cond b Fine NullHere ≡ Fine
null_allowed true e = refl
null_allowed false e = absurd cc

fits_one : (column : Column) (value : Value) → kind_fit column.kind value ≡ Fine → is_null_in (column, value) ≡ false → fit_of column value ≡ Fine
fits_one column values.Null fit allowed = null_allowed column.null allowed
fits_one column (values.Int n) fit allowed = fit
fits_one column (values.Text t) fit allowed = fit

whole_from : (n : ℕ) (columns : List Column) (row : List Value) → IsRow columns row → position_from is_null_in n (zip columns row) ≡ None → AreFit columns row
whole_from n [] [] fit none = tt
whole_from n [] (v ∷ vs) fit none = absurd fit
whole_from n (c ∷ cs) [] fit none = absurd fit
whole_from n (c ∷ cs) (v ∷ vs) fit none =
    let both = none_both (is_null_in (c, v)) n (position_from is_null_in (n + 1) (zip cs vs)) none in
    (fits_one c v fit.0 both.0, whole_from (n + 1) cs vs fit.1 both.1)

pub whole_fits : (columns : List Column) (row : List Value) → IsWhole columns row → AreFit columns row
whole_fits columns row whole = whole_from 0 columns row whole.cells whole.no_null

-- one cell of it
cell_fits : (columns : List Column) (row : List Value) (place : ℕ) → place < length columns → AreFit columns row → fit_of (get_or columns place no_column) (cell_at row place) ≡ Fine
cell_fits [] row place within fit = absurd (omega (arith, within))
cell_fits (c ∷ cs) [] place within fit = absurd fit
cell_fits (c ∷ cs) (v ∷ vs) zero within fit = fit.0
cell_fits (c ∷ cs) (v ∷ vs) (suc place) within fit = cell_fits cs vs place (omega (arith, within)) fit.1

pub key_fits : (columns : List Column) (places : List ℕ) (row : List Value) → AreWithin columns places → AreFit columns row → AreFit (columns_at columns places) (cells places row)
key_fits columns [] row within fit = tt
key_fits columns (place ∷ places) row within fit = (cell_fits columns row place within.0 fit, key_fits columns places row within.1 fit)

pub held_by : (columns : List Column) (values : List Value) → AreFit columns values → AllByRecursion IsHeld values → AreHeld columns values
held_by [] [] fit held = tt
held_by [] (v ∷ vs) fit held = absurd fit
held_by (c ∷ cs) [] fit held = absurd fit
held_by (c ∷ cs) (v ∷ vs) fit held = (record { fits = fit.0; held = held.0 }, held_by cs vs fit.1 held.1)

whole_rows : (def : TableDef) (first : ℕ) (rows : List (List Value)) → AllByRecursion (λ (entry : Entry). IsWhole def.columns entry.0) (placed_from first rows) → AllByRecursion (IsWhole def.columns) rows
whole_rows def first [] whole = tt
whole_rows def first (row ∷ rows) whole = (whole.0, whole_rows def (suc first) rows whole.1)

member_fits : (def : TableDef) (holding : Holding) (row : List Value) → AreValidRows def (placed holding) → Contains holding.rows row → AreFit def.columns row
member_fits def holding row valid inside =
    whole_fits def.columns row (all_members (IsWhole def.columns) holding.rows row (whole_rows def 0 holding.rows valid.whole) inside)

counter_small : (counted : Option ℕ) (counter : ℕ) → IsCounter counted counter → counter < 2 ^ 64
counter_small None counter is = omega (arith, is)
counter_small (Some column) counter is = omega (arith, is.1)

-- a change is of a table of the schema, and its values fit their columns
abbrev FitsThere : Schema → Change → Type 0
FitsThere schema (Put table row) = (table < length schema.tables) × AreFit (def_in schema table).columns row
FitsThere schema (Delete table key) =
    (table < length schema.tables) × AreFit (columns_at (def_in schema table).columns (key_columns schema table)) key
FitsThere schema (Count table counter) = (table < length schema.tables) × (counter < 2 ^ 64)

module _ (schema : Schema) where
  fits_change : (table : ℕ) (before after : Holding) → table < length schema.tables → IsTable (def_in schema table) → AreValidRows (def_in schema table) (placed before) → AreValidRows (def_in schema table) (placed after) → (c : Change) → IsNetOf schema table before after c → FitsThere schema c
  fits_change table before after within def old new (Put t row) net =
      let there : FitsThere schema (Put table row) = (within, member_fits (def_in schema table) after row new net.1) in
      subst (λ (n : ℕ). FitsThere schema (Put n row)) (sym net.0) there
  fits_change table before after within def old new (Delete t key) net =
      let columns = (def_in schema table).columns in
      let places = key_columns schema table in
      let fit = key_fits columns places net.1.0 (primary_within columns (def_in schema table).indexes def.indexes.each) (member_fits (def_in schema table) before net.1.0 old net.1.1) in
      let there : FitsThere schema (Delete table key) = (within, subst (AreFit (columns_at columns places)) net.1.2 fit) in
      subst (λ (n : ℕ). FitsThere schema (Delete n key)) (sym net.0) there
  fits_change table before after within def old new (Count t counter) net =
      subst (λ (n : ℕ). FitsThere schema (Count n counter)) (sym net.0)
      (within, subst (λ (n : ℕ). n < 2 ^ 64) (sym net.1) (counter_small (counted_of (def_in schema table).columns) after.counter new.counter))

  -- tables behind others of the schema
  fit_from : (front defs : List TableDef) (befores afters : List Holding) → schema.tables ≡ front ++ defs → AllByRecursion IsTable defs → AllZip AreValidRows defs (map placed befores) → AllZip AreValidRows defs (map placed afters) → (c : Change) → Contains (changes_from schema (length front) befores afters) c → FitsThere schema c
  fit_from front defs [] afters is tables old new c inside = absurd (no_member c inside)
  fit_from front defs (b ∷ xs) [] is tables old new c inside = absurd (no_member c inside)
  fit_from front [] (b ∷ xs) (a ∷ ys) is tables old new c inside = absurd old
  fit_from front (d ∷ ds) (b ∷ xs) (a ∷ ys) is tables old new c inside =
      elim (Contains-append_cases (table_changes schema (length front) b a) (changes_from schema (suc (length front)) xs ys) c inside) [
        | inl own ↦
            fits_change (length front) b a within (subst IsTable (sym def) tables.0) (subst (λ (t : TableDef). AreValidRows t (placed b)) (sym def) old.0) (subst (λ (t : TableDef). AreValidRows t (placed a)) (sym def) new.0) c (net_of_member schema (length front) b a c own)
        | inr later ↦
            fit_from (front ++ d ∷ []) ds xs ys (is ∙ sym (append_assoc front (d ∷ []) ds)) tables.1 old.1 new.1 c (subst (λ (n : ℕ). Contains (changes_from schema n xs ys) c) (sym longer) later)
      ]
    where
      def : def_in schema (length front) ≡ d
      def = ap (λ (ts : List TableDef). get_or ts (length front) no_table) is ∙ drop_columns front d ds

      within : length front < length schema.tables
      within = omega (arith, ap length is, length-append front (d ∷ ds))

      longer : length (front ++ d ∷ []) ≡ suc (length front)
      longer = omega (arith, length-append front (d ∷ []))

  -- then it fits, if its integers have 64 bits
  fits_held : (c : Change) → FitsThere schema c → IsHeldIn c → FitsSchema schema c
  fits_held (Put table row) fit held = (fit.0, held_by (def_in schema table).columns row fit.1 held)
  fits_held (Delete table key) fit held = (fit.0, held_by (columns_at (def_in schema table).columns (key_columns schema table)) key fit.1 held)
  fits_held (Count table counter) fit held = fit

  -- and it has bytes
  has_bytes : IsValid schema → (c : Change) → FitsThere schema c → HasBytes c
  has_bytes valid (Put table row) fit = (omega (arith, fit.0, valid.most), fit_short (def_in schema table).columns row (kinds_in schema.tables table valid.tables) fit.1)
  has_bytes valid (Delete table key) fit =
      let columns = (def_in schema table).columns in
      let places = key_columns schema table in
      (omega (arith, fit.0, valid.most), fit_short (columns_at columns places) key (kinds_at columns places (kinds_in schema.tables table valid.tables)) fit.1)
  has_bytes valid (Count table counter) fit = omega (arith, fit.0, valid.most)

some_bytes : (c : Change) → 1 ≤ length (change_bytes c)
some_bytes (Put t row) = omega arith
some_bytes (Delete t key) = omega arith
some_bytes (Count t counter) = omega arith

pub no_more : (changes : List Change) → length changes ≤ sum_by (λ (c : Change). length (change_bytes c)) changes
no_more [] = omega arith
no_more (c ∷ cs) = omega (arith, sum_by-cons (λ (c : Change). length (change_bytes c)) c cs, some_bytes c, no_more cs)

module _ (before after : Database) (old : IsValidDatabase before) (new : IsValidDatabase after) (schema : after.schema ≡ before.schema) where
  each_there : (c : Change) → Contains (changes before after) c → FitsThere before.schema c
  each_there = fit_from before.schema [] before.schema.tables before.tables after.tables refl old.schema.tables old.tables (subst (λ (s : Schema). AllZip AreValidRows s.tables (map placed after.tables)) schema new.tables)

  few : length (changes before after) < 2 ^ 32
  few = omega (arith, payload_short before after old new, length-flat_map change_bytes (changes before after), no_more (changes before after))

  pub net_fits : AreValuesHeld (changes before after) → AreChanges before.schema (changes before after)
  net_fits held = record {
    each = each_member (FitsSchema before.schema) (changes before after) (λ c inside. fits_held before.schema c (each_there c inside) (all_members IsHeldIn (changes before after) c held inside));
    ascending = changes_ascend before.schema 0 before.tables after.tables (each_ascends before old) (subst (λ (s : Schema). EachAscends s 0 after.tables) schema (each_ascends after new));
    most = few;
  }

  pub net_payload : HavePayload (changes before after)
  net_payload = record {
    each = each_member HasBytes (changes before after) (λ c inside. has_bytes before.schema old.schema c (each_there c inside));
    most = few;
  }
