-- A changed row has a value of its kind for each column.
--     row_kinds      the row in a slot
--     changed_kinds      and what a change makes of it
use Rattle.std.proofs.Common.{◌≡◌, ◌≢◌, ℕ, ◌<◌, Bool, true, false, cond, List, [], ◌∷◌, length, get_or, set, Result, Ok, Err, refl, subst}
use Rattle.std.specs.Prelude.{◌+ℤ◌, ◌-ℤ◌, ℤ}
use Rattle.std.specs.List.{AllByRecursion, All}
use Rattle.std.proofs.lemmas.List.Elements.{recursion_from_All}
use Rattle.index_tree.proofs.Elements.{all_members}
use Rattle.row_types.specs.declared.values.Value.{Value}
use Rattle.row_types.specs.declared.values.Value.TheVariants as values
use Rattle.row_types.specs.declared.columns.Kind.{Kind}
use Rattle.row_types.specs.declared.columns.Kind.TheVariants.{Int, Bytes}
use Rattle.row_types.specs.declared.columns.Fit.TheVariants.{WrongKind}
use Rattle.row_types.specs.declared.columns.Column.{Column}
use Rattle.row_types.specs.declared.tables.TableDef.{TableDef}
use Rattle.row_types.specs.Fit.{kind_fit}
use Rattle.table_rows.specs.Entries.{Entry, cell_at}
use Rattle.request_types.specs.declared.mods.ModKind.{ModKind}
use Rattle.request_types.specs.declared.mods.ModKind.TheVariants.{Update, Add, Subtract, Remove}
use Rattle.request_types.specs.declared.mods.ModSpec.{ModSpec}
use Rattle.request_types.specs.Fits.{IsOfKind, IsAt, AreAt, AreNumbers, ValuesFit, ModFitsTable}
use Rattle.request_types.proofs.FitFacts.{holds_there}
use Rattle.request_types.specs.declared.codes.Code.{Code}
use Rattle.request_types.specs.Refusal.{◌>>=◌}
use Rattle.request_types.specs.declared.codes.Code.TheVariants.{Range}
use Rattle.table_rows.specs.Rows.{State, columns_of, entries_of}
use Rattle.table_rows.specs.Slots.{is_live, row_at, row_of}
use Rattle.table_rows.specs.Checks.{IsRow}
use Rattle.table_rows.specs.Valid.{IsWhole, IsValidState}
use Rattle.table_rows.proofs.BySlot.{found}
use Rattle.table_rows.proofs.States.{rows_valid, zip_set, zip_at, zip_long}
use Rattle.row_insert.specs.Refusal.{IsOfKinds}
use Rattle.row_insert.proofs.ValueKinds.{of_kind, fine_kind}
use Rattle.find_modify.specs.Cells.{held, is_outside, turns, added, taken_off, changed_cell, changed_row}

-- the row in a slot
whole_kinds : (columns : List Column) (row : List Value) → IsRow columns row → IsOfKinds columns row
whole_kinds [] [] whole = tt
whole_kinds [] (v ∷ vs) whole = absurd whole
whole_kinds (c ∷ cs) [] whole = absurd whole
whole_kinds (c ∷ cs) (v ∷ vs) whole = (fine_kind c.kind v whole.0, whole_kinds cs vs whole.1)

pub row_kinds : (state : State) → IsValidState state → (table : ℕ) → table < length state.tables → (slot : ℕ) → is_live slot (entries_of state table) ≡ true → IsOfKinds (columns_of state table) (row_at state table slot)
row_kinds state valid table within slot live =
    let rows = rows_valid state valid table within in
    let whole : IsWhole (columns_of state table) (row_at state table slot) = all_members (λ (e : Entry). IsWhole (columns_of state table) e.0) (entries_of state table) (row_of slot (entries_of state table), slot) rows.whole (found slot (entries_of state table) live) in
    whole_kinds (columns_of state table) (row_at state table slot) whole.cells

pub kinds_long : (columns : List Column) (row : List Value) → IsOfKinds columns row → length columns ≡ length row
kinds_long columns row kinds = zip_long (λ (column : Column) (value : Value). kind_fit column.kind value ≢ WrongKind) columns row kinds

-- a change of one cell
abbrev pub done : {A : Type 0} → A → Result A Code
done x = Ok x

pub ok_is : {A : Type 0} (x y : A) → done x ≡ done y → x ≡ y
ok_is x y same = cc

some_int : (kind : Kind) (n m : ℤ) → kind_fit kind (values.Int n) ≢ WrongKind → kind_fit kind (values.Int m) ≢ WrongKind
some_int Int n m of = λ wrong. cc
some_int (Bytes most) n m of = absurd (of refl)

held_kind : (kind : Kind) (n m : ℤ) (made : Value) → held m ≡ Ok made → kind_fit kind (values.Int n) ≢ WrongKind → kind_fit kind made ≢ WrongKind
held_kind kind n m made is of = by_range (is_outside m) is
  where
    by_range : (b : Bool) → cond b (Err Range) (Ok (values.Int m)) ≡ Ok made → kind_fit kind made ≢ WrongKind
    by_range true refused = absurd cc
    by_range false held_is = subst (λ (v : Value). kind_fit kind v ≢ WrongKind) (ok_is (values.Int m) made held_is) (some_int kind n m of)

stays_kind : (kind : Kind) (cell made : Value) → done cell ≡ Ok made → kind_fit kind cell ≢ WrongKind → kind_fit kind made ≢ WrongKind
stays_kind kind cell made is of = subst (λ (v : Value). kind_fit kind v ≢ WrongKind) (ok_is cell made is) of

added_kind : (kind : Kind) (cell value made : Value) → added cell value ≡ Ok made → kind_fit kind cell ≢ WrongKind → kind_fit kind made ≢ WrongKind
added_kind kind (values.Int n) (values.Int m) made is of = held_kind kind n (n +ℤ m) made is of
added_kind kind (values.Int n) values.Null made is of = stays_kind kind (values.Int n) made is of
added_kind kind (values.Int n) (values.Text t) made is of = stays_kind kind (values.Int n) made is of
added_kind kind values.Null value made is of = stays_kind kind values.Null made is of
added_kind kind (values.Text s) value made is of = stays_kind kind (values.Text s) made is of

taken_kind : (kind : Kind) (cell value made : Value) → taken_off cell value ≡ Ok made → kind_fit kind cell ≢ WrongKind → kind_fit kind made ≢ WrongKind
taken_kind kind (values.Int n) (values.Int m) made is of = by_sign (turns n (n -ℤ m)) is
  where
    by_sign : (b : Bool) → cond b (Ok (values.Int n)) (held (n -ℤ m)) ≡ Ok made → kind_fit kind made ≢ WrongKind
    by_sign true stays = stays_kind kind (values.Int n) made stays of
    by_sign false goes = held_kind kind n (n -ℤ m) made goes of
taken_kind kind (values.Int n) values.Null made is of = stays_kind kind (values.Int n) made is of
taken_kind kind (values.Int n) (values.Text t) made is of = stays_kind kind (values.Int n) made is of
taken_kind kind values.Null value made is of = stays_kind kind values.Null made is of
taken_kind kind (values.Text s) value made is of = stays_kind kind (values.Text s) made is of

-- a change of some cells
bind_ok : {A B : Type 0} (r : Result A Code) (f : A → Result B Code) (y : B) → (r >>= f) ≡ Ok y → (x : A) × (r ≡ Ok x) × (f x ≡ Ok y)
bind_ok (Ok x) f y is = (x, refl, is)
bind_ok (Err code) f y is = absurd cc

module _ (columns : List Column) where
  no_column : Column
  no_column = record { name = []; kind = Int; null = false; auto = false; preset = values.Null }

  value_fits : (kind : ModKind) (n : ℕ) (value cell made : Value) → (kind ≡ Update → IsAt IsOfKind columns n value) → changed_cell kind cell value ≡ Ok made → kind_fit (get_or columns n no_column).kind cell ≢ WrongKind → kind_fit (get_or columns n no_column).kind made ≢ WrongKind
  value_fits Update n value cell made at is of =
      let k = (get_or columns n no_column).kind in
      stays_kind k value made is (of_kind k value (holds_there (λ (c : Column). IsOfKind c.kind value) columns n no_column (at refl)))
  value_fits Add n value cell made at is of = added_kind (get_or columns n no_column).kind cell value made is of
  value_fits Subtract n value cell made at is of = taken_kind (get_or columns n no_column).kind cell value made is of
  value_fits Remove n value cell made at is of = stays_kind (get_or columns n no_column).kind cell made is of

  cells_kinds : (kind : ModKind) (numbers : List ℕ) (named row made : List Value) → AllByRecursion (λ n. n < length columns) numbers → (kind ≡ Update → AreAt IsOfKind columns numbers named) → IsOfKinds columns row → changed_row kind numbers named row ≡ Ok made → IsOfKinds columns made
  cells_kinds kind numbers [] row made within at kinds is = subst (IsOfKinds columns) (ok_is row made is) kinds
  cells_kinds kind [] (v ∷ vs) row made within at kinds is = subst (IsOfKinds columns) (ok_is row made is) kinds
  cells_kinds kind (n ∷ ns) (v ∷ vs) row made within at kinds is =
      let R : Column → Value → Type 0 = λ (column : Column) (value : Value). kind_fit column.kind value ≢ WrongKind in
      let parts = bind_ok (changed_cell kind (cell_at row n) v) (λ (cell : Value). changed_row kind ns vs (set row n cell)) made is in
      let inside : n < length row = subst (λ (m : ℕ). n < m) (kinds_long columns row kinds) within.0 in
      let old = zip_at R columns row n no_column values.Null kinds inside in
      let new = value_fits kind n v (cell_at row n) parts.0 (λ update. (at update).0) parts.1 old in
      cells_kinds kind ns vs (set row n parts.0) made within.1 (λ update. (at update).1) (zip_set R columns row n no_column parts.0 kinds new) parts.2

values_at : (columns : List Column) (kind : ModKind) (numbers : List ℕ) (named : List Value) → ValuesFit kind columns numbers named → kind ≡ Update → AreAt IsOfKind columns numbers named
values_at columns Update numbers named fit update = fit
values_at columns Add numbers named fit update = absurd cc
values_at columns Subtract numbers named fit update = absurd cc
values_at columns Remove numbers named fit update = absurd cc

pub changed_kinds : (def : TableDef) (numbers : List ℕ) (change : ModSpec) (row made : List Value) → AreNumbers def.columns numbers → ModFitsTable def numbers change → IsOfKinds def.columns row → changed_row change.kind numbers change.values row ≡ Ok made → IsOfKinds def.columns made
changed_kinds def numbers change row made named fit kinds is =
    cells_kinds def.columns change.kind numbers change.values row made (recursion_from_All _ numbers named.within) (values_at def.columns change.kind numbers change.values fit.values) kinds is

-- the columns are the row's
pub within_row : (columns : List Column) (row : List Value) → IsOfKinds columns row → (numbers : List ℕ) → AreNumbers columns numbers → All (λ n. n < length row) numbers
within_row columns row kinds numbers named =
    subst (λ (m : ℕ). All (λ n. n < m) numbers) (kinds_long columns row kinds) named.within
