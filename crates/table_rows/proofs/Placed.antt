-- Valid rows stay valid.
--     apart_when_new, valid_with, valid_without, valid_room      with a row that may stand there, without one, in more slots
use Rattle.std.proofs.Common.{◌≡◌, ℕ, ◌<◌, ◌≤◌, true, false, not, filter, List, [], ◌∷◌, sym, subst, ◌∙◌, le_trans, lt_of_lt_of_le}
use Rattle.std.specs.List.{AllByRecursion, list_any}
use Rattle.std.specs.Ordering.{is_eq}
use Rattle.index_tree.specs.Ordered.{IsApartFrom, is_below}
use Rattle.index_tree.specs.Parts.{IsParted}
use Rattle.index_tree.proofs.Elements.{all_kept, all_weaker, all_members}
use Rattle.index_tree.proofs.Members.{all_put}
use Rattle.index_tree.proofs.Apart.{apart_to_front, apart_from_ascending}
use Rattle.index_tree.proofs.Ascending.{ascending_kept, ascending_with_item, parted_below}
use Rattle.row_types.specs.declared.values.Value.{Value}
use Rattle.row_types.specs.declared.indexes.IndexDef.{IndexDef}
use Rattle.row_types.specs.declared.tables.TableDef.{TableDef}
use Rattle.row_types.specs.Counted.{counted_of}
use Rattle.row_types.specs.Valid.{is_primary}
use Rattle.table_rows.specs.Counters.{above_row, IsCounter}
use Rattle.table_rows.specs.Entries.{Entry, entry_cmp}
use Rattle.table_rows.specs.StoreWalks.{is_like, IsNew}
use Rattle.table_rows.specs.Rows.{Rows}
use Rattle.table_rows.specs.Indexes.{primary_of}
use Rattle.table_rows.specs.Slots.{is_in, is_live, row_of, without, with_row}
use Rattle.table_rows.specs.Checks.{meets, IsPlaceable}
use Rattle.table_rows.specs.Valid.{IsWhole, AreUniqueIn, AreValidRows}
use Rattle.table_rows.proofs.Pairs.{pairs_kept, pairs_put}
use Rattle.table_rows.proofs.BySlot.{all_without, other_slot, found}
use Rattle.table_rows.proofs.Keys.{entry_cmp_total, like_back}
use Rattle.table_rows.proofs.Meets.{meets_back, dup_none, new_when_apart}

all_with : {X : Type 0} (P Q R : X → Type 0) → ((x : X) → P x → Q x → R x) → (xs : List X) → AllByRecursion P xs → AllByRecursion Q xs → AllByRecursion R xs
all_with P Q R both [] ps qs = tt
all_with P Q R both (x ∷ xs) ps qs = (both x ps.0 qs.0, all_with P Q R both xs ps.1 qs.1)

pub apart_when_new : (columns : List ℕ) (row : List Value) (slot : ℕ) (entries : List Entry) → IsNew columns row entries → IsApartFrom (entry_cmp columns) (row, slot) entries
apart_when_new columns row slot entries new =
    all_weaker (λ (e : Entry). is_like columns row e ≡ false) (λ (e : Entry). is_eq (entry_cmp columns (row, slot) e) ≡ false) (λ e unlike. sym (like_back columns (row, slot) e) ∙ unlike) entries new

pub new_when_placed : (def : TableDef) (row : List Value) (others : List Entry) → list_any (λ (i : IndexDef). is_primary i.kind) def.indexes ≡ true → IsPlaceable def row others → IsNew (primary_of def.indexes) row others
new_when_placed def row others primary placed = new_when_apart def.indexes row others primary (dup_none def.indexes row others placed.no_dup)

-- the table's other entries are valid by themselves
pub valid_without : (def : TableDef) (rows : Rows) (slot : ℕ) → AreValidRows def rows → AreValidRows def (record rows { entries = without slot rows.entries })
valid_without def rows slot valid = let test = λ (e : Entry). not (is_in slot e) in record {
  whole = all_kept (λ (e : Entry). IsWhole def.columns e.0) test rows.entries valid.whole;
  ascending = ascending_kept (entry_cmp (primary_of def.indexes)) test rows.entries valid.ascending;
  unique = all_weaker (AreUniqueIn rows.entries) (AreUniqueIn (without slot rows.entries)) (λ index pairs. pairs_kept (λ (a b : Entry). meets index a.0 b ≡ false) test rows.entries pairs) def.indexes valid.unique;
  within = all_kept (λ (e : Entry). e.1 < rows.room) test rows.entries valid.within;
  apart = pairs_kept (λ (a b : Entry). is_in a.1 b ≡ false) test rows.entries valid.apart;
  counter = valid.counter;
  below = all_kept (λ (e : Entry). above_row (counted_of def.columns) e.0 ≤ rows.counter) test rows.entries valid.below;
}

-- and parted by where another one would stand
pub parted_without : (def : TableDef) (rows : Rows) (slot : ℕ) (row : List Value) → AreValidRows def rows → IsParted (is_below (entry_cmp (primary_of def.indexes)) (row, slot)) (without slot rows.entries)
parted_without def rows slot row valid = parted_below (entry_cmp (primary_of def.indexes)) (entry_cmp_total (primary_of def.indexes)) (row, slot) (without slot rows.entries) (valid_without def rows slot valid).ascending

-- a row that stands among them was new
pub new_when_valid : (def : TableDef) (rows : Rows) (slot : ℕ) (row : List Value) (counter : ℕ) → AreValidRows def rows → AreValidRows def (record rows { entries = with_row def.indexes slot row rows.entries; counter = counter }) → IsNew (primary_of def.indexes) row (without slot rows.entries)
new_when_valid def rows slot row counter valid after =
    let columns = primary_of def.indexes in
    let cmp = entry_cmp columns in
    let x : Entry = (row, slot) in
    let rest = without slot rows.entries in
    let apart = apart_to_front cmp (entry_cmp_total columns) (filter (is_below cmp x) rest) x (filter (λ y. not (is_below cmp x y)) rest) (apart_from_ascending cmp _ after.ascending) in
    all_weaker (λ (e : Entry). is_eq (cmp x e) ≡ false) (λ (e : Entry). is_like columns row e ≡ false) (λ e other. like_back columns (row, slot) e ∙ other) rest (subst (IsApartFrom cmp x) (parted_without def rows slot row valid) apart.0)

-- and with a row that may stand beside them
module _ (def : TableDef) (rows : Rows) (slot : ℕ) (row : List Value) (primary : list_any (λ (i : IndexDef). is_primary i.kind) def.indexes ≡ true) (valid : AreValidRows def rows) (placed : IsPlaceable def row (without slot rows.entries)) where
  pub others_parted : IsParted (is_below (entry_cmp (primary_of def.indexes)) (row, slot)) (without slot rows.entries)
  others_parted = parted_without def rows slot row valid

  unique_with : (index : IndexDef) → AllByRecursion (λ e. meets index row e ≡ false) (without slot rows.entries) → AreUniqueIn (without slot rows.entries) index → AreUniqueIn (with_row def.indexes slot row rows.entries) index
  unique_with index apart pairs =
      pairs_put (λ (a b : Entry). meets index a.0 b ≡ false) (λ a b none. sym (meets_back index a b) ∙ none) (is_below (entry_cmp (primary_of def.indexes)) (row, slot)) (row, slot) (without slot rows.entries) others_parted apart pairs

  pub valid_with : (counter : ℕ) → IsCounter (counted_of def.columns) counter → rows.counter ≤ counter → above_row (counted_of def.columns) row ≤ counter → slot < rows.room → AreValidRows def (record rows { entries = with_row def.indexes slot row rows.entries; counter = counter })
  valid_with counter is later above within =
      let rest = valid_without def rows slot valid in
      let cmp = entry_cmp (primary_of def.indexes) in
      let entry : Entry = (row, slot) in
      let test = is_below cmp entry in
      record {
        whole = all_put test entry (without slot rows.entries) (λ (e : Entry). IsWhole def.columns e.0) (record { cells = placed.cells; no_null = placed.no_null }) rest.whole;
        ascending = ascending_with_item cmp (entry_cmp_total (primary_of def.indexes)) entry (without slot rows.entries) (apart_when_new (primary_of def.indexes) row slot (without slot rows.entries) (new_when_placed def row (without slot rows.entries) primary placed)) rest.ascending;
        unique = all_with (λ (index : IndexDef). AllByRecursion (λ e. meets index row e ≡ false) (without slot rows.entries)) (AreUniqueIn (without slot rows.entries)) (AreUniqueIn (with_row def.indexes slot row rows.entries)) unique_with def.indexes (dup_none def.indexes row (without slot rows.entries) placed.no_dup) rest.unique;
        within = all_put test entry (without slot rows.entries) (λ (e : Entry). e.1 < rows.room) within rest.within;
        apart = pairs_put (λ (a b : Entry). is_in a.1 b ≡ false) other_slot test entry (without slot rows.entries) others_parted (all_without slot rows.entries) rest.apart;
        counter = is;
        below = all_put test entry (without slot rows.entries) (λ (e : Entry). above_row (counted_of def.columns) e.0 ≤ counter) above
            (all_weaker (λ (e : Entry). above_row (counted_of def.columns) e.0 ≤ rows.counter) (λ (e : Entry). above_row (counted_of def.columns) e.0 ≤ counter) (λ e below. le_trans below later) (without slot rows.entries) rest.below);
      }

-- a slot with a row is one of the table's
pub live_within : (def : TableDef) (rows : Rows) (slot : ℕ) → AreValidRows def rows → is_live slot rows.entries ≡ true → slot < rows.room
live_within def rows slot valid live = all_members (λ (e : Entry). e.1 < rows.room) rows.entries (row_of slot rows.entries, slot) valid.within (found slot rows.entries live)

pub valid_room : (def : TableDef) (rows : Rows) (room : ℕ) → rows.room ≤ room → AreValidRows def rows → AreValidRows def (record rows { room = room })
valid_room def rows room wider valid = record {
  whole = valid.whole;
  ascending = valid.ascending;
  unique = valid.unique;
  within = all_weaker (λ (e : Entry). e.1 < rows.room) (λ (e : Entry). e.1 < room) (λ e within. lt_of_lt_of_le within wider) rows.entries valid.within;
  apart = valid.apart;
  counter = valid.counter;
  below = valid.below;
}

-- a counter that is higher is above all rows, too
pub valid_counter : (def : TableDef) (rows : Rows) (counter : ℕ) → IsCounter (counted_of def.columns) counter → rows.counter ≤ counter → AreValidRows def rows → AreValidRows def (record rows { counter = counter })
valid_counter def rows counter is later valid = record {
  whole = valid.whole;
  ascending = valid.ascending;
  unique = valid.unique;
  within = valid.within;
  apart = valid.apart;
  counter = is;
  below = all_weaker (λ (e : Entry). above_row (counted_of def.columns) e.0 ≤ rows.counter) (λ (e : Entry). above_row (counted_of def.columns) e.0 ≤ counter) (λ e below. le_trans below later) rows.entries valid.below;
}
