-- More slots, and no row at all.
--     widened_valid, widened_total, roomy_kept      a table with more slots
--     slots_found, slots_widened      a table with as many as are wanted
--     empty_valid, empty_total      tables without a row
use Rattle.std.proofs.Common.{◌≡◌, ℕ, ◌+◌, ◌<◌, ◌≤◌, List, [], ◌∷◌, length, map, sum_by, OnOk, OnErr, Result, Ok, Err, Option, None, Some, le_refl, refl, ap, sym, subst, ◌∙◌, arith}
use Rattle.std.specs.List.{AllByRecursion, AllZip}
use Rattle.std.proofs.Math.Nat.{le-max_left, le-max_right}
use Rattle.std.proofs.lemmas.List.Sums.{sum_by-set, sum_by-cons}
use Rattle.row_types.specs.declared.indexes.IndexDef.{IndexDef}
use Rattle.row_types.specs.declared.tables.TableDef.{TableDef}
use Rattle.row_types.specs.declared.tables.Schema.{Schema}
use Rattle.row_types.specs.Counted.{counted_of}
use Rattle.row_types.specs.Valid.{IsValid}
use Rattle.table_rows.specs.Counters.{first_counter, IsCounter}
use Rattle.table_rows.specs.Rows.{Rows, State, no_rows, def_of, rows_of, entries_of, room_of, with_rows}
use Rattle.table_rows.specs.Sizes.{entries_size, total, most_bytes}
use Rattle.table_rows.specs.Valid.{AreUniqueIn, AreValidRows, IsValidState}
use Rattle.table_rows.specs.Widths.{IsWidened, room_for, with_slots, empty_rows, empty_state}
use Rattle.table_rows.specs.declared.tables.Tables.TheInside.{Inside}
use Rattle.table_rows.specs.Indexes.{primary_of, parts_of}
use Rattle.table_rows.specs.Table.{Table, empty_table, with_room}
use Rattle.table_rows.specs.Inside.{seen, IsInside}
use Rattle.table_rows.proofs.States.{rows_with, rows_valid, state_with}
use Rattle.table_rows.proofs.Placed.{valid_room}

-- the table's rows in so many slots
abbrev pub roomy : State → ℕ → ℕ → Rows
roomy state table room = record (rows_of state table) { room = room }

pub widened_total : (state : State) (table : ℕ) → table < length state.tables → (room : ℕ) → total (with_rows state table (roomy state table room)) ≡ total state
widened_total state table within room =
    let a = sum_by-set (λ (rows : Rows). entries_size rows.entries) state.tables table (roomy state table room) no_rows within in
    omega (arith, a)

pub widened_valid : (state : State) → IsValidState state → (table : ℕ) (within : table < length state.tables) (room : ℕ) → room_of state table ≤ room → IsValidState (with_rows state table (roomy state table room))
widened_valid state valid table within room wide =
    state_with state valid table within (roomy state table room) (valid_room (def_of state table) (rows_of state table) room wide (rows_valid state valid table within))
    (subst (λ (n : ℕ). n ≤ most_bytes) (sym (widened_total state table within room)) valid.bytes)

-- a table that was given slots, or was refused them
pub roomy_kept : {A E : Type 0} (r : Result A E) (t new : Table) (n : ℕ) → OnOk r (new ≡ with_room t (room_for n t.rows)) → OnErr r (new ≡ t) → (new ≡ with_room t new.rows.room) × (t.rows.room ≤ new.rows.room)
roomy_kept (Ok x) t new n ok err =
    let room = sym (ap (λ (u : Table). u.rows.room) ok) in
    (ok ∙ ap (with_room t) room, subst (λ (m : ℕ). t.rows.room ≤ m) room (le-max_left t.rows.room (length t.rows.entries + n)))
roomy_kept (Err x) t new n ok err =
    let room = sym (ap (λ (u : Table). u.rows.room) err) in
    (err ∙ ap (with_room t) room, subst (λ (m : ℕ). t.rows.room ≤ m) room (le_refl t.rows.room))

-- so many rows find a slot
pub slots_found : (state : State) (table : ℕ) → table < length state.tables → (n : ℕ) → length (entries_of (with_slots state table n) table) + n ≤ room_of (with_slots state table n) table
slots_found state table within n =
    subst (λ (rows : Rows). length rows.entries + n ≤ rows.room) (sym (rows_with state table within (roomy state table (room_for n (rows_of state table)))))
    (le-max_right (room_of state table) (length (entries_of state table) + n))

-- and they are more slots
pub slots_widened : (state : State) (table : ℕ) → table < length state.tables → (n : ℕ) → IsWidened table state (with_slots state table n)
slots_widened state table within n =
    let there : room_of (with_slots state table n) table ≡ room_for n (rows_of state table) = ap (λ (rows : Rows). rows.room) (rows_with state table within (roomy state table (room_for n (rows_of state table)))) in
    record {
      rows = ap (λ (m : ℕ). with_rows state table (roomy state table m)) (sym there);
      room = subst (λ (m : ℕ). room_of state table ≤ m) (sym there) (le-max_left (room_of state table) (length (entries_of state table) + n));
    }

-- no row at all
empty_unique : (indexes : List IndexDef) → AllByRecursion (AreUniqueIn []) indexes
empty_unique [] = tt
empty_unique (i ∷ is) = (tt, empty_unique is)

first_is : (counted : Option ℕ) → IsCounter counted (first_counter counted)
first_is None = refl
first_is (Some column) = (omega arith, omega arith)

empty_tables_valid : (defs : List TableDef) → AllZip AreValidRows defs (map empty_rows defs)
empty_tables_valid [] = tt
empty_tables_valid (d ∷ ds) = (record { whole = tt; ascending = tt; unique = empty_unique d.indexes; within = tt; apart = tt; counter = first_is (counted_of d.columns); below = tt }, empty_tables_valid ds)

empty_tables_total : (defs : List TableDef) → sum_by (λ (rows : Rows). entries_size rows.entries) (map empty_rows defs) ≡ 0
empty_tables_total [] = refl
empty_tables_total (d ∷ ds) = omega (arith, sum_by-cons (λ (rows : Rows). entries_size rows.entries) (empty_rows d) (map empty_rows ds), empty_tables_total ds)

pub empty_total : (schema : Schema) (bytes_max : ℕ) → total (empty_state schema bytes_max) ≡ 0
empty_total schema bytes_max = empty_tables_total schema.tables

pub empty_valid : (schema : Schema) (bytes_max : ℕ) → IsValid schema → bytes_max ≤ most_bytes → IsValidState (empty_state schema bytes_max)
empty_valid schema bytes_max valid most = record {
  schema = valid;
  tables = empty_tables_valid schema.tables;
  bytes = omega (arith, empty_total schema bytes_max);
  most = most;
}

-- and their fields
map_again : {A B C : Type 0} (f : A → B) (g : B → C) (xs : List A) → map g (map f xs) ≡ map (λ x. g (f x)) xs
map_again f g [] = refl
map_again f g (x ∷ xs) = ap (λ ys. g (f x) ∷ ys) (map_again f g xs)

module _ (inside : Inside) (schema : Schema) (same : inside.schema ≡ schema) (stores : inside.stores.items ≡ map empty_table schema.tables) where
  pub empty_seen : seen inside ≡ empty_state schema inside.bytes_max
  empty_seen = λ i. record { schema = same i; bytes_max = inside.bytes_max; tables = (ap (map (λ (t : Table). t.rows)) stores ∙ map_again empty_table (λ (t : Table). t.rows) schema.tables) i }

  pub empty_inside : inside.total ≡ 0 → IsValid schema → inside.bytes_max ≤ most_bytes → IsInside inside
  empty_inside nought valid most = record {
    valid = subst IsValidState (sym empty_seen) (empty_valid schema inside.bytes_max valid most);
    counted = nought ∙ sym (ap total empty_seen ∙ empty_total schema inside.bytes_max);
    keys = ap (map (λ (t : Table). t.key)) stores ∙ map_again empty_table (λ (t : Table). t.key) schema.tables ∙ ap (λ (s : Schema). map (λ (d : TableDef). primary_of d.indexes) s.tables) (sym same);
    counted_columns = ap (map (λ (t : Table). t.counted)) stores ∙ map_again empty_table (λ (t : Table). t.counted) schema.tables ∙ ap (λ (s : Schema). map (λ (d : TableDef). counted_of d.columns) s.tables) (sym same);
    orders = ap (map (λ (t : Table). t.orders)) stores ∙ map_again empty_table (λ (t : Table). t.orders) schema.tables ∙ ap (λ (s : Schema). map (λ (d : TableDef). parts_of d.indexes) s.tables) (sym same);
  }
