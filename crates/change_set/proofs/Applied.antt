-- Tables whose rows made way for changes, and to which the new ones came, are what the changes make of them.
--     alone_ascends      the rows of a valid table
--     lists_same, holdings_at, holdings_long      tables one by one
--     made_put      the tables
use Rattle.std.proofs.Common.{◌≡◌, ℕ, zero, suc, ◌+◌, ◌<◌, Bool, true, false, not, List, [], ◌∷◌, ◌++◌, length, map, get_or, refl, sym, ap, ap₂, subst, ◌∙◌, inl, inr, arith}
use Rattle.std.specs.Prelude.{Contains}
use Rattle.std.specs.List.{list_any}
use Rattle.std.specs.Ordering.{is_eq}
use Rattle.std.proofs.lemmas.Bool.{cases_Bool}
use Rattle.std.proofs.lemmas.List.{length-map}
use Rattle.std.proofs.lemmas.List.Elements.{Contains-append_left, Contains-append_right, Contains-append_cases}
use Rattle.index_tree.specs.Ordered.{IsAscending, AreApart, IsApartFrom, HaveSameMembers}
use Rattle.index_tree.proofs.Apart.{apart_from_ascending}
use Rattle.index_tree.proofs.Ascending.{ascending_kept, ascending_mapped}
use Rattle.index_tree.proofs.Elements.{each_member, kept_member, member_of_kept, kept_passes}
use Rattle.index_tree.proofs.InOrder.{in_order_is}
use Rattle.row_types.specs.declared.values.Value.{Value}
use Rattle.row_types.specs.declared.tables.Schema.{Schema}
use Rattle.row_types.specs.Order.{key_cmp}
use Rattle.table_rows.specs.Database.{Database, Holding, no_holding, holding_in, database_of}
use Rattle.table_rows.specs.Entries.{Entry, cells}
use Rattle.table_rows.specs.Rows.{State, rows_of, entries_of, counter_of}
use Rattle.table_rows.specs.Valid.{IsValidState}
use Rattle.table_rows.proofs.States.{rows_valid}
use Rattle.change_set.specs.declared.change.Change.{Change}
use Rattle.change_set.specs.declared.change.Change.TheVariants.{Put}
use Rattle.change_set.specs.Putting.{row_cmp, is_of_row, rows_left, rows_put, counter_put, holding_put, holdings_put, put}
use Rattle.change_set.specs.Sets.{key_columns, change_cmp}
use Rattle.change_set.specs.Steps.{rows_in, IsLeft, AreCleared, AreFilled}
use Rattle.change_set.proofs.RowTests.{key_itself, key_same, none_member, apart_append}
use Rattle.change_set.proofs.NetMembers.{not_true, not_false}
use Rattle.change_set.proofs.NetOrder.{row_total}
use Rattle.change_set.proofs.NetNotes.{holding_there}
use Rattle.change_set.proofs.PutNet.{put_member, member_put, puts_apart}
use Rattle.change_set.proofs.Cleared.{of_itself}

pub alone_ascends : (state : State) → IsValidState state → (table : ℕ) → table < length state.tables → IsAscending (row_cmp (key_columns state.schema table)) (rows_in state table)
alone_ascends state valid table within = ascending_mapped (row_cmp (key_columns state.schema table)) (λ (entry : Entry). entry.0) (entries_of state table) (rows_valid state valid table within).ascending

pub lists_same : {X : Type 0} (xs ys : List X) (d : X) → length xs ≡ length ys → ((k : ℕ) → k < length xs → get_or xs k d ≡ get_or ys k d) → xs ≡ ys
lists_same [] [] d long same = refl
lists_same [] (y ∷ ys) d long same = absurd (omega (arith, long))
lists_same (x ∷ xs) [] d long same = absurd (omega (arith, long))
lists_same {X} (x ∷ xs) (y ∷ ys) d long same =
    ap₂ (λ (z : X) (zs : List X). z ∷ zs) (same 0 (omega arith)) (lists_same xs ys d (omega (arith, long)) (λ k lt. same (suc k) (omega (arith, lt))))

pub holdings_long : (schema : Schema) (changes : List Change) (first : ℕ) (holdings : List Holding) → length (holdings_put schema changes first holdings) ≡ length holdings
holdings_long schema changes first [] = refl
holdings_long schema changes first (h ∷ hs) = ap suc (holdings_long schema changes (suc first) hs)

pub holdings_at : (schema : Schema) (changes : List Change) (first : ℕ) (holdings : List Holding) (k : ℕ) → k < length holdings → get_or (holdings_put schema changes first holdings) k no_holding ≡ holding_put schema changes (first + k) (get_or holdings k no_holding)
holdings_at schema changes first [] k lt = absurd (omega (arith, lt))
holdings_at schema changes first (h ∷ hs) zero lt = ap (λ (n : ℕ). holding_put schema changes n h) (omega arith)
holdings_at schema changes first (h ∷ hs) (suc k) lt =
    holdings_at schema changes (suc first) hs k (omega (arith, lt)) ∙ ap (λ (n : ℕ). holding_put schema changes n (get_or hs k no_holding)) (omega arith)

module _ (changes : List Change) (s0 s1 s2 : State) (old : IsValidState s0) (new : IsValidState s2) (ascending : IsAscending (change_cmp s0.schema) changes) (cleared : AreCleared changes s0 s1) (filled : AreFilled changes s1 s2) where
  schema_same : s2.schema ≡ s0.schema
  schema_same = filled.alike.schema ∙ cleared.alike.schema

  as_many : length s2.tables ≡ length s0.tables
  as_many = filled.alike.tables ∙ cleared.alike.tables

  module _ (table : ℕ) (within : table < length s0.tables) where
    abbrev columns : List ℕ
    columns = key_columns s0.schema table

    abbrev befores : List (List Value)
    befores = rows_in s0 table

    abbrev left : List Value → Bool
    left row = not (list_any (is_of_row s0.schema table (cells columns row)) changes)

    abbrev made : List (List Value)
    made = rows_left s0.schema table changes befores ++ rows_put table changes

    same_rows : HaveSameMembers (rows_in s2 table) made
    same_rows row = (forth, back)
      where
        forth : Contains (rows_in s2 table) row → Contains made row
        forth inside =
            elim (filled.from table row inside) [
              | inl there ↦
                  let one = cleared.left table row there in
                  Contains-append_left (rows_left s0.schema table changes befores) (rows_put table changes) row (kept_member left befores row one.0 (not_false _ one.1))
              | inr put ↦ Contains-append_right (rows_left s0.schema table changes befores) (rows_put table changes) row (put_member table changes row put)
            ]

        back : Contains made row → Contains (rows_in s2 table) row
        back inside =
            elim (Contains-append_cases (rows_left s0.schema table changes befores) (rows_put table changes) row inside) [
              | inl kept ↦ filled.kept table row (cleared.kept table row (member_of_kept left befores row kept) (not_true _ (kept_passes left befores row kept)))
              | inr put ↦ filled.come table row (member_put table changes row put)
            ]

    ascends : IsAscending (row_cmp columns) befores
    ascends = alone_ascends s0 old table within

    made_apart : AreApart (row_cmp columns) made
    made_apart =
        apart_append (row_cmp columns) (rows_left s0.schema table changes befores) (rows_put table changes)
        (apart_from_ascending (row_cmp columns) (rows_left s0.schema table changes befores) (ascending_kept (row_cmp columns) left befores ascends))
        (puts_apart s0.schema changes ascending table changes ascending)
        (each_member (λ (row : List Value). IsApartFrom (row_cmp columns) row (rows_put table changes)) (rows_left s0.schema table changes befores)
        (λ row kept. each_member (λ (other : List Value). is_eq (row_cmp columns row other) ≡ false) (rows_put table changes) (λ other put. apart row kept other put)))
      where
        apart : (row : List Value) → Contains (rows_left s0.schema table changes befores) row → (other : List Value) → Contains (rows_put table changes) other → is_eq (row_cmp columns row other) ≡ false
        apart row kept other put =
            elim (cases_Bool (is_eq (row_cmp columns row other))) [
              | inl same ↦
                  let key = key_same (cells columns row) (cells columns other) same in
                  absurd (none_member (is_of_row s0.schema table (cells columns row)) changes (Put table other) (not_true _ (kept_passes left befores row kept)) (member_put table changes other put)
                  (of_itself s0.schema (Put table other) refl (cells columns row) ∙ subst (λ (k : List Value). is_eq (key_cmp (cells columns other) k) ≡ true) (sym key) (key_itself (cells columns other))))
              | inr not_so ↦ not_so
            ]

    ascends_now : IsAscending (row_cmp columns) (rows_in s2 table)
    ascends_now = subst (λ (s : Schema). IsAscending (row_cmp (key_columns s table)) (rows_in s2 table)) schema_same (alone_ascends s2 new table (subst (λ (n : ℕ). table < n) (sym as_many) within))

    holding_is : holding_in (rows_of s2 table) ≡ holding_put s0.schema changes table (holding_in (rows_of s0 table))
    holding_is =
        ap₂ (λ (rows : List (List Value)) (counter : ℕ). record { rows = rows; counter = counter })
        (in_order_is (row_cmp columns) (row_total columns) (rows_in s2 table) made ascends_now made_apart same_rows) (filled.counters table ∙ cleared.counters table)

  abbrev holdings : List Holding
  holdings = map holding_in s0.tables

  tables_are : map holding_in s2.tables ≡ holdings_put s0.schema changes 0 holdings
  tables_are =
      lists_same (map holding_in s2.tables) (holdings_put s0.schema changes 0 holdings) no_holding
      (length-map s2.tables holding_in ∙ as_many ∙ sym (length-map s0.tables holding_in) ∙ sym (holdings_long s0.schema changes 0 holdings))
      (λ k lt.
      let within : k < length s0.tables = omega (arith, lt, length-map s2.tables holding_in, as_many) in
      holding_there s2.tables k ∙ holding_is k within ∙ ap (holding_put s0.schema changes k) (sym (holding_there s0.tables k))
      ∙ ap (λ (n : ℕ). holding_put s0.schema changes n (get_or holdings k no_holding)) (omega arith)
      ∙ sym (holdings_at s0.schema changes 0 holdings k (omega (arith, within, length-map s0.tables holding_in))))

  pub made_put : database_of s2 ≡ put (database_of s0) changes
  made_put =
      ap₂ (λ (schema : Schema) (bytes : ℕ). record { schema = schema; bytes_max = bytes; tables = map holding_in s2.tables }) schema_same (filled.alike.bytes_max ∙ cleared.alike.bytes_max)
      ∙ ap (λ (tables : List Holding). record { schema = s0.schema; bytes_max = s0.bytes_max; tables = tables }) tables_are
