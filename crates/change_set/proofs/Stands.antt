-- Where a set applies nothing bars a row that it puts.
--     subset_sum      the sizes of rows that are among others
--     can_stand      the row may stand beside those that are there
--     low_counters      a counter that it gives is at most 2^63
use Rattle.std.proofs.Common.{◌≡◌, ℕ, zero, suc, ◌+◌, ◌-◌, ◌<◌, ◌≤◌, ◌^◌, Bool, true, false, not, List, [], ◌∷◌, ◌++◌, length, map, take, drop, get_or, refl, sym, ap, ap₂, subst, ◌∙◌, inl, inr, ◌⊎◌, arith}
use Rattle.std.specs.Prelude.{Contains, Option, Some, None, slice_get, sum_by, ◌≢◌}
use Rattle.std.specs.List.{list_any, AllByRecursion}
use Rattle.std.specs.declared.cmp.Ordering.{Ordering}
use Rattle.std.specs.declared.cmp.Ordering.TheVariants.{Less}
use Rattle.std.specs.Ordering.{is_eq}
use Rattle.std.proofs.lemmas.Bool.{cases_Bool, true≢false}
use Rattle.std.proofs.lemmas.Option.{same_Some}
use Rattle.std.proofs.lemmas.List.{length-map, take-append-drop}
use Rattle.std.proofs.lemmas.List.Sums.{sum_by-cons}
use Rattle.std.proofs.lemmas.List.Elements.{Contains-append_left, Contains-append_right}
use Rattle.index_tree.specs.Ordered.{IsAscending, AreApart, IsApartFrom}
use Rattle.index_tree.proofs.Apart.{apart_from_ascending}
use Rattle.index_tree.proofs.Elements.{no_member, contains_first, contains_later, contains_cases, contains_at, all_members, each_member, all_weaker, kept_member}
use Rattle.index_tree.proofs.InOrder.{in_order_members}
use Rattle.row_types.specs.declared.values.Value.{Value}
use Rattle.row_types.specs.declared.indexes.IndexDef.{IndexDef}
use Rattle.row_types.specs.declared.tables.TableDef.{TableDef}
use Rattle.row_types.specs.declared.tables.Schema.{Schema}
use Rattle.row_types.specs.Counted.{counted_of}
use Rattle.row_types.specs.Order.{key_cmp}
use Rattle.row_types.specs.Size.{row_size}
use Rattle.table_rows.specs.Checks.{IsRow, IsPlaceable, meets}
use Rattle.table_rows.specs.Counters.{above_row}
use Rattle.table_rows.specs.Database.{Database, Holding, no_holding, holding_in, database_of, rows_alone, placed_from, placed, placed_in}
use Rattle.table_rows.specs.Entries.{Entry, cells}
use Rattle.table_rows.specs.Rows.{Rows, State, no_rows, no_table, rows_of, entries_of, def_of, columns_of, counted_at, counter_of}
use Rattle.table_rows.specs.Sizes.{total, total_with, entries_size, most_bytes}
use Rattle.table_rows.specs.Valid.{AreValidRows, AreUniqueIn, IsWhole, IsValidState}
use Rattle.table_rows.proofs.Allowed.{counter_most}
use Rattle.table_rows.proofs.Alone.{holding_size, total_alone, placed_alone, tables_placed}
use Rattle.table_rows.proofs.Clashes.{pair_members}
use Rattle.table_rows.proofs.Meets.{meets_back, none_dup}
use Rattle.table_rows.proofs.States.{rows_valid}
use Rattle.change_set.specs.declared.change.Change.{Change}
use Rattle.change_set.specs.declared.change.Change.TheVariants.{Put, Delete, Count}
use Rattle.change_set.specs.Putting.{row_cmp, is_of_row, rows_left, rows_put, counter_put, holding_put, put, Applies, IsValidDatabase}
use Rattle.change_set.specs.Sets.{key_columns, change_cmp}
use Rattle.change_set.specs.Steps.{rows_in, IsLeft, IsLow, AreCleared, AreFilled, CanStand}
use Rattle.change_set.proofs.RowTests.{key_itself, key_same, none_member, member_mapped}
use Rattle.change_set.proofs.NetMembers.{not_false}
use Rattle.change_set.proofs.NetOrder.{same_place}
use Rattle.change_set.proofs.NetNotes.{holding_there}
use Rattle.change_set.proofs.PutNet.{put_member}
use Rattle.change_set.proofs.Cleared.{of_itself, before_at}
use Rattle.change_set.proofs.ClearSteps.{in_slot}
use Rattle.change_set.proofs.Applied.{holdings_at, holdings_long, alone_ascends}

module _ {X : Type 0} (f : X → ℕ) where
  -- one item of a list, and the others
  take_one : (ys : List X) (x : X) → Contains ys x → (rest : List X) × (sum_by f ys ≡ f x + sum_by f rest) × ((y : X) → Contains ys y → (x ≡ y) ⊎ Contains rest y)
  take_one [] x inside = absurd (no_member x inside)
  take_one (z ∷ ys) x inside =
      elim (contains_cases z ys x inside) [
        | inl same ↦ (ys, sum_by-cons f z ys ∙ ap (λ (w : X). f w + sum_by f ys) same, λ y there. first_or z same y (contains_cases z ys y there))
        | inr later ↦
            let one = take_one ys x later in
            (z ∷ one.0, omega (arith, sum_by-cons f z ys, one.1, sum_by-cons f z one.0), λ y there. other_or z one.0 one.2 y (contains_cases z ys y there))
      ]
    where
      first_or : (z : X) → z ≡ x → (y : X) → (z ≡ y) ⊎ Contains ys y → (x ≡ y) ⊎ Contains ys y
      first_or z same y (inl is) = inl (sym same ∙ is)
      first_or z same y (inr later) = inr later

      other_or : (z : X) (rest : List X) → ((y : X) → Contains ys y → (x ≡ y) ⊎ Contains rest y) → (y : X) → (z ≡ y) ⊎ Contains ys y → (x ≡ y) ⊎ Contains (z ∷ rest) y
      other_or z rest parts y (inl is) = inr (subst (Contains (z ∷ rest)) is (contains_first z rest))
      other_or z rest parts y (inr later) = elim (parts y later) [
        | inl same ↦ inl same
        | inr there ↦ inr (contains_later z rest y there)
      ]

  -- items that are apart, each of which is one of others
  pub subset_sum : (cmp : X → X → Ordering) → ((x : X) → is_eq (cmp x x) ≡ true) → (xs ys : List X) → AreApart cmp xs → ((x : X) → Contains xs x → Contains ys x) → sum_by f xs ≤ sum_by f ys
  subset_sum cmp itself [] ys apart among = omega arith
  subset_sum cmp itself (x ∷ xs) ys apart among =
      let one = take_one ys x (among x (contains_first x xs)) in
      let rest = subset_sum cmp itself xs one.0 apart.1 (λ y inside. elim (one.2 y (among y (contains_later x xs y inside))) [
        | inl same ↦ absurd (true≢false (sym (subst (λ (z : X). is_eq (cmp x z) ≡ true) same (itself x)) ∙ all_members (λ (z : X). is_eq (cmp x z) ≡ false) xs y apart.0 inside))
        | inr there ↦ there
      ]) in
      omega (arith, sum_by-cons f x xs, one.1, rest)

  -- sums of lists that are one by one no greater, and at one place smaller
  sums_at : (xs ys : List X) (d : X) (at more : ℕ) → length xs ≡ length ys → ((k : ℕ) → k < length xs → f (get_or xs k d) ≤ f (get_or ys k d)) → at < length xs → f (get_or xs at d) + more ≤ f (get_or ys at d) → sum_by f xs + more ≤ sum_by f ys
  sums_at [] ys d at more long below within there = absurd (omega (arith, within))
  sums_at (x ∷ xs) [] d at more long below within there = absurd (omega (arith, long))
  sums_at (x ∷ xs) (y ∷ ys) d zero more long below within there =
      let rest = sums_below xs ys d (omega (arith, long)) (λ k lt. below (suc k) (omega (arith, lt))) in
      omega (arith, sum_by-cons f x xs, sum_by-cons f y ys, rest, there)
    where
      sums_below : (us vs : List X) (e : X) → length us ≡ length vs → ((k : ℕ) → k < length us → f (get_or us k e) ≤ f (get_or vs k e)) → sum_by f us ≤ sum_by f vs
      sums_below [] vs e long below = omega arith
      sums_below (u ∷ us) [] e long below = absurd (omega (arith, long))
      sums_below (u ∷ us) (v ∷ vs) e long below =
          let first = below 0 (omega arith) in
          let rest = sums_below us vs e (omega (arith, long)) (λ k lt. below (suc k) (omega (arith, lt))) in
          omega (arith, sum_by-cons f u us, sum_by-cons f v vs, first, rest)
  sums_at (x ∷ xs) (y ∷ ys) d (suc at) more long below within there =
      let first = below 0 (omega arith) in
      let rest = sums_at xs ys d at more (omega (arith, long)) (λ k lt. below (suc k) (omega (arith, lt))) (omega (arith, within)) there in
      omega (arith, sum_by-cons f x xs, sum_by-cons f y ys, first, rest)

taken_member : {X : Type 0} (n : ℕ) (xs : List X) (x : X) → Contains (take n xs) x → Contains xs x
taken_member n xs x inside = subst (λ (zs : List _). Contains zs x) (take-append-drop n xs) (Contains-append_left (take n xs) (drop n xs) x inside)

placed_at : (holdings : List Holding) (table : ℕ) → get_or (map placed holdings) table no_rows ≡ placed (get_or holdings table no_holding)
placed_at [] table = refl
placed_at (h ∷ hs) zero = refl
placed_at (h ∷ hs) (suc table) = placed_at hs table

module _ (changes : List Change) (s0 : State) (ascending : IsAscending (change_cmp s0.schema) changes) (valid : IsValidDatabase (put (database_of s0) changes)) where
  abbrev last : Database
  last = put (database_of s0) changes

  abbrev holdings : List Holding
  holdings = map holding_in s0.tables

  -- what a table has once the changes are put
  abbrev held : ℕ → Holding
  held table = holding_put s0.schema changes table (holding_in (rows_of s0 table))

  as_many : length last.tables ≡ length s0.tables
  as_many = holdings_long s0.schema changes 0 holdings ∙ length-map s0.tables holding_in

  held_at : (table : ℕ) → table < length s0.tables → get_or last.tables table no_holding ≡ held table
  held_at table within =
      holdings_at s0.schema changes 0 holdings table (omega (arith, within, length-map s0.tables holding_in))
      ∙ ap (λ (n : ℕ). holding_put s0.schema changes n (get_or holdings table no_holding)) (omega arith)
      ∙ ap (holding_put s0.schema changes table) (holding_there s0.tables table)

  held_valid : (table : ℕ) → table < length s0.tables → AreValidRows (def_of s0 table) (placed (held table))
  held_valid table within =
      subst (λ (rows : Rows). AreValidRows (def_of s0 table) rows) (placed_at last.tables table ∙ ap placed (held_at table within))
      (rows_valid (placed_in last) valid table (omega (arith, within, as_many, length-map last.tables placed)))

  pub low_counter : (table counter : ℕ) → table < length s0.tables → counter_put table (counter_of s0 table) changes ≡ counter → counter ≤ 2 ^ 63
  low_counter table counter within is = subst (λ (n : ℕ). n ≤ 2 ^ 63) is (counter_most (counted_of (def_of s0 table).columns) (counter_put table (counter_of s0 table) changes) (held_valid table within).counter)

  module _ (s1 : State) (cleared : AreCleared changes s0 s1) (at table : ℕ) (row : List Value) (state : State) (here : slice_get changes at ≡ Some (Put table row)) (filled : AreFilled (take at changes) s1 state) (now : IsValidState state)
      (within : table < length s0.tables) (fits : IsRow (columns_of s0 table) row) where
    abbrev columns : List ℕ
    columns = key_columns s0.schema table

    put_inside : Contains changes (Put table row)
    put_inside = contains_at changes at (Put table row) here

    made_member : (k : ℕ) (r : List Value) → Contains (rows_left s0.schema k changes (rows_in s0 k) ++ rows_put k changes) r → Contains (held k).rows r
    made_member k r inside = (in_order_members (row_cmp (key_columns s0.schema k)) (rows_left s0.schema k changes (rows_in s0 k) ++ rows_put k changes) r).0 inside

    put_held : (k : ℕ) (r : List Value) → Contains changes (Put k r) → Contains (held k).rows r
    put_held k r inside = made_member k r (Contains-append_right (rows_left s0.schema k changes (rows_in s0 k)) (rows_put k changes) r (put_member k changes r inside))

    -- each row that is there is there at the end
    still_held : (k : ℕ) (r : List Value) → Contains (rows_in state k) r → Contains (held k).rows r
    still_held k r inside =
        elim (filled.from k r inside) [
          | inl there ↦
              let one = cleared.left k r there in
              made_member k r (Contains-append_left (rows_left s0.schema k changes (rows_in s0 k)) (rows_put k changes) r
              (kept_member (λ (x : List Value). not (list_any (is_of_row s0.schema k (cells (key_columns s0.schema k) x)) changes)) (rows_in s0 k) r one.0 (not_false _ one.1)))
          | inr come ↦ put_held k r (taken_member at changes (Put k r) come)
        ]

    -- and none of them has the key of the new one
    other_key : (r : List Value) → Contains (rows_in state table) r → is_eq (key_cmp (cells columns row) (cells columns r)) ≡ true → ⊥
    other_key r inside same =
        elim (filled.from table r inside) [
          | inl there ↦ none_member (is_of_row s0.schema table (cells columns r)) changes (Put table row) (cleared.left table r there).1 put_inside (of_itself s0.schema (Put table row) refl (cells columns r) ∙ same)
          | inr come ↦
              let less = sym (same_place s0.schema (Put table r) (Put table row) refl refl) ∙ before_at s0.schema changes at (Put table row) ascending here (Put table r) come in
              let key = key_same (cells columns row) (cells columns r) same in
              true≢false (sym (subst (λ (k : List Value). is_eq (key_cmp (cells columns r) k) ≡ true) (sym key) (key_itself (cells columns r))) ∙ ap is_eq less)
        ]

    other_row : (r : List Value) → Contains (rows_in state table) r → row ≡ r → ⊥
    other_row r inside same = other_key r inside (subst (λ (x : List Value). is_eq (key_cmp (cells columns row) (cells columns x)) ≡ true) same (key_itself (cells columns row)))

    abbrev places : List Entry
    places = placed_from 0 (held table).rows

    place_of : (r : List Value) → Contains (held table).rows r → (slot : ℕ) × Contains places (r, slot)
    place_of r inside = in_slot places r (subst (λ (rs : List (List Value)). Contains rs r) (sym (placed_alone 0 (held table).rows)) inside)

    own : (slot : ℕ) × Contains places (row, slot)
    own = place_of row (put_held table row put_inside)

    last_valid : AreValidRows (def_of s0 table) (placed (held table))
    last_valid = held_valid table within

    schema_same : state.schema ≡ s0.schema
    schema_same = filled.alike.schema ∙ cleared.alike.schema

    apart_in : (index : IndexDef) → AreUniqueIn places index → AllByRecursion (λ (e : Entry). meets index row e ≡ false) (entries_of state table)
    apart_in index unique =
        each_member (λ (e : Entry). meets index row e ≡ false) (entries_of state table)
        (λ e inside.
        let among = member_mapped (λ (x : Entry). x.0) (entries_of state table) e inside in
        let there = place_of e.0 (still_held table e.0 among) in
        pair_members (λ (a b : Entry). meets index a.0 b ≡ false) (λ a b none. sym (meets_back index a b) ∙ none) places unique (row, own.0) (e.0, there.0) own.1 there.1 (λ same. other_row e.0 among (ap (λ (x : Entry). x.0) same)))

    placeable : IsPlaceable (def_of s0 table) row (entries_of state table)
    placeable = record {
      cells = fits;
      no_null = (all_members (λ (e : Entry). IsWhole (def_of s0 table).columns e.0) places (row, own.0) last_valid.whole own.1).no_null;
      no_dup = none_dup (def_of s0 table).indexes row (entries_of state table) (all_weaker (AreUniqueIn places) (λ (index : IndexDef). AllByRecursion (λ (e : Entry). meets index row e ≡ false) (entries_of state table)) apart_in (def_of s0 table).indexes last_valid.unique);
    }

    as_many_now : length state.tables ≡ length s0.tables
    as_many_now = filled.alike.tables ∙ cleared.alike.tables

    rows_apart : (k : ℕ) → k < length state.tables → AreApart (row_cmp (key_columns state.schema k)) (rows_in state k)
    rows_apart k lt = apart_from_ascending (row_cmp (key_columns state.schema k)) (rows_in state k) (alone_ascends state now k lt)

    size_below : (k : ℕ) → k < length state.tables → sum_by row_size (rows_in state k) ≤ sum_by row_size (held k).rows
    size_below k lt = subset_sum row_size (row_cmp (key_columns state.schema k)) (λ r. key_itself (cells (key_columns state.schema k) r)) (rows_in state k) (held k).rows (rows_apart k lt) (still_held k)

    size_with : sum_by row_size (rows_in state table) + row_size row ≤ sum_by row_size (held table).rows
    size_with =
        let apart = subst (λ (s : Schema). AreApart (row_cmp (key_columns s table)) (rows_in state table)) schema_same (rows_apart table (omega (arith, within, as_many_now))) in
        let first : IsApartFrom (row_cmp columns) row (rows_in state table) =
        each_member (λ (r : List Value). is_eq (row_cmp columns row r) ≡ false) (rows_in state table) (λ r inside. not_equal r inside (is_eq (row_cmp columns row r)) refl) in
        let all = subset_sum row_size (row_cmp columns) (λ r. key_itself (cells columns r)) (row ∷ rows_in state table) (held table).rows (first, apart)
        (λ r inside. elim (contains_cases row (rows_in state table) r inside) [
          | inl same ↦ subst (Contains (held table).rows) same (put_held table row put_inside)
          | inr later ↦ still_held table r later
        ]) in
        omega (arith, all, sum_by-cons row_size row (rows_in state table))
      where
        not_equal : (r : List Value) → Contains (rows_in state table) r → (b : Bool) → is_eq (row_cmp columns row r) ≡ b → is_eq (row_cmp columns row r) ≡ false
        not_equal r inside true is = absurd (other_key r inside is)
        not_equal r inside false is = is

    in_all : sum_by holding_size (map holding_in state.tables) + row_size row ≤ sum_by holding_size last.tables
    in_all =
        sums_at holding_size (map holding_in state.tables) last.tables no_holding table (row_size row)
        (length-map state.tables holding_in ∙ as_many_now ∙ sym as_many)
        (λ k lt. let less : k < length state.tables = omega (arith, lt, length-map state.tables holding_in) in
        subst (λ (h : Holding). holding_size h ≤ holding_size (get_or last.tables k no_holding)) (sym (holding_there state.tables k))
        (subst (λ (h : Holding). holding_size (holding_in (rows_of state k)) ≤ holding_size h) (sym (held_at k (omega (arith, less, as_many_now)))) (size_below k less)))
        (omega (arith, within, length-map state.tables holding_in, as_many_now))
        (subst (λ (h : Holding). holding_size h + row_size row ≤ holding_size (get_or last.tables table no_holding)) (sym (holding_there state.tables table))
        (subst (λ (h : Holding). holding_size (holding_in (rows_of state table)) + row_size row ≤ holding_size h) (sym (held_at table within)) size_with))

    bytes : total_with state table row None ≤ most_bytes
    bytes =
        let most : sum_by holding_size last.tables ≤ most_bytes = subst (λ (n : ℕ). n ≤ most_bytes) (total_alone (map placed last.tables) ∙ ap (sum_by holding_size) (tables_placed last.tables)) valid.bytes in
        omega (arith, most, in_all, total_alone state.tables)

    pub can_stand : CanStand state table row
    can_stand = record {
      placeable = subst (λ (s : Schema). IsPlaceable (get_or s.tables table no_table) row (entries_of state table)) (sym schema_same) placeable;
      bytes = bytes;
      above = subst (λ (s : Schema). above_row (counted_of (get_or s.tables table no_table).columns) row ≤ counter_of state table) (sym schema_same)
          (subst (λ (n : ℕ). above_row (counted_of (def_of s0 table).columns) row ≤ n) (sym (filled.counters table ∙ cleared.counters table))
          (all_members (λ (e : Entry). above_row (counted_of (def_of s0 table).columns) e.0 ≤ (held table).counter) places (row, own.0) last_valid.below own.1));
    }
