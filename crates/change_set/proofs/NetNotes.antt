-- The changes that notes tell are the net changes.
--     whole_key, key_none, none_key      whether a row is found by its whole key
--     net_member, member_net      the net changes of all tables, table by table
--     among_member, member_among      whether a row is listed
--     noted_members      they are those that the notes tell
use Rattle.std.proofs.Common.{◌≡◌, ℕ, zero, suc, ◌+◌, ◌<◌, ◌≤◌, Bool, true, false, cond, eqb, List, [], ◌∷◌, ◌++◌, length, map, find, get_or, refl, sym, ap, ap₂, subst, ◌∙◌, inl, inr, ◌⊎◌, arith}
use Rattle.std.specs.Prelude.{Contains, Option, Some, None, is_some, ◌≢◌}
use Rattle.std.specs.List.{flat_map, list_any, AllByRecursion}
use Rattle.std.specs.Ordering.{is_eq, nat_cmp, ordering_then}
use Rattle.std.specs.declared.cmp.Ordering.{Ordering}
use Rattle.std.proofs.lemmas.Bool.{cases_Bool, true≢false, and_parts, eqb-true, eqb-false, ne_eqb}
use Rattle.std.proofs.lemmas.Option.{same_Some}
use Rattle.std.proofs.lemmas.List.{take_all, length-map}
use Rattle.std.proofs.lemmas.List.Elements.{Contains-append_left, Contains-append_right, Contains-append_cases}
use Rattle.index_tree.specs.Ordered.{IsAscending, HaveSameMembers}
use Rattle.index_tree.proofs.Elements.{no_member, contains_first, contains_cases, all_members, each_member}
use Rattle.row_types.specs.declared.values.Value.{Value}
use Rattle.row_types.specs.declared.indexes.IndexDef.{IndexDef}
use Rattle.row_types.specs.declared.tables.Schema.{Schema}
use Rattle.row_types.specs.Order.{key_cmp}
use Rattle.table_rows.specs.declared.undo.Undo.{Undo}
use Rattle.table_rows.specs.Entries.{Entry, cells, cell_at, entry_cmp, has_key}
use Rattle.table_rows.specs.Rows.{Rows, State, no_rows, rows_of, entries_of, indexes_of, counter_of}
use Rattle.table_rows.specs.Indexes.{primary_of}
use Rattle.table_rows.specs.Slots.{row_found}
use Rattle.table_rows.specs.Walks.{keyed, slot_of as slot_in}
use Rattle.table_rows.specs.Database.{Database, Holding, no_holding, holding_in, rows_alone, database_of}
use Rattle.table_rows.specs.Undoing.{table_of, undone_all, AreUndoable}
use Rattle.table_rows.specs.Valid.{IsValidState}
use Rattle.table_rows.proofs.BySlot.{same_slot}
use Rattle.table_rows.proofs.Clashes.{find_none, find_some}
use Rattle.table_rows.proofs.States.{rows_valid}
use Rattle.change_set.specs.declared.change.Change.{Change}
use Rattle.change_set.specs.declared.change.Change.TheVariants.{Put, Delete, Count}
use Rattle.change_set.specs.Sets.{key_columns}
use Rattle.change_set.specs.Net.{counter_changes, table_changes, changes_from, changes}
use Rattle.change_set.specs.Touched.{slot_of, is_of_slot, row_once, old_cmp, is_among, deletion_of, put_of, put_if, puts_of, counts_of, olds_of, AreOfTables}
use Rattle.change_set.proofs.RowTests.{any_member, member_any, none_member, member_none, key_itself, key_same, member_mapped, mapped_member}
use Rattle.change_set.proofs.NetMembers.{IsNetOf, net_of_member, member_of_net}
use Rattle.change_set.proofs.NetOrder.{self_equal}
use Rattle.change_set.proofs.SlotNotes.{names, touches, slot_table, number_cmp, then_eq}
use Rattle.change_set.proofs.OldRows.{flat_member, member_flat, names_itself, undone_valid, undone_schema, undone_tables, one_entry, named_is, IsTouched, IsOld, has_now, has_once, stays, stayed, old_is, is_old}

module _ (columns : List ℕ) (key : List Value) (whole : length key ≡ length columns) where
  pub whole_key : (row : List Value) → has_key columns key row ≡ is_eq (key_cmp (cells columns row) key)
  whole_key row = ap (λ (vs : List Value). is_eq (key_cmp vs key)) (take_all (length key) (cells columns row) (omega (arith, whole, length-map columns (cell_at row))))

  by_found : (entries : List Entry) (o : Option Entry) → find (λ (e : Entry). has_key columns key e.0) entries ≡ o → is_some (slot_in o) ≡ false → (row : List Value) → Contains (rows_alone entries) row → cells columns row ≡ key → ⊥
  by_found entries None is none row inside same =
      let found = mapped_member (λ (e : Entry). e.0) entries row inside in
      let lacks = all_members (λ (e : Entry). has_key columns key e.0 ≡ false) entries found.0 (find_none (λ (e : Entry). has_key columns key e.0) entries is) found.1 in
      true≢false (sym (subst (λ (k : List Value). is_eq (key_cmp (cells columns row) k) ≡ true) same (key_itself (cells columns row))) ∙ sym (whole_key row) ∙ ap (has_key columns key) (sym found.2) ∙ lacks)
  by_found entries (Some e) is none row inside same = true≢false none

  -- no row has the key where none is found
  pub key_none : (entries : List Entry) → is_some (slot_in (find (λ (e : Entry). has_key columns key e.0) entries)) ≡ false → (row : List Value) → Contains (rows_alone entries) row → cells columns row ≡ key → ⊥
  key_none entries = by_found entries (find (λ (e : Entry). has_key columns key e.0) entries) refl

  pub none_key : (entries : List Entry) → ((row : List Value) → Contains (rows_alone entries) row → cells columns row ≡ key → ⊥) → is_some (slot_in (find (λ (e : Entry). has_key columns key e.0) entries)) ≡ false
  none_key entries none = by_result (find (λ (e : Entry). has_key columns key e.0) entries) refl
    where
      by_result : (o : Option Entry) → find (λ (e : Entry). has_key columns key e.0) entries ≡ o → is_some (slot_in o) ≡ false
      by_result None is = refl
      by_result (Some e) is =
          let one = find_some (λ (e : Entry). has_key columns key e.0) entries e is in
          absurd (none e.0 (member_mapped (λ (e : Entry). e.0) entries e one.0) (key_same (cells columns e.0) key (sym (whole_key e.0) ∙ one.1)))

-- what one table has
pub holding_there : (tables : List Rows) (table : ℕ) → get_or (map holding_in tables) table no_holding ≡ holding_in (get_or tables table no_rows)
holding_there [] table = refl
holding_there (t ∷ ts) zero = refl
holding_there (t ∷ ts) (suc table) = holding_there ts table

-- the net changes of all tables, of which the first has this number
module _ (schema : Schema) where
  abbrev pub IsNetIn : ℕ → List Holding → List Holding → Change → Type 0
  IsNetIn first befores afters c =
      (k : ℕ) × (k < length befores) × (k < length afters) × IsNetOf schema (first + k) (get_or befores k no_holding) (get_or afters k no_holding) c

  pub net_member : (first : ℕ) (befores afters : List Holding) (c : Change) → Contains (changes_from schema first befores afters) c → IsNetIn first befores afters c
  net_member first [] afters c inside = absurd (no_member c inside)
  net_member first (b ∷ xs) [] c inside = absurd (no_member c inside)
  net_member first (b ∷ xs) (a ∷ ys) c inside =
      elim (Contains-append_cases (table_changes schema first b a) (changes_from schema (suc first) xs ys) c inside) [
        | inl own ↦ (0, omega arith, omega arith, subst (λ (n : ℕ). IsNetOf schema n b a c) (omega arith) (net_of_member schema first b a c own))
        | inr later ↦
            let rest = net_member (suc first) xs ys c later in
            (suc rest.0, omega (arith, rest.1), omega (arith, rest.2), subst (λ (n : ℕ). IsNetOf schema n (get_or xs rest.0 no_holding) (get_or ys rest.0 no_holding) c) (omega arith) rest.3)
      ]

  pub member_net : (first : ℕ) (befores afters : List Holding) (c : Change) (k : ℕ) → k < length befores → k < length afters → IsNetOf schema (first + k) (get_or befores k no_holding) (get_or afters k no_holding) c → Contains (changes_from schema first befores afters) c
  member_net first [] afters c k left right net = absurd (omega (arith, left))
  member_net first (b ∷ xs) [] c k left right net = absurd (omega (arith, right))
  member_net first (b ∷ xs) (a ∷ ys) c zero left right net =
      Contains-append_left (table_changes schema first b a) (changes_from schema (suc first) xs ys) c (member_of_net schema first b a c (subst (λ (n : ℕ). IsNetOf schema n b a c) (omega arith) net))
  member_net first (b ∷ xs) (a ∷ ys) c (suc k) left right net =
      Contains-append_right (table_changes schema first b a) (changes_from schema (suc first) xs ys) c
      (member_net (suc first) xs ys c k (omega (arith, left)) (omega (arith, right)) (subst (λ (n : ℕ). IsNetOf schema n (get_or xs k no_holding) (get_or ys k no_holding) c) (omega arith) net))

-- whether a row is listed, as what the test says
among_equal : (a b : ℕ × List Value) → is_eq (old_cmp a b) ≡ true → a ≡ b
among_equal a b equal =
    let both = and_parts _ _ (sym (then_eq (nat_cmp a.0 b.0) (key_cmp a.1 b.1)) ∙ equal) in
    ap₂ (λ (t : ℕ) (r : List Value). (t, r)) (eqb-true a.0 b.0 (sym (number_cmp a.0 b.0) ∙ both.0)) (key_same a.1 b.1 both.1)

among_itself : (a : ℕ × List Value) → is_eq (old_cmp a a) ≡ true
among_itself a = ap (λ (o : Ordering). is_eq (ordering_then o (key_cmp a.1 a.1))) (self_equal a.0) ∙ key_itself a.1

module _ (olds : List (ℕ × List Value)) (table : ℕ) (row : List Value) where
  pub among_member : is_among olds table row ≡ true → Contains olds (table, row)
  among_member is =
      let one = any_member (λ (old : ℕ × List Value). is_eq (old_cmp old (table, row))) olds is in
      subst (Contains olds) (among_equal one.0 (table, row) one.2) one.1

  pub member_among : Contains olds (table, row) → is_among olds table row ≡ true
  member_among inside = member_any (λ (old : ℕ × List Value). is_eq (old_cmp old (table, row))) olds (table, row) inside (among_itself (table, row))

module _ (now : State) (notes : List Undo) (valid : IsValidState now) (can : AreUndoable notes now) (undos : List Undo) (same : HaveSameMembers undos notes)
    (olds : List (ℕ × List Value)) (listed : HaveSameMembers (olds_of now notes undos) olds) (tables : AreOfTables now undos) where
  abbrev before : State
  before = undone_all notes now

  abbrev schema : Schema
  schema = now.schema

  -- a net change of a table of this number
  abbrev IsNetAt : ℕ → Change → Type 0
  IsNetAt table c = (table < length now.tables) × IsNetOf schema table (holding_in (rows_of before table)) (holding_in (rows_of now table)) c

  note_table : (undo : Undo) (named : ℕ × ℕ) → Contains undos undo → slot_of undo ≡ Some named → named.0 < length now.tables
  note_table undo named inside is = subst (λ (n : ℕ). n < length now.tables) (slot_table undo named is) (all_members (λ (u : Undo). table_of u < length now.tables) undos undo tables inside)

  pub touched_table : (table slot : ℕ) → IsTouched now notes valid can table slot → table < length now.tables
  touched_table table slot touched =
      let one = any_member (is_of_slot table slot) notes touched in
      note_table one.0 (table, slot) ((same one.0).1 one.1) (named_is (slot_of one.0) table slot (sym (touches one.0 table slot) ∙ one.2))

  module _ (table : ℕ) (within : table < length now.tables) where
    abbrev columns : List ℕ
    columns = key_columns schema table

    once : (row : List Value) → Contains (rows_alone (entries_of before table)) row → (slot : ℕ) × Contains (entries_of before table) (row, slot)
    once row inside =
        let one = mapped_member (λ (e : Entry). e.0) (entries_of before table) row inside in
        (one.0.1, subst (λ (r : List Value). Contains (entries_of before table) (r, one.0.1)) one.2 one.1)

    there : (row : List Value) → Contains (rows_alone (entries_of now table)) row → (slot : ℕ) × Contains (entries_of now table) (row, slot)
    there row inside =
        let one = mapped_member (λ (e : Entry). e.0) (entries_of now table) row inside in
        (one.0.1, subst (λ (r : List Value). Contains (entries_of now table) (r, one.0.1)) one.2 one.1)

    alone : (state : State) (row : List Value) (slot : ℕ) → Contains (entries_of state table) (row, slot) → Contains (rows_alone (entries_of state table)) row
    alone state row slot inside = member_mapped (λ (e : Entry). e.0) (entries_of state table) (row, slot) inside

    old_row : (row : List Value) (slot : ℕ) → row_once now notes (table, slot) ≡ Some row → Contains (rows_alone (entries_of before table)) row
    old_row row slot is = alone before row slot ((has_once now notes valid can table within slot row).1 is)

    -- a row that is there in a touched slot, and was there, was in a touched slot
    old_touched : (row : List Value) (slot : ℕ) → IsTouched now notes valid can table slot → Contains (entries_of now table) (row, slot) → Contains (rows_alone (entries_of before table)) row → IsOld now notes valid can table row
    old_touched row slot touched here was =
        let old = once row was in
        elim (cases_Bool (list_any (is_of_slot table old.0) notes)) [
          | inl moved ↦ (old.0, moved, (has_once now notes valid can table within old.0 row).0 old.1)
          | inr still ↦
              let here-once = stayed now notes valid can table within row old.0 still old.1 in
              let entry : (row, old.0) ≡ (row, slot) = one_entry columns (entries_of now table) (rows_valid now valid table within).ascending (row, old.0) (row, slot) here-once here refl in
              absurd (true≢false (sym (subst (λ (e : Entry). list_any (is_of_slot table e.1) notes ≡ true) (sym entry) touched) ∙ still))
        ]

    -- whether some row has the key of an old one
    old_key : (row : List Value) → length (cells columns row) ≡ length columns
    old_key row = length-map columns (cell_at row)

    deletion_net : (row : List Value) → IsOld now notes valid can table row → (b : Bool) → is_some (slot_in (keyed (indexes_of now table) (cells columns row) (entries_of now table))) ≡ b → (c : Change) → Contains (cond b [] (Delete table (cells columns row) ∷ [])) c → IsNetAt table c
    deletion_net row old true is c inside = absurd (no_member c inside)
    deletion_net row old false is c inside =
        elim (contains_cases (Delete table (cells columns row)) [] c inside) [
          | inl first ↦ subst (IsNetAt table) first (within, (refl, (row, old_row row old.0 old.2, refl), key_none columns (cells columns row) (old_key row) (entries_of now table) is))
          | inr none ↦ absurd (no_member c none)
        ]

    net_deletion : (row : List Value) (slot : ℕ) → Contains (entries_of before table) (row, slot) → ((other : List Value) → Contains (rows_alone (entries_of now table)) other → cells columns other ≡ cells columns row → ⊥)
        → IsOld now notes valid can table row × Contains (deletion_of now (table, row)) (Delete table (cells columns row))
    net_deletion row slot was none = (
      elim (cases_Bool (list_any (is_of_slot table slot) notes)) [
        | inl touched ↦ (slot, touched, (has_once now notes valid can table within slot row).0 was)
        | inr still ↦ absurd (none row (alone now row slot (stayed now notes valid can table within row slot still was)) refl)
      ],
      rw (none_key columns (cells columns row) (old_key row) (entries_of now table) none) (contains_first (Delete table (cells columns row)) []),
    )

    put_net : (row : List Value) (slot : ℕ) → IsTouched now notes valid can table slot → row_found now table slot ≡ Some row → (b : Bool) → is_among olds table row ≡ b → (c : Change) → Contains (cond b [] (Put table row ∷ [])) c → IsNetAt table c
    put_net row slot touched is true among c inside = absurd (no_member c inside)
    put_net row slot touched is false among c inside =
        let here = (has_now now notes valid can table within slot row).1 is in
        let new : Contains (rows_alone (entries_of before table)) row → ⊥ =
        λ was. true≢false (sym (member_among olds table row ((listed (table, row)).0 (is_old now notes valid can undos same table row (old_touched row slot touched here was)))) ∙ among) in
        elim (contains_cases (Put table row) [] c inside) [
          | inl first ↦ subst (IsNetAt table) first (within, (refl, alone now row slot here, new))
          | inr none ↦ absurd (no_member c none)
        ]

    not_among : (row : List Value) → (Contains (rows_alone (entries_of before table)) row → ⊥) → is_among olds table row ≡ false
    not_among row new =
        elim (cases_Bool (is_among olds table row)) [
          | inl among ↦
              let old = old_is now notes valid can undos same (table, row) ((listed (table, row)).1 (among_member olds table row among)) in
              absurd (new (old_row row old.0 old.2))
          | inr other ↦ other
        ]

    net_put : (row : List Value) (slot : ℕ) → Contains (entries_of now table) (row, slot) → (Contains (rows_alone (entries_of before table)) row → ⊥)
        → IsTouched now notes valid can table slot × Contains (put_of olds table (row_found now table slot)) (Put table row)
    net_put row slot here new = (
      elim (cases_Bool (list_any (is_of_slot table slot) notes)) [
        | inl touched ↦ touched
        | inr still ↦ absurd (new (alone before row slot (stays now notes valid can table within row slot still here)))
      ],
      subst (λ (r : Option (List Value)). Contains (put_of olds table r) (Put table row)) (sym ((has_now now notes valid can table within slot row).0 here))
          (rw (not_among row new) (contains_first (Put table row) [])),
    )

  -- the changes that are listed
  abbrev pub all_noted : List Change
  all_noted = (flat_map (deletion_of now) olds ++ puts_of now olds undos) ++ counts_of before now (length now.tables)

  deletions_net : (c : Change) → Contains (flat_map (deletion_of now) olds) c → (table : ℕ) × IsNetAt table c
  deletions_net c inside =
      let one = flat_member (deletion_of now) olds c inside in
      let old = old_is now notes valid can undos same one.0 ((listed one.0).1 one.1) in
      (one.0.0, deletion_net one.0.0 (touched_table one.0.0 old.0 old.1) one.0.1 old _ refl c one.2)

  puts_net : (c : Change) → Contains (puts_of now olds undos) c → (table : ℕ) × IsNetAt table c
  puts_net c inside =
      let one = flat_member (λ (undo : Undo). put_if now olds (slot_of undo)) undos c inside in
      by_slot one.0 one.1 (slot_of one.0) refl one.2
    where
      by_row : (undo : Undo) → Contains undos undo → (named : ℕ × ℕ) → slot_of undo ≡ Some named → (r : Option (List Value)) → row_found now named.0 named.1 ≡ r → Contains (put_of olds named.0 r) c → (table : ℕ) × IsNetAt table c
      by_row undo noted named is None found inside = absurd (no_member c inside)
      by_row undo noted named is (Some row) found inside =
          let touched = member_any (is_of_slot named.0 named.1) notes undo ((same undo).0 noted) (touches undo named.0 named.1 ∙ ap (λ (o : Option (ℕ × ℕ)). names o named.0 named.1) is ∙ names_itself named) in
          (named.0, put_net named.0 (note_table undo named noted is) row named.1 touched found _ refl c inside)

      by_slot : (undo : Undo) → Contains undos undo → (o : Option (ℕ × ℕ)) → slot_of undo ≡ o → Contains (put_if now olds o) c → (table : ℕ) × IsNetAt table c
      by_slot undo noted None is inside = absurd (no_member c inside)
      by_slot undo noted (Some named) is inside = by_row undo noted named is (row_found now named.0 named.1) refl inside

  -- the counters of so many tables
  counts_net : (n : ℕ) → n ≤ length now.tables → (c : Change) → Contains (counts_of before now n) c → (table : ℕ) × IsNetAt table c
  counts_net zero le c inside = absurd (no_member c inside)
  counts_net (suc n) le c inside =
      elim (Contains-append_cases (counts_of before now n) (counter_changes n (counter_of before n) (counter_of now n)) c inside) [
        | inl front ↦ counts_net n (omega (arith, le)) c front
        | inr own ↦ by_counter (eqb (counter_of before n) (counter_of now n)) refl own
      ]
    where
      by_counter : (b : Bool) → eqb (counter_of before n) (counter_of now n) ≡ b → Contains (cond b [] (Count n (counter_of now n) ∷ [])) c → (table : ℕ) × IsNetAt table c
      by_counter true is inside = absurd (no_member c inside)
      by_counter false is inside =
          elim (contains_cases (Count n (counter_of now n)) [] c inside) [
            | inl first ↦ (n, subst (IsNetAt n) first (omega (arith, le), (refl, refl, λ e. true≢false (sym (subst (λ (m : ℕ). eqb (counter_of before n) m ≡ true) e (same_slot (counter_of before n))) ∙ is))))
            | inr none ↦ absurd (no_member c none)
          ]

  net_counts : (n table : ℕ) → table < n → counter_of before table ≢ counter_of now table → Contains (counts_of before now n) (Count table (counter_of now table))
  net_counts zero table lt other = absurd (omega (arith, lt))
  net_counts (suc n) table lt other =
      elim (cases_Bool (eqb table n)) [
        | inl is ↦
            let same-table = eqb-true table n is in
            Contains-append_right (counts_of before now n) (counter_changes n (counter_of before n) (counter_of now n)) (Count table (counter_of now table))
            (subst (λ (m : ℕ). Contains (counter_changes m (counter_of before m) (counter_of now m)) (Count table (counter_of now table))) same-table
            (rw (ne_eqb (counter_of before table) (counter_of now table) other) (contains_first (Count table (counter_of now table)) [])))
        | inr isnt ↦
            let apart = eqb-false table n isnt in
            Contains-append_left (counts_of before now n) (counter_changes n (counter_of before n) (counter_of now n)) (Count table (counter_of now table))
            (net_counts n table (omega (arith, lt, apart)) other)
      ]

  noted_net : (c : Change) → Contains all_noted c → (table : ℕ) × IsNetAt table c
  noted_net c inside =
      elim (Contains-append_cases (flat_map (deletion_of now) olds ++ puts_of now olds undos) (counts_of before now (length now.tables)) c inside) [
        | inl rows ↦ elim (Contains-append_cases (flat_map (deletion_of now) olds) (puts_of now olds undos) c rows) [
          | inl gone ↦ deletions_net c gone
          | inr new ↦ puts_net c new
        ]
        | inr count ↦ counts_net (length now.tables) (omega arith) c count
      ]

  row_noted : (c : Change) → Contains (flat_map (deletion_of now) olds ++ puts_of now olds undos) c → Contains all_noted c
  row_noted c inside = Contains-append_left (flat_map (deletion_of now) olds ++ puts_of now olds undos) (counts_of before now (length now.tables)) c inside

  net_noted : (table : ℕ) (c : Change) → IsNetAt table c → Contains all_noted c
  net_noted table (Delete t key) net =
      let was = once table net.0 net.1.1.0 net.1.1.1 in
      let row = net.1.1.0 in
      let gone = net_deletion table net.0 row was.0 was.1 (λ other inside is. net.1.2 other inside (is ∙ net.1.1.2)) in
      let made = row_noted (Delete table (cells (key_columns schema table) row))
      (Contains-append_left (flat_map (deletion_of now) olds) (puts_of now olds undos) (Delete table (cells (key_columns schema table) row))
      (member_flat (deletion_of now) olds (table, row) (Delete table (cells (key_columns schema table) row)) ((listed (table, row)).0 (is_old now notes valid can undos same table row gone.0)) gone.1)) in
      subst (λ (n : ℕ). Contains all_noted (Delete n key)) (sym net.1.0) (subst (λ (k : List Value). Contains all_noted (Delete table k)) net.1.1.2 made)
  net_noted table (Put t row) net =
      let here = there table net.0 row net.1.1 in
      let new = net_put table net.0 row here.0 here.1 net.1.2 in
      let one = any_member (is_of_slot table here.0) notes new.0 in
      let named : slot_of one.0 ≡ Some (table, here.0) = named_is (slot_of one.0) table here.0 (sym (touches one.0 table here.0) ∙ one.2) in
      let made = row_noted (Put table row)
      (Contains-append_right (flat_map (deletion_of now) olds) (puts_of now olds undos) (Put table row)
      (member_flat (λ (undo : Undo). put_if now olds (slot_of undo)) undos one.0 (Put table row) ((same one.0).1 one.1)
      (subst (λ (o : Option (ℕ × ℕ)). Contains (put_if now olds o) (Put table row)) (sym named) new.1))) in
      subst (λ (n : ℕ). Contains all_noted (Put n row)) (sym net.1.0) made
  net_noted table (Count t counter) net =
      let made = Contains-append_right (flat_map (deletion_of now) olds ++ puts_of now olds undos) (counts_of before now (length now.tables)) (Count table (counter_of now table)) (net_counts (length now.tables) table net.0 net.1.2) in
      subst (λ (n : ℕ). Contains all_noted (Count n counter)) (sym net.1.0) (subst (λ (m : ℕ). Contains all_noted (Count table m)) (sym net.1.1) made)

  -- the changes that the notes tell are the net changes
  pub noted_members : HaveSameMembers all_noted (changes (database_of before) (database_of now))
  noted_members c = (forth, back)
    where
      befores : List Holding
      befores = map holding_in before.tables

      afters : List Holding
      afters = map holding_in now.tables

      in_schema : changes (database_of before) (database_of now) ≡ changes_from schema 0 befores afters
      in_schema = ap (λ (s : Schema). changes_from s 0 befores afters) (undone_schema notes now)

      forth : Contains all_noted c → Contains (changes (database_of before) (database_of now)) c
      forth inside =
          let one = noted_net c inside in
          let table = one.0 in
          let net = subst (λ (h : Holding). IsNetOf schema table h (get_or afters table no_holding) c) (sym (holding_there before.tables table))
          (subst (λ (h : Holding). IsNetOf schema table (holding_in (rows_of before table)) h c) (sym (holding_there now.tables table)) one.1.1) in
          subst (λ (cs : List Change). Contains cs c) (sym in_schema)
          (member_net schema 0 befores afters c table (omega (arith, length-map before.tables holding_in, undone_tables notes now, one.1.0)) (omega (arith, length-map now.tables holding_in, one.1.0))
          (subst (λ (n : ℕ). IsNetOf schema n (get_or befores table no_holding) (get_or afters table no_holding) c) (omega arith) net))

      back : Contains (changes (database_of before) (database_of now)) c → Contains all_noted c
      back inside =
          let one = net_member schema 0 befores afters c (subst (λ (cs : List Change). Contains cs c) in_schema inside) in
          let table = one.0 in
          let net = subst (λ (n : ℕ). IsNetOf schema n (get_or befores table no_holding) (get_or afters table no_holding) c) (omega arith) one.3 in
          net_noted table c (
            omega (arith, length-map now.tables holding_in, one.2),
            subst (λ (h : Holding). IsNetOf schema table h (holding_in (rows_of now table)) c) (holding_there before.tables table)
                (subst (λ (h : Holding). IsNetOf schema table (get_or befores table no_holding) h c) (holding_there now.tables table) net),
          )
