-- One row that makes way, and one counter that goes up.
--     gone_cleared, nothing_cleared, count_cleared
use Rattle.std.proofs.Common.{◌≡◌, ℕ, zero, suc, ◌<◌, Bool, true, false, not, cond, ◌&&◌, ◌||◌, eqb, List, [], ◌∷◌, length, get_or, set, refl, sym, ap, ap₂, subst, ◌∙◌, inl, inr, arith, length-set}
use Rattle.std.specs.Prelude.{Contains}
use Rattle.std.specs.List.{list_any}
use Rattle.std.specs.Ordering.{is_eq}
use Rattle.std.proofs.lemmas.Bool.{cases_Bool, true≢false, eqb-true}
use Rattle.std.proofs.lemmas.List.{get_or-set_same, get_or-set_other}
use Rattle.index_tree.proofs.Elements.{kept_member, member_of_kept, kept_passes}
use Rattle.row_types.specs.declared.values.Value.{Value}
use Rattle.row_types.specs.Order.{key_cmp}
use Rattle.table_rows.specs.Database.{rows_alone}
use Rattle.table_rows.specs.Entries.{Entry, cells}
use Rattle.table_rows.specs.Rows.{Rows, State, no_rows, rows_of, entries_of, counter_of, with_rows, with_counter}
use Rattle.table_rows.specs.Slots.{is_in, row_of as row_under, without, without_at}
use Rattle.table_rows.specs.Valid.{IsValidState}
use Rattle.table_rows.proofs.BySlot.{same_slot, row_of_member}
use Rattle.table_rows.proofs.States.{rows_valid}
use Rattle.change_set.specs.declared.change.Change.{Change}
use Rattle.change_set.specs.declared.change.Change.TheVariants.{Put, Delete, Count}
use Rattle.change_set.specs.Putting.{is_of_row, counter_put}
use Rattle.change_set.specs.Sets.{table_of, rank, key_of, key_columns}
use Rattle.change_set.specs.Steps.{rows_in, IsLeft, AreAlike, AreCleared}
use Rattle.change_set.proofs.RowTests.{key_itself, key_same, member_mapped, mapped_member}
use Rattle.change_set.proofs.NetMembers.{not_true, not_false}
use Rattle.change_set.proofs.Slots.{this_table, other_table, other_number, recounted}
use Rattle.change_set.proofs.OldRows.{one_entry}
use Rattle.change_set.proofs.Cleared.{alike_none, of_itself, of_other}

-- a row beside its slot
pub in_slot : (entries : List Entry) (row : List Value) → Contains (rows_alone entries) row → (slot : ℕ) × Contains entries (row, slot)
in_slot entries row inside =
    let one = mapped_member (λ (e : Entry). e.0) entries row inside in
    (one.0.1, subst (λ (r : List Value). Contains entries (r, one.0.1)) one.2 one.1)

pub no_slot : (entries : List Entry) (row : List Value) (slot : ℕ) → Contains entries (row, slot) → Contains (rows_alone entries) row
no_slot entries row slot inside = member_mapped (λ (e : Entry). e.0) entries (row, slot) inside

only_one : (b : Bool) → b ≡ false → (b || false) ≡ false
only_one b is = ap (λ (a : Bool). a || false) is

first_of : (b : Bool) → (b || false) ≡ false → b ≡ false
first_of true e = absurd (true≢false e)
first_of false e = refl

row_counter : (table n : ℕ) (c : Change) → rank c ≡ 0 → counter_put table n (c ∷ []) ≡ n
row_counter table n (Put t row) first = refl
row_counter table n (Delete t key) first = refl
row_counter table n (Count t m) first = absurd (omega (arith, first))

-- the counters where the entries of a table are others
pub same_counter : (state : State) (t table : ℕ) (entries : List Entry) → t < length state.tables → counter_of (with_rows state t (record (rows_of state t) { entries = entries })) table ≡ counter_of state table
same_counter state t table entries within = by_table (eqb t table) refl
  where
    by_table : (b : Bool) → eqb t table ≡ b → counter_of (with_rows state t (record (rows_of state t) { entries = entries })) table ≡ counter_of state table
    by_table true is =
        let same = eqb-true t table is in
        subst (λ (n : ℕ). counter_of (with_rows state t (record (rows_of state t) { entries = entries })) n ≡ counter_of state n) same
        (ap (λ (r : Rows). r.counter) (get_or-set_same state.tables t (record (rows_of state t) { entries = entries }) no_rows within))
    by_table false is = ap (λ (r : Rows). r.counter) (get_or-set_other state.tables t table (record (rows_of state t) { entries = entries }) no_rows (λ e. true≢false (sym (subst (λ (n : ℕ). eqb n table ≡ true) e (same_slot table)) ∙ is)))

module _ (state : State) (valid : IsValidState state) (c : Change) (within : table_of c < length state.tables) (row_of : rank c ≡ 0) where
  abbrev t : ℕ
  t = table_of c

  abbrev columns : List ℕ
  columns = key_columns state.schema t

  abbrev entries : List Entry
  entries = entries_of state t

  -- a row of another key is left
  left_other : (row : List Value) → (cells columns row ≡ key_of state.schema c → ⊥) → IsLeft state (c ∷ []) t row
  left_other row apart = only_one _ (of_itself state.schema c row_of (cells columns row) ∙ by_test (is_eq (key_cmp (key_of state.schema c) (cells columns row))) refl)
    where
      by_test : (b : Bool) → is_eq (key_cmp (key_of state.schema c) (cells columns row)) ≡ b → is_eq (key_cmp (key_of state.schema c) (cells columns row)) ≡ false
      by_test true is = absurd (apart (sym (key_same (key_of state.schema c) (cells columns row) is)))
      by_test false is = is

  -- and one that is left has another key
  other_left : (row : List Value) → IsLeft state (c ∷ []) t row → cells columns row ≡ key_of state.schema c → ⊥
  other_left row left same =
      true≢false (sym (of_itself state.schema c row_of (cells columns row) ∙ subst (λ (key : List Value). is_eq (key_cmp key (cells columns row)) ≡ true) same (key_itself (cells columns row))) ∙ first_of _ left)

  left_elsewhere : (table : ℕ) → eqb t table ≡ false → (row : List Value) → IsLeft state (c ∷ []) table row
  left_elsewhere table other row = only_one _ (of_other state.schema c table other (cells (key_columns state.schema table) row))

  pub nothing_cleared : ((row : List Value) → Contains (rows_in state t) row → cells columns row ≡ key_of state.schema c → ⊥) → AreCleared (c ∷ []) state state
  nothing_cleared none = record {
    alike = alike_none state;
    left = λ table row inside. (inside, by_table table row inside (eqb t table) refl);
    kept = λ table row inside left. inside;
    counters = λ table. sym (row_counter table (counter_of state table) c row_of);
  }
    where
      by_table : (table : ℕ) (row : List Value) → Contains (rows_in state table) row → (b : Bool) → eqb t table ≡ b → IsLeft state (c ∷ []) table row
      by_table table row inside true is =
          let same = eqb-true t table is in
          subst (λ (n : ℕ). IsLeft state (c ∷ []) n row) same (left_other row (none row (subst (λ (n : ℕ). Contains (rows_in state n) row) (sym same) inside)))
      by_table table row inside false is = left_elsewhere table is row

  module _ (slot : ℕ) (gone : List Value) (there : Contains entries (gone, slot)) (key : cells columns gone ≡ key_of state.schema c) where
    abbrev after : State
    after = without_at state t slot

    abbrev rest : Rows
    rest = record (rows_of state t) { entries = without slot entries }

    here : entries_of after t ≡ without slot entries
    here = this_table state t rest within

    row_left : (row : List Value) → Contains (rows_in after t) row → Contains (rows_in state t) row × IsLeft state (c ∷ []) t row
    row_left row inside =
        let one = in_slot (without slot entries) row (subst (λ (es : List Entry). Contains (rows_alone es) row) here inside) in
        let among = member_of_kept (λ (e : Entry). not (is_in slot e)) entries (row, one.0) one.1 in
        let passes : eqb one.0 slot ≡ false = not_true _ (kept_passes (λ (e : Entry). not (is_in slot e)) entries (row, one.0) one.1) in (
          no_slot entries row one.0 among,
          left_other row (λ same.
              let entry : (row, one.0) ≡ (gone, slot) = one_entry columns entries (rows_valid state valid t within).ascending (row, one.0) (gone, slot) among there (same ∙ sym key) in
              true≢false (sym (subst (λ (e : Entry). eqb e.1 slot ≡ true) (sym entry) (same_slot slot)) ∙ passes)),
        )

    row_kept : (row : List Value) → Contains (rows_in state t) row → IsLeft state (c ∷ []) t row → Contains (rows_in after t) row
    row_kept row inside left =
        let one = in_slot entries row inside in
        let other : eqb one.0 slot ≡ false = by_slot one.0 one.1 (eqb one.0 slot) refl in
        subst (λ (es : List Entry). Contains (rows_alone es) row) (sym here) (no_slot (without slot entries) row one.0 (kept_member (λ (e : Entry). not (is_in slot e)) entries (row, one.0) one.1 (not_false _ other)))
      where
        same_row : (s : ℕ) → Contains entries (row, s) → s ≡ slot → row ≡ gone
        same_row s among same =
            let slots = (rows_valid state valid t within).apart in
            sym (row_of_member entries (row, s) slots among) ∙ ap (λ (n : ℕ). row_under n entries) same ∙ row_of_member entries (gone, slot) slots there

        by_slot : (s : ℕ) → Contains entries (row, s) → (b : Bool) → eqb s slot ≡ b → eqb s slot ≡ false
        by_slot s among true is =
            let one : row ≡ gone = same_row s among (eqb-true s slot is) in
            absurd (other_left row left (ap (cells columns) one ∙ key))
        by_slot s among false is = is

    pub gone_cleared : AreCleared (c ∷ []) state after
    gone_cleared = record {
      alike = record { schema = refl; bytes_max = refl; tables = length-set state.tables t rest };
      left = λ table row inside. left_by table row (eqb t table) refl inside;
      kept = λ table row inside left. kept_by table row (eqb t table) refl inside left;
      counters = λ table. same_counter state t table (without slot entries) within ∙ sym (row_counter table (counter_of state table) c row_of);
    }
      where
        left_by : (table : ℕ) (row : List Value) (b : Bool) → eqb t table ≡ b → Contains (rows_in after table) row → Contains (rows_in state table) row × IsLeft state (c ∷ []) table row
        left_by table row true is inside =
            let same = eqb-true t table is in
            subst (λ (n : ℕ). Contains (rows_in state n) row × IsLeft state (c ∷ []) n row) same (row_left row (subst (λ (n : ℕ). Contains (rows_in after n) row) (sym same) inside))
        left_by table row false is inside = (subst (λ (es : List Entry). Contains (rows_alone es) row) (other_table state t table rest is) inside, left_elsewhere table is row)

        kept_by : (table : ℕ) (row : List Value) (b : Bool) → eqb t table ≡ b → Contains (rows_in state table) row → IsLeft state (c ∷ []) table row → Contains (rows_in after table) row
        kept_by table row true is inside left =
            let same = eqb-true t table is in
            subst (λ (n : ℕ). Contains (rows_in after n) row) same (row_kept row (subst (λ (n : ℕ). Contains (rows_in state n) row) (sym same) inside) (subst (λ (n : ℕ). IsLeft state (c ∷ []) n row) (sym same) left))
        kept_by table row false is inside left = subst (λ (es : List Entry). Contains (rows_alone es) row) (sym (other_table state t table rest is)) inside

pub count_cleared : (state : State) (t to : ℕ) → t < length state.tables → AreCleared (Count t to ∷ []) state (with_counter state t to)
count_cleared state t to within = record {
  alike = record { schema = refl; bytes_max = refl; tables = length-set state.tables t counted };
  left = λ table row inside. (subst (λ (es : List Entry). Contains (rows_alone es) row) (recounted state t to within table (eqb t table) refl) inside, refl);
  kept = λ table row inside left. subst (λ (es : List Entry). Contains (rows_alone es) row) (sym (recounted state t to within table (eqb t table) refl)) inside;
  counters = λ table. by_table table (eqb t table) refl;
}
  where
    counted : Rows
    counted = record (rows_of state t) { counter = to }

    by_table : (table : ℕ) (b : Bool) → eqb t table ≡ b → counter_of (with_counter state t to) table ≡ cond b to (counter_of state table)
    by_table table true is = subst (λ (n : ℕ). counter_of (with_counter state t to) n ≡ to) (eqb-true t table is) (ap (λ (r : Rows). r.counter) (get_or-set_same state.tables t counted no_rows within))
    by_table table false is = ap (λ (r : Rows). r.counter) (get_or-set_other state.tables t table counted no_rows (other_number t table is))
