-- Rows that make way for changes, one change after the other.
--     change_in, in_change      whether a change changes tables, by their rows
--     before_at      the changes in front of one stand before it
--     other_row      none of them is of its row
--     cleared_none, cleared_then      no change, and one after others
--     still_changes, changed_still      a change changes something where those before it have made way
use Rattle.std.proofs.Common.{◌≡◌, ℕ, zero, suc, ◌<◌, Bool, true, false, cond, ◌&&◌, ◌||◌, eqb, List, [], ◌∷◌, ◌++◌, length, map, take, get_or, refl, sym, ap, ap₂, subst, ◌∙◌, inl, inr, arith}
use Rattle.std.specs.Prelude.{Contains, Option, Some, None, slice_get, IsSome}
use Rattle.std.specs.List.{AllByRecursion, list_any}
use Rattle.std.specs.declared.cmp.Ordering.{Ordering}
use Rattle.std.specs.declared.cmp.Ordering.TheVariants.{Less, Equal, Greater}
use Rattle.std.specs.Ordering.{is_eq, nat_cmp}
use Rattle.std.proofs.lemmas.Bool.{cases_Bool, true≢false, and_parts, eqb-true}
use Rattle.std.proofs.lemmas.List.Folds.{list_any-append}
use Rattle.index_tree.specs.Ordered.{IsAscending}
use Rattle.index_tree.proofs.Elements.{all_members, contains_at, contains_first, contains_later}
use Rattle.row_types.specs.declared.values.Value.{Value}
use Rattle.row_types.specs.declared.tables.Schema.{Schema}
use Rattle.row_types.specs.Order.{key_cmp}
use Rattle.row_types.specs.Counted.{counted_of}
use Rattle.table_rows.specs.Database.{Holding, holding_in, database_of, no_holding}
use Rattle.table_rows.specs.Entries.{cells}
use Rattle.table_rows.specs.Rows.{State, rows_of, counter_of, counted_at}
use Rattle.table_rows.proofs.BySlot.{same_slot}
use Rattle.change_set.specs.declared.change.Change.{Change}
use Rattle.change_set.specs.declared.change.Change.TheVariants.{Put, Delete, Count}
use Rattle.change_set.specs.Net.{has_key, has_row}
use Rattle.change_set.specs.Putting.{is_of_row, counter_put, IsChange}
use Rattle.change_set.specs.Sets.{table_of, rank, key_of, key_columns, def_in, change_cmp}
use Rattle.change_set.specs.Steps.{rows_in, IsLeft, AreAlike, AreCleared}
use Rattle.change_set.proofs.RowTests.{member_none, key_same, holds_key, key_held, lacks_row, row_lacking}
use Rattle.change_set.proofs.NetOrder.{self_equal, same_place}
use Rattle.change_set.proofs.NetNotes.{holding_there}
use Rattle.change_set.proofs.OldRows.{neither}

-- a change that changes something, by the rows of tables
abbrev pub IsChangeIn : State → Change → Type 0
IsChangeIn state (Put table row) = has_row (rows_in state table) row ≡ false
IsChangeIn state (Delete table key) = has_key (key_columns state.schema table) (rows_in state table) key ≡ true
IsChangeIn state (Count table counter) = IsSome (counted_at state table) × (counter_of state table < counter)

pub change_in : (state : State) (c : Change) → IsChangeIn state c → IsChange (database_of state) c
change_in state (Put table row) is = subst (λ (h : Holding). has_row h.rows row ≡ false) (sym (holding_there state.tables table)) is
change_in state (Delete table key) is = subst (λ (h : Holding). has_key (key_columns state.schema table) h.rows key ≡ true) (sym (holding_there state.tables table)) is
change_in state (Count table counter) is = (is.0, subst (λ (h : Holding). h.counter < counter) (sym (holding_there state.tables table)) is.1)

pub in_change : (state : State) (c : Change) → IsChange (database_of state) c → IsChangeIn state c
in_change state (Put table row) is = subst (λ (h : Holding). has_row h.rows row ≡ false) (holding_there state.tables table) is
in_change state (Delete table key) is = subst (λ (h : Holding). has_key (key_columns state.schema table) h.rows key ≡ true) (holding_there state.tables table) is
in_change state (Count table counter) is = (is.0, subst (λ (h : Holding). h.counter < counter) (holding_there state.tables table) is.1)

-- each of these stands before a change
abbrev pub AreBefore : Schema → List Change → Change → Type 0
AreBefore schema done c = (d : Change) → Contains done d → change_cmp schema d c ≡ Less

nothing_is : {X : Type 0} (x : X) → None ≡ Some x → ⊥
nothing_is x e = cc

all_before_at : {X : Type 0} (cmp : X → X → Ordering) (xs : List X) (i : ℕ) (x : X) → IsAscending cmp xs → slice_get xs i ≡ Some x → AllByRecursion (λ y. cmp y x ≡ Less) (take i xs)
all_before_at cmp [] i x ascending is = absurd (nothing_is x is)
all_before_at cmp (y ∷ ys) zero x ascending is = tt
all_before_at cmp (y ∷ ys) (suc i) x ascending is = (all_members (λ z. cmp y z ≡ Less) ys x ascending.0 (contains_at ys i x is), all_before_at cmp ys i x ascending.1 is)

pub before_at : (schema : Schema) (changes : List Change) (i : ℕ) (c : Change) → IsAscending (change_cmp schema) changes → slice_get changes i ≡ Some c → AreBefore schema (take i changes) c
before_at schema changes i c ascending is d inside = all_members (λ (e : Change). change_cmp schema e c ≡ Less) (take i changes) d (all_before_at (change_cmp schema) changes i c ascending is) inside

less_apart : (o : Ordering) → o ≡ Less → is_eq o ≡ true → ⊥
less_apart o less equal = true≢false (sym equal ∙ ap is_eq less)

module _ (schema : Schema) where
  abbrev columns : ℕ → List ℕ
  columns table = key_columns schema table

  -- a change of a row is of that row
  pub of_itself : (c : Change) → rank c ≡ 0 → (key : List Value) → is_of_row schema (table_of c) key c ≡ is_eq (key_cmp (key_of schema c) key)
  of_itself (Put t row) row_of key = ap (λ (b : Bool). b && is_eq (key_cmp (cells (columns t) row) key)) (same_slot t)
  of_itself (Delete t gone) row_of key = ap (λ (b : Bool). b && is_eq (key_cmp gone key)) (same_slot t)
  of_itself (Count t counter) row_of key = absurd (omega (arith, row_of))

  pub of_other : (c : Change) (table : ℕ) → eqb (table_of c) table ≡ false → (key : List Value) → is_of_row schema table key c ≡ false
  of_other (Put t row) table other key = ap (λ (b : Bool). b && is_eq (key_cmp (cells (columns table) row) key)) other
  of_other (Delete t gone) table other key = ap (λ (b : Bool). b && is_eq (key_cmp gone key)) other
  of_other (Count t counter) table other key = refl

  of_row_only : (d : Change) (table : ℕ) (key : List Value) → is_of_row schema table key d ≡ true → rank d ≡ 0
  of_row_only (Put t row) table key is = refl
  of_row_only (Delete t gone) table key is = refl
  of_row_only (Count t counter) table key is = absurd (true≢false (sym is))

  pub other_row : (d c : Change) → change_cmp schema d c ≡ Less → rank c ≡ 0 → is_of_row schema (table_of c) (key_of schema c) d ≡ false
  other_row d c less row_of = by_test (is_of_row schema (table_of c) (key_of schema c) d) refl
    where
      by_table : (b : Bool) → eqb (table_of d) (table_of c) ≡ b → is_of_row schema (table_of c) (key_of schema c) d ≡ true → ⊥
      by_table false other is = true≢false (sym is ∙ of_other d (table_of c) other (key_of schema c))
      by_table true same is =
          let first = of_row_only d (table_of c) (key_of schema c) is in
          let table = eqb-true (table_of d) (table_of c) same in
          let equal : is_eq (key_cmp (key_of schema d) (key_of schema c)) ≡ true = sym (of_itself d first (key_of schema c)) ∙ subst (λ (n : ℕ). is_of_row schema n (key_of schema c) d ≡ true) (sym table) is in
          less_apart (change_cmp schema d c) less (ap is_eq (same_place schema d c table (first ∙ sym row_of)) ∙ equal)

      by_test : (b : Bool) → is_of_row schema (table_of c) (key_of schema c) d ≡ b → is_of_row schema (table_of c) (key_of schema c) d ≡ false
      by_test true is = absurd (by_table (eqb (table_of d) (table_of c)) refl is)
      by_test false is = is

  pub none_of_row : (done : List Change) (c : Change) → AreBefore schema done c → rank c ≡ 0 → list_any (is_of_row schema (table_of c) (key_of schema c)) done ≡ false
  none_of_row done c earlier row_of = member_none (is_of_row schema (table_of c) (key_of schema c)) done (λ d inside is. true≢false (sym is ∙ other_row d c (earlier d inside) row_of))

  -- two counters of one table compare as equal
  one_counter : (t u m n : ℕ) → change_cmp schema (Count t m) (Count u n) ≡ Less → t ≡ u → ⊥
  one_counter t u m n less same = less_apart (change_cmp schema (Count t m) (Count u n)) less (ap is_eq (same_place schema (Count t m) (Count u n) same refl))

  counter_then : (table n : ℕ) (done : List Change) (c : Change) → AreBefore schema done c → counter_put table n (done ++ c ∷ []) ≡ counter_put table (counter_put table n done) (c ∷ [])
  counter_then table n [] c earlier = refl
  counter_then table n (Put t row ∷ done) c earlier = counter_then table n done c (λ d inside. earlier d (contains_later (Put t row) done d inside))
  counter_then table n (Delete t key ∷ done) c earlier = counter_then table n done c (λ d inside. earlier d (contains_later (Delete t key) done d inside))
  counter_then table n (Count t m ∷ done) c earlier = by_table (counter_then table n done c (λ d inside. earlier d (contains_later (Count t m) done d inside))) (eqb t table) refl
    where
      last : (e : Change) → change_cmp schema (Count t m) e ≡ Less → t ≡ table → m ≡ counter_put table m (e ∷ [])
      last (Put u row) less same = refl
      last (Delete u key) less same = refl
      last (Count u x) less same = by_other (eqb u table) refl
        where
          by_other : (b : Bool) → eqb u table ≡ b → m ≡ cond b x m
          by_other true is = absurd (one_counter t u m x less (same ∙ sym (eqb-true u table is)))
          by_other false is = refl

      by_table : counter_put table n (done ++ c ∷ []) ≡ counter_put table (counter_put table n done) (c ∷ []) → (b : Bool) → eqb t table ≡ b → cond b m (counter_put table n (done ++ c ∷ [])) ≡ counter_put table (cond b m (counter_put table n done)) (c ∷ [])
      by_table rest true is = last c (earlier (Count t m) (contains_first (Count t m) done)) (eqb-true t table is)
      by_table rest false is = rest

  -- no change before the one of a counter gives it another
  counter_before : (table n x : ℕ) (done : List Change) → AreBefore schema done (Count table x) → counter_put table n done ≡ n
  counter_before table n x [] earlier = refl
  counter_before table n x (Put t row ∷ done) earlier = counter_before table n x done (λ d inside. earlier d (contains_later (Put t row) done d inside))
  counter_before table n x (Delete t key ∷ done) earlier = counter_before table n x done (λ d inside. earlier d (contains_later (Delete t key) done d inside))
  counter_before table n x (Count t m ∷ done) earlier = by_table (counter_before table n x done (λ d inside. earlier d (contains_later (Count t m) done d inside))) (eqb t table) refl
    where
      by_table : counter_put table n done ≡ n → (b : Bool) → eqb t table ≡ b → cond b m (counter_put table n done) ≡ n
      by_table rest true is = absurd (one_counter t table m x (earlier (Count t m) (contains_first (Count t m) done)) (eqb-true t table is))
      by_table rest false is = rest

pub alike_none : (state : State) → AreAlike state state
alike_none state = record { schema = refl; bytes_max = refl; tables = refl }

pub alike_then : (a b c : State) → AreAlike a b → AreAlike b c → AreAlike a c
alike_then a b c first second = record { schema = second.schema ∙ first.schema; bytes_max = second.bytes_max ∙ first.bytes_max; tables = second.tables ∙ first.tables }

pub cleared_none : (state : State) → AreCleared [] state state
cleared_none state = record { alike = alike_none state; left = λ table row inside. (inside, refl); kept = λ table row inside stays. inside; counters = λ table. refl }

pub cleared_then : (done : List Change) (c : Change) (s0 s1 s2 : State) → AreBefore s0.schema done c → AreCleared done s0 s1 → AreCleared (c ∷ []) s1 s2 → AreCleared (done ++ c ∷ []) s0 s2
cleared_then done c s0 s1 s2 earlier first second = record {
  alike = alike_then s0 s1 s2 first.alike second.alike;
  left = λ table row inside.
      let one = second.left table row inside in
      let two = first.left table row one.0 in
      let own = subst (λ (s : Schema). list_any (is_of_row s table (cells (key_columns s table) row)) (c ∷ []) ≡ false) first.alike.schema one.1 in
      (two.0, list_any-append (is_of_row s0.schema table (cells (key_columns s0.schema table) row)) done (c ∷ []) ∙ ap₂ (λ (a b : Bool). a || b) two.1 own);
  kept = λ table row inside stays.
      let both = neither (list_any (is_of_row s0.schema table (cells (key_columns s0.schema table) row)) done) (list_any (is_of_row s0.schema table (cells (key_columns s0.schema table) row)) (c ∷ [])) (sym (list_any-append (is_of_row s0.schema table (cells (key_columns s0.schema table) row)) done (c ∷ [])) ∙ stays) in
      second.kept table row (first.kept table row inside both.0) (subst (λ (s : Schema). list_any (is_of_row s table (cells (key_columns s table) row)) (c ∷ []) ≡ false) (sym first.alike.schema) both.1);
  counters = λ table. second.counters table ∙ ap (λ (n : ℕ). counter_put table n (c ∷ [])) (first.counters table) ∙ sym (counter_then s0.schema table (counter_of s0 table) done c earlier);
}

module _ (done : List Change) (s0 s1 : State) (cleared : AreCleared done s0 s1) where
  -- a row of the change's key has not made way
  stays_there : (c : Change) → AreBefore s0.schema done c → rank c ≡ 0 → (row : List Value) → cells (key_columns s0.schema (table_of c)) row ≡ key_of s0.schema c → IsLeft s0 done (table_of c) row
  stays_there c earlier row_of row same = ap (λ (key : List Value). list_any (is_of_row s0.schema (table_of c) key) done) same ∙ none_of_row s0.schema done c earlier row_of

  still_in : (c : Change) → AreBefore s0.schema done c → IsChangeIn s1 c → IsChangeIn s0 c
  still_in (Put t row) earlier is = row_lacking (rows_in s0 t) row (λ inside. lacks_row (rows_in s1 t) row is (cleared.kept t row inside (stays_there (Put t row) earlier refl row refl)))
  still_in (Delete t key) earlier is =
      let has = subst (λ (s : Schema). has_key (key_columns s t) (rows_in s1 t) key ≡ true) cleared.alike.schema is in
      let found = holds_key (key_columns s0.schema t) (rows_in s1 t) key has in
      key_held (key_columns s0.schema t) (rows_in s0 t) key found.0 (cleared.left t found.0 found.1).0 found.2
  still_in (Count t n) earlier is = (
    subst (λ (s : Schema). IsSome (counted_of (def_in s t).columns)) cleared.alike.schema is.0,
    subst (λ (m : ℕ). m < n) (cleared.counters t ∙ counter_before s0.schema t (counter_of s0 t) n done earlier) is.1,
  )

  in_still : (c : Change) → AreBefore s0.schema done c → IsChangeIn s0 c → IsChangeIn s1 c
  in_still (Put t row) earlier is = row_lacking (rows_in s1 t) row (λ inside. lacks_row (rows_in s0 t) row is (cleared.left t row inside).0)
  in_still (Delete t key) earlier is =
      let found = holds_key (key_columns s0.schema t) (rows_in s0 t) key is in
      let here = cleared.kept t found.0 found.1 (stays_there (Delete t key) earlier refl found.0 found.2) in
      subst (λ (s : Schema). has_key (key_columns s t) (rows_in s1 t) key ≡ true) (sym cleared.alike.schema) (key_held (key_columns s0.schema t) (rows_in s1 t) key found.0 here found.2)
  in_still (Count t n) earlier is = (
    subst (λ (s : Schema). IsSome (counted_of (def_in s t).columns)) (sym cleared.alike.schema) is.0,
    subst (λ (m : ℕ). m < n) (sym (cleared.counters t ∙ counter_before s0.schema t (counter_of s0 t) n done earlier)) is.1,
  )

  pub still_changes : (c : Change) → AreBefore s0.schema done c → IsChange (database_of s1) c → IsChange (database_of s0) c
  still_changes c earlier is = change_in s0 c (still_in c earlier (in_change s1 c is))

  pub changed_still : (c : Change) → AreBefore s0.schema done c → IsChange (database_of s0) c → IsChange (database_of s1) c
  changed_still c earlier is = change_in s1 c (in_still c earlier (in_change s0 c is))
