-- Net changes ascend.
--     Ascends      rows by primary key
--     self_equal, same_place, other_key      how two changes of one table compare
--     net_ascends, of_table      the net changes of a table ascend, and are of it
--     changes_ascend, not_before      so do those of all tables, and none is of a table before the first
use Rattle.std.proofs.Common.{◌≡◌, ℕ, suc, ◌<◌, ◌≤◌, Bool, false, not, eqb, List, [], ◌∷◌, ◌++◌, filter, refl, sym, ap, subst, ◌∙◌, inl, inr, arith}
use Rattle.std.specs.Prelude.{Contains}
use Rattle.std.specs.List.{AllByRecursion}
use Rattle.std.specs.declared.cmp.Ordering.{Ordering}
use Rattle.std.specs.declared.cmp.Ordering.TheVariants.{Less, Equal, Greater}
use Rattle.std.specs.Ordering.{is_eq, is_lt, ordering_reverse, ordering_then, nat_cmp}
use Rattle.std.specs.Cmp.{IsTotalOrder, on_total, nat_cmp_total}
use Rattle.std.proofs.lemmas.Bool.{cases_Bool}
use Rattle.std.proofs.lemmas.Map.Keys.{ge_from_not_lt}
use Rattle.index_tree.specs.Ordered.{IsAscending, AreApart, IsApartFrom}
use Rattle.index_tree.proofs.Apart.{apart_from_ascending, apart_finer, apart_mapped}
use Rattle.index_tree.proofs.Ascending.{less_is, ascending_kept, ascending_append}
use Rattle.index_tree.proofs.Elements.{all_append, all_mapped, all_weaker, each_member, member_of_kept, kept_passes}
use Rattle.index_tree.proofs.InOrder.{all_in_order, ascending_in_order}
use Rattle.row_types.specs.declared.values.Value.{Value}
use Rattle.row_types.specs.declared.tables.Schema.{Schema}
use Rattle.row_types.specs.Order.{key_cmp}
use Rattle.row_types.proofs.Orders.{key_cmp_total}
use Rattle.table_rows.specs.Entries.{cells}
use Rattle.table_rows.specs.Database.{Holding}
use Rattle.change_set.specs.declared.change.Change.{Change}
use Rattle.change_set.specs.declared.change.Change.TheVariants.{Put, Delete}
use Rattle.change_set.specs.Sets.{table_of, rank, key_of, key_columns, change_cmp}
use Rattle.change_set.specs.Net.{has_key, has_row, deletions, puts, row_changes, counter_changes, table_changes, changes_from}
use Rattle.change_set.specs.Putting.{row_cmp}
use Rattle.change_set.proofs.SetsAgain.{change_total}
use Rattle.change_set.proofs.RowTests.{key_same, lacks_key, mapped_member, apart_append}
use Rattle.change_set.proofs.NetMembers.{not_true}

-- rows ascend by primary key
abbrev pub Ascends : Schema → ℕ → List (List Value) → Type 0
Ascends schema table rows = IsAscending (row_cmp (key_columns schema table)) rows

pub row_total : (columns : List ℕ) → IsTotalOrder (row_cmp columns)
row_total columns = on_total (cells columns) key_cmp_total

equal_itself : (o : Ordering) → o ≡ ordering_reverse o → o ≡ Equal
equal_itself Less e = absurd cc
equal_itself Equal e = refl
equal_itself Greater e = absurd cc

pub self_equal : (n : ℕ) → nat_cmp n n ≡ Equal
self_equal n = equal_itself (nat_cmp n n) (nat_cmp_total.antisymm n n)

lt_irrefl : (a b : ℕ) → a < b → b ≤ a → ⊥
lt_irrefl a b lt le = omega (arith, lt, le)

nat_less : (a b : ℕ) → a < b → nat_cmp a b ≡ Less
nat_less a b lt =
    elim (cases_Bool (is_lt (nat_cmp a b))) [
      | inl is_so ↦ less_is (nat_cmp a b) is_so
      | inr not_so ↦ absurd (lt_irrefl a b lt (ge_from_not_lt a b not_so))
    ]

module _ (schema : Schema) where
  -- changes of one table compare by rank and key
  pub same_table : (c d : Change) → table_of c ≡ table_of d → change_cmp schema c d ≡ ordering_then (nat_cmp (rank c) (rank d)) (key_cmp (key_of schema c) (key_of schema d))
  same_table c d table = rw (table, self_equal (table_of d)) refl

  -- and rows of one table by key
  pub same_place : (c d : Change) → table_of c ≡ table_of d → rank c ≡ rank d → change_cmp schema c d ≡ key_cmp (key_of schema c) (key_of schema d)
  same_place c d table is = same_table c d table ∙ rw (is, self_equal (rank d)) refl

  -- so they are apart where their keys are
  pub other_key : (c d : Change) → table_of c ≡ table_of d → rank c ≡ rank d → is_eq (key_cmp (key_of schema c) (key_of schema d)) ≡ false → is_eq (change_cmp schema c d) ≡ false
  other_key c d table is other = ap is_eq (same_place c d table is) ∙ other

  -- rows stand before the counter
  rows_first : (c d : Change) → table_of c ≡ table_of d → rank c ≡ 0 → rank d ≡ 1 → change_cmp schema c d ≡ Less
  rows_first c d table first second = same_table c d table ∙ rw (first, second) refl

  -- and one table before the next
  tables_first : (c d : Change) → table_of c < table_of d → change_cmp schema c d ≡ Less
  tables_first c d before = ap (λ (o : Ordering). ordering_then o (ordering_then (nat_cmp (rank c) (rank d)) (key_cmp (key_of schema c) (key_of schema d)))) (nat_less (table_of c) (table_of d) before)

  module _ (table : ℕ) where
    abbrev columns : List ℕ
    columns = key_columns schema table

    -- a change of one of the table's rows
    abbrev IsRowOf : Change → Type 0
    IsRowOf c = (table_of c ≡ table) × (rank c ≡ 0)

    module _ (before after : List (List Value)) (old : Ascends schema table before) (new : Ascends schema table after) where
      abbrev gone : List Value → Bool
      gone row = not (has_key columns after (cells columns row))

      abbrev fresh : List Value → Bool
      fresh row = not (has_row before row)

      abbrev deletion : List Value → Change
      deletion row = Delete table (cells columns row)

      deletions_apart : AreApart (change_cmp schema) (deletions table columns before after)
      deletions_apart =
          apart_mapped (change_cmp schema) deletion (filter gone before)
          (apart_finer (row_cmp columns) (λ a b. change_cmp schema (deletion a) (deletion b)) (λ a b other. other_key (deletion a) (deletion b) refl refl other) (filter gone before)
          (apart_from_ascending (row_cmp columns) (filter gone before) (ascending_kept (row_cmp columns) gone before old)))

      puts_apart : AreApart (change_cmp schema) (puts table before after)
      puts_apart =
          apart_mapped (change_cmp schema) (Put table) (filter fresh after)
          (apart_finer (row_cmp columns) (λ a b. change_cmp schema (Put table a) (Put table b)) (λ a b other. other_key (Put table a) (Put table b) refl refl other) (filter fresh after)
          (apart_from_ascending (row_cmp columns) (filter fresh after) (ascending_kept (row_cmp columns) fresh after new)))

      -- a key that is gone is that of no row that is put
      between : (c d : Change) → Contains (deletions table columns before after) c → Contains (puts table before after) d → is_eq (change_cmp schema c d) ≡ false
      between c d first second =
          let one = mapped_member deletion (filter gone before) c first in
          let two = mapped_member (Put table) (filter fresh after) d second in
          let lacks = not_true _ (kept_passes gone before one.0 one.1) in
          let here = member_of_kept fresh after two.0 two.1 in
          let apart : is_eq (change_cmp schema (deletion one.0) (Put table two.0)) ≡ false =
          elim (cases_Bool (is_eq (key_cmp (cells columns one.0) (cells columns two.0)))) [
            | inl same ↦ absurd (lacks_key columns after (cells columns one.0) lacks two.0 here (sym (key_same (cells columns one.0) (cells columns two.0) same)))
            | inr other ↦ other_key (deletion one.0) (Put table two.0) refl refl other
          ] in
          subst (λ (e : Change). is_eq (change_cmp schema e d) ≡ false) one.2 (subst (λ (e : Change). is_eq (change_cmp schema (deletion one.0) e) ≡ false) two.2 apart)

      both_apart : AreApart (change_cmp schema) (deletions table columns before after ++ puts table before after)
      both_apart =
          apart_append (change_cmp schema) (deletions table columns before after) (puts table before after) deletions_apart puts_apart
          (each_member (λ (c : Change). IsApartFrom (change_cmp schema) c (puts table before after)) (deletions table columns before after)
          (λ c first. each_member (λ (d : Change). is_eq (change_cmp schema c d) ≡ false) (puts table before after) (λ d second. between c d first second)))

      rows_ascend : IsAscending (change_cmp schema) (row_changes schema table before after)
      rows_ascend = ascending_in_order (change_cmp schema) (change_total schema) (deletions table columns before after ++ puts table before after) both_apart

      rows_of_table : AllByRecursion IsRowOf (row_changes schema table before after)
      rows_of_table =
          all_in_order (change_cmp schema) IsRowOf (deletions table columns before after ++ puts table before after)
          (all_append IsRowOf (deletions table columns before after) (puts table before after)
          (all_mapped IsRowOf deletion (filter gone before) (each_member (λ (row : List Value). IsRowOf (deletion row)) (filter gone before) (λ row inside. (refl, refl))))
          (all_mapped IsRowOf (Put table) (filter fresh after) (each_member (λ (row : List Value). IsRowOf (Put table row)) (filter fresh after) (λ row inside. (refl, refl)))))

    counter_ascends : (before after : ℕ) → IsAscending (change_cmp schema) (counter_changes table before after)
    counter_ascends before after =
        elim (cases_Bool (eqb before after)) [
          | inl same ↦ rw same tt
          | inr other ↦ rw other (tt, tt)
        ]

    counter_of_table : (before after : ℕ) → AllByRecursion (λ (c : Change). (table_of c ≡ table) × (rank c ≡ 1)) (counter_changes table before after)
    counter_of_table before after =
        elim (cases_Bool (eqb before after)) [
          | inl same ↦ rw same tt
          | inr other ↦ rw other ((refl, refl), tt)
        ]

    module _ (before after : Holding) (old : Ascends schema table before.rows) (new : Ascends schema table after.rows) where
      pub net_ascends : IsAscending (change_cmp schema) (table_changes schema table before after)
      net_ascends =
          ascending_append (change_cmp schema) (row_changes schema table before.rows after.rows) (counter_changes table before.counter after.counter)
          (rows_ascend before.rows after.rows old new) (counter_ascends before.counter after.counter)
          (all_weaker IsRowOf (λ (c : Change). AllByRecursion (λ (d : Change). change_cmp schema c d ≡ Less) (counter_changes table before.counter after.counter))
          (λ c row. all_weaker (λ (d : Change). (table_of d ≡ table) × (rank d ≡ 1)) (λ (d : Change). change_cmp schema c d ≡ Less) (λ d count. rows_first c d (row.0 ∙ sym count.0) row.1 count.1) (counter_changes table before.counter after.counter) (counter_of_table before.counter after.counter))
          (row_changes schema table before.rows after.rows) (rows_of_table before.rows after.rows old new))

      pub of_table : AllByRecursion (λ (c : Change). table_of c ≡ table) (table_changes schema table before after)
      of_table =
          all_append (λ (c : Change). table_of c ≡ table) (row_changes schema table before.rows after.rows) (counter_changes table before.counter after.counter)
          (all_weaker IsRowOf (λ (c : Change). table_of c ≡ table) (λ c row. row.0) (row_changes schema table before.rows after.rows) (rows_of_table before.rows after.rows old new))
          (all_weaker (λ (d : Change). (table_of d ≡ table) × (rank d ≡ 1)) (λ (c : Change). table_of c ≡ table) (λ c count. count.0) (counter_changes table before.counter after.counter) (counter_of_table before.counter after.counter))

  -- the rows of each table ascend, where the first has this number
  abbrev pub EachAscends : ℕ → List Holding → Type 0
  EachAscends first [] = Unit {0}
  EachAscends first (holding ∷ holdings) = Ascends schema first holding.rows × EachAscends (suc first) holdings

  pub not_before : (first : ℕ) (befores afters : List Holding) → EachAscends first befores → EachAscends first afters → AllByRecursion (λ (c : Change). first ≤ table_of c) (changes_from schema first befores afters)
  not_before first [] afters old new = tt
  not_before first (b ∷ xs) [] old new = tt
  not_before first (b ∷ xs) (a ∷ ys) old new =
      all_append (λ (c : Change). first ≤ table_of c) (table_changes schema first b a) (changes_from schema (suc first) xs ys)
      (all_weaker (λ (c : Change). table_of c ≡ first) (λ (c : Change). first ≤ table_of c) (λ c is. omega (arith, is)) (table_changes schema first b a) (of_table first b a old.0 new.0))
      (all_weaker (λ (c : Change). suc first ≤ table_of c) (λ (c : Change). first ≤ table_of c) (λ c later. omega (arith, later)) (changes_from schema (suc first) xs ys) (not_before (suc first) xs ys old.1 new.1))

  pub changes_ascend : (first : ℕ) (befores afters : List Holding) → EachAscends first befores → EachAscends first afters → IsAscending (change_cmp schema) (changes_from schema first befores afters)
  changes_ascend first [] afters old new = tt
  changes_ascend first (b ∷ xs) [] old new = tt
  changes_ascend first (b ∷ xs) (a ∷ ys) old new =
      ascending_append (change_cmp schema) (table_changes schema first b a) (changes_from schema (suc first) xs ys)
      (net_ascends first b a old.0 new.0) (changes_ascend (suc first) xs ys old.1 new.1)
      (all_weaker (λ (c : Change). table_of c ≡ first) (λ (c : Change). AllByRecursion (λ (d : Change). change_cmp schema c d ≡ Less) (changes_from schema (suc first) xs ys))
      (λ c is. all_weaker (λ (d : Change). suc first ≤ table_of d) (λ (d : Change). change_cmp schema c d ≡ Less) (λ d later. tables_first c d (omega (arith, is, later))) (changes_from schema (suc first) xs ys) (not_before (suc first) xs ys old.1 new.1))
      (table_changes schema first b a) (of_table first b a old.0 new.0))
