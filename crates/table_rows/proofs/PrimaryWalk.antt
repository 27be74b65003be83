-- The walk of the primary index.
--     primary_walk      it is the list of the rows itself
use Rattle.std.proofs.Common.{◌≡◌, ℕ, ◌<◌, List, [], ◌∷◌, ◌++◌, length, refl, ap, sym, subst, ◌∙◌}
use Rattle.std.specs.declared.cmp.Ordering.{Ordering}
use Rattle.std.specs.declared.cmp.Ordering.TheVariants.{Less, Equal, Greater}
use Rattle.std.specs.Ordering.{ordering_then}
use Rattle.std.proofs.lemmas.List.{map-append}
use Rattle.index_tree.specs.Ordered.{IsAscending}
use Rattle.index_tree.proofs.Ascending.{ascending_agree}
use Rattle.index_tree.proofs.InOrder.{in_order_ascending}
use Rattle.row_types.specs.declared.values.Value.{Value}
use Rattle.row_types.specs.Order.{value_cmp, key_cmp}
use Rattle.table_rows.specs.Entries.{Entry, cells, cell_at, entry_cmp}
use Rattle.table_rows.specs.Rows.{State, indexes_of, entries_of}
use Rattle.table_rows.specs.Indexes.{primary_of, parts_at, index_columns}
use Rattle.table_rows.specs.Walks.{walk_of}
use Rattle.table_rows.specs.Valid.{IsValidState}
use Rattle.table_rows.proofs.Keys.{entry_cmp_total}
use Rattle.table_rows.proofs.States.{rows_valid}

then_assoc : (a b c : Ordering) → ordering_then a (ordering_then b c) ≡ ordering_then (ordering_then a b) c
then_assoc Less b c = refl
then_assoc Equal b c = refl
then_assoc Greater b c = refl

then_itself : (o : Ordering) → ordering_then o o ≡ o
then_itself Less = refl
then_itself Equal = refl
then_itself Greater = refl

-- keys of the same columns, with more behind
key_cmp_append : (columns : List ℕ) (a b : List Value) (more rest : List Value) → key_cmp (cells columns a ++ more) (cells columns b ++ rest) ≡ ordering_then (key_cmp (cells columns a) (cells columns b)) (key_cmp more rest)
key_cmp_append [] a b more rest = refl
key_cmp_append (c ∷ cs) a b more rest =
    ap (ordering_then (value_cmp (cell_at a c) (cell_at b c))) (key_cmp_append cs a b more rest) ∙ then_assoc (value_cmp (cell_at a c) (cell_at b c)) _ _

twice : (columns : List ℕ) (a b : Entry) → entry_cmp columns a b ≡ entry_cmp (columns ++ columns) a b
twice columns a b = sym (
    ap (λ (vs : List Value). key_cmp vs (cells (columns ++ columns) b.0)) (map-append (cell_at a.0) columns columns)
    ∙ ap (key_cmp (cells columns a.0 ++ cells columns a.0)) (map-append (cell_at b.0) columns columns)
    ∙ key_cmp_append columns a.0 b.0 (cells columns a.0) (cells columns b.0) ∙ then_itself _)

pub primary_walk : (state : State) → IsValidState state → (table : ℕ) → table < length state.tables → (index : ℕ) → parts_at (indexes_of state table) index ≡ primary_of (indexes_of state table) → walk_of state table index ≡ entries_of state table
primary_walk state valid table within index primary =
    let key = primary_of (indexes_of state table) in
    let entries = entries_of state table in
    let ascending : IsAscending (entry_cmp (key ++ key)) entries = ascending_agree (entry_cmp key) (entry_cmp (key ++ key)) entries (λ x y in_x in_y. twice key x y) (rows_valid state valid table within).ascending in
    let both : IsAscending (entry_cmp (index_columns (indexes_of state table) index)) entries = subst (λ (columns : List ℕ). IsAscending (entry_cmp (columns ++ key)) entries) (sym primary) ascending in
    in_order_ascending (entry_cmp (index_columns (indexes_of state table) index)) (entry_cmp_total (index_columns (indexes_of state table) index)) entries both
