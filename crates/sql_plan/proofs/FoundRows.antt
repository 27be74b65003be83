-- The rows that meet a condition, found in a range of an index.
--     from_low, front_is      the rows of a walk that lie between two edges
--     rows_apart, walk_apart      no two rows of a table have the same primary key
--     in_range_count      as many rows lie in the range in each order
--     met_when, none_met      what is met where the condition overflows on none, or on one
--     found_in_range      put in order they are those of the table
use Rattle.std.proofs.Common.{◌≡◌, ℕ, ◌<◌, Bool, true, false, not, cond, ◌&&◌, List, [], ◌∷◌, length, filter, Option, Some, None, refl, sym, ap, subst, ◌∙◌}
use Rattle.std.specs.declared.cmp.Ordering.{Ordering}
use Rattle.std.specs.declared.cmp.Ordering.TheVariants.{Less}
use Rattle.std.specs.Option.{is_some}
use Rattle.std.specs.List.{AllByRecursion, list_any, take_while}
use Rattle.std.proofs.lemmas.Bool.{true≢false}
use Rattle.std.proofs.lemmas.Option.{none-some, same_Some}
use Rattle.std.proofs.lemmas.List.Sums.{take_while-cons, length-filter}
use Rattle.std.proofs.lemmas.List.Sorted.{sum_by-IsPermutation}
use Rattle.index_tree.specs.Ordered.{IsAscending, AreApart, IsClosedDown, HaveSameMembers}
use Rattle.index_tree.proofs.Apart.{apart_from_ascending, apart_kept, apart_permuted}
use Rattle.index_tree.proofs.Ascending.{ascending_kept}
use Rattle.index_tree.proofs.Elements.{all_members, all_weaker, kept_member, member_of_kept, kept_passes}
use Rattle.index_tree.proofs.InOrder.{in_order_permutes, in_order_members, ascending_in_order, in_order_is}
use Rattle.row_types.specs.declared.values.Value.{Value}
use Rattle.row_types.specs.declared.indexes.IndexDef.{IndexDef}
use Rattle.table_rows.specs.declared.edge.Edge.{Edge}
use Rattle.table_rows.specs.declared.edge.Edge.TheVariants.{Open, With, Without}
use Rattle.table_rows.specs.declared.bound.Bound.TheVariants.{From}
use Rattle.table_rows.specs.Entries.{Entry, entry_cmp}
use Rattle.table_rows.specs.StoreWalks.{is_from, is_to}
use Rattle.table_rows.specs.Rows.{State, indexes_of, entries_of}
use Rattle.table_rows.specs.Indexes.{primary_of, parts_at, index_columns}
use Rattle.table_rows.specs.Walks.{walk_of, walked}
use Rattle.table_rows.specs.Valid.{IsValidState}
use Rattle.table_rows.proofs.CellOrder.{entry_cmp_total, cut_closed, apart_at_more}
use Rattle.table_rows.proofs.KeyedRows.{all_from}
use Rattle.table_rows.proofs.Passing.{filter_all, filter_none}
use Rattle.table_rows.proofs.States.{rows_valid}
use Rattle.sql_value.specs.declared.exprs.Expr.{Expr}
use Rattle.sql_plan.specs.declared.plans.Plan.TheVariants.{Whole, Range}
use Rattle.sql_plan.specs.Tests.{calculates}
use Rattle.sql_plan.specs.Ranges.{is_between, worth_on, met_at, is_met, overflows, met_by, IsCovered, lies_in, count_in}
use Rattle.sql_plan.specs.Sorted.{sorted, entry_cmp_by}
use Rattle.sql_plan.proofs.Orders.{entry_cmp_by_total}
use Rattle.sql_plan.proofs.Picks.{fine_there, over_there}
use Rattle.sql_plan.proofs.Unvarying.{unvarying}

-- where a test holds of each item before one of which it holds, those of which it holds are the front
pub front_is : {X : Type 0} (cmp : X → X → Ordering) (test : X → Bool) → IsClosedDown cmp test → (xs : List X) → IsAscending cmp xs → take_while test xs ≡ filter test xs
front_is {X = X} cmp test closed [] ascending = refl
front_is {X = X} cmp test closed (x ∷ xs) ascending = take_while-cons test x xs ∙ by_test (front_is cmp test closed xs ascending.1) (test x) refl
  where
    fails : (y : X) → cmp x y ≡ Less → test x ≡ false → (b : Bool) → test y ≡ b → test y ≡ false
    fails y less fail true passes = absurd (true≢false (sym (closed x y less passes) ∙ fail))
    fails y less fail false is = is

    by_test : take_while test xs ≡ filter test xs → (b : Bool) → test x ≡ b → cond (test x) (x ∷ take_while test xs) [] ≡ filter test (x ∷ xs)
    by_test rest true is = rw is (ap (λ (ys : List X). x ∷ ys) rest)
    by_test rest false is = rw is (sym (filter_none test xs (all_weaker (λ (y : X). cmp x y ≡ Less) (λ (y : X). test y ≡ false) (λ y less. fails y less is (test y) refl) xs ascending.0)))

filter_both : {X : Type 0} (p q : X → Bool) (xs : List X) → filter q (filter p xs) ≡ filter (λ x. p x && q x) xs
filter_both {X = X} p q [] = refl
filter_both {X = X} p q (x ∷ xs) = by_tests (filter_both p q xs) (p x) refl (q x) refl
  where
    by_tests : filter q (filter p xs) ≡ filter (λ y. p y && q y) xs → (a : Bool) → p x ≡ a → (b : Bool) → q x ≡ b → filter q (filter p (x ∷ xs)) ≡ filter (λ y. p y && q y) (x ∷ xs)
    by_tests rest true is true also = rw (is, also) (ap (λ (ys : List X). x ∷ ys) rest)
    by_tests rest true is false also = rw (is, also) rest
    by_tests rest false is b also = rw is rest

to_closed : (columns : List ℕ) (high : Edge (List Value)) → IsClosedDown (entry_cmp columns) (is_to columns high)
to_closed columns Open = λ x y less passes. refl
to_closed columns (With key) = cut_closed columns key true
to_closed columns (Without key) = cut_closed columns key false

all_true : {X : Type 0} (xs : List X) → AllByRecursion (λ (x : X). true ≡ true) xs
all_true [] = tt
all_true (x ∷ xs) = (refl, all_true xs)

-- the rows from an open edge on are all
pub from_open : (columns : List ℕ) (entries : List Entry) → walked From columns [] entries ≡ filter (is_from columns Open) entries
from_open columns entries = all_from columns entries ∙ sym (filter_all (is_from columns Open) entries (all_true entries))

-- and those up to an open edge
pub to_open : (columns : List ℕ) (entries : List Entry) → take_while (is_to columns Open) entries ≡ entries
to_open columns [] = refl
to_open columns (e ∷ es) = take_while-cons (is_to columns Open) e es ∙ ap (λ (rest : List Entry). e ∷ rest) (to_open columns es)

-- all rows lie in the whole table
pub whole_count : (indexes : List IndexDef) (entries : List Entry) → count_in indexes Whole entries ≡ length entries
whole_count indexes entries = ap (λ (es : List Entry). length es) (filter_all (lies_in indexes Whole) entries (all_true entries))

module _ (state : State) (valid : IsValidState state) (table : ℕ) (within : table < length state.tables) where
  abbrev rows : List Entry
  rows = entries_of state table

  abbrev key : List ℕ
  key = primary_of (indexes_of state table)

  rows_ascending : IsAscending (entry_cmp key) rows
  rows_ascending = (rows_valid state valid table within).ascending

  pub rows_apart : AreApart (entry_cmp key) rows
  rows_apart = apart_from_ascending (entry_cmp key) rows rows_ascending

  module _ (index : ℕ) where
    abbrev columns : List ℕ
    columns = index_columns (indexes_of state table) index

    abbrev walk : List Entry
    walk = walk_of state table index

    walk_ascending : IsAscending (entry_cmp columns) walk
    walk_ascending = ascending_in_order (entry_cmp columns) (entry_cmp_total columns) rows (apart_at_more (parts_at (indexes_of state table) index) key rows rows_apart)

    walk_apart : AreApart (entry_cmp key) walk
    walk_apart = apart_permuted (entry_cmp key) (entry_cmp_total key) rows walk (in_order_permutes (entry_cmp columns) rows) rows_apart

    module _ (low high : Edge (List Value)) where
      abbrev front : List Entry
      front = take_while (is_to columns high) (filter (is_from columns low) walk)

      abbrev inside : List Entry
      inside = filter (is_between columns low high) walk

      -- what a walk from the low edge to the high one goes through
      pub front_inside : front ≡ inside
      front_inside =
          front_is (entry_cmp columns) (is_to columns high) (to_closed columns high) (filter (is_from columns low) walk) (ascending_kept (entry_cmp columns) (is_from columns low) walk walk_ascending)
          ∙ filter_both (is_from columns low) (is_to columns high) walk

      -- as many rows lie in the range in each order
      pub front_count : length front ≡ count_in (indexes_of state table) (Range index low high) rows
      front_count =
          let test = is_between columns low high in
          ap (λ (es : List Entry). length es) front_inside ∙ length-filter test walk
          ∙ sum_by-IsPermutation (λ (e : Entry). cond (test e) 1 0) rows walk (in_order_permutes (entry_cmp columns) rows) ∙ sym (length-filter test rows)

      module _ (condition : Option Expr) where
        met_apart : AreApart (entry_cmp key) (filter (is_met condition) inside)
        met_apart = apart_kept (entry_cmp key) (is_met condition) inside (apart_kept (entry_cmp key) (is_between columns low high) walk walk_apart)

        module _ (covers : AllByRecursion (IsCovered condition (indexes_of state table) (Range index low high)) rows) where
          same : HaveSameMembers (filter (is_met condition) rows) (filter (is_met condition) inside)
          same x = (
            λ there.
                let row = member_of_kept (is_met condition) rows x there in
                let met = kept_passes (is_met condition) rows x there in
                let lies = all_members (IsCovered condition (indexes_of state table) (Range index low high)) rows x covers row met in
                kept_member (is_met condition) inside x (kept_member (is_between columns low high) walk x ((in_order_members (entry_cmp columns) rows x).0 row) lies) met,
            λ there.
                let row = member_of_kept (is_between columns low high) walk x (member_of_kept (is_met condition) inside x there) in
                kept_member (is_met condition) rows x ((in_order_members (entry_cmp columns) rows x).1 row) (kept_passes (is_met condition) inside x there),
          )

          in_order_again : sorted [] key (filter (is_met condition) inside) ≡ filter (is_met condition) rows
          in_order_again =
              sym (in_order_is (entry_cmp_by [] key) (entry_cmp_by_total [] key) (filter (is_met condition) rows) (filter (is_met condition) inside)
              (ascending_kept (entry_cmp key) (is_met condition) rows rows_ascending) met_apart same)

          module _ (steady : (e : Entry) → overflows condition e ≡ false) where
            none_over : (es : List Entry) → list_any (overflows condition) es ≡ false
            none_over [] = refl
            none_over (e ∷ es) = rw (steady e) (none_over es)

            met_is : (es : List Entry) → met_by condition es ≡ Some (filter (is_met condition) es)
            met_is es = rw (none_over es) refl

            -- where the condition overflows on none, what was picked is in order what the table has
            picked_is : (picked : List Entry) → Some picked ≡ met_by condition inside → (picked ≡ filter (is_met condition) inside)
            picked_is picked is = same_Some picked (filter (is_met condition) inside) (is ∙ met_is inside)

            pub picked_apart : (picked : List Entry) → Some picked ≡ met_by condition inside → AreApart (entry_cmp key) picked
            picked_apart picked is = subst (AreApart (entry_cmp key)) (sym (picked_is picked is)) met_apart

            pub found_in_range : (picked : List Entry) → Some picked ≡ met_by condition inside → Some (sorted [] key picked) ≡ met_by condition rows
            found_in_range picked is =
                ap (λ (es : List Entry). Some (sorted [] key es)) (picked_is picked is) ∙ ap (λ (es : List Entry). Some es) in_order_again ∙ sym (met_is rows)

            pub never_none : None ≡ met_by condition inside → None ≡ met_by condition rows
            never_none is = absurd (none-some (filter (is_met condition) inside) (is ∙ met_is inside))

-- where the condition overflows on each row, and there is one
pub overflows_at_once : (condition : Option Expr) (entries : List Entry) → ((e : Entry) → true ≡ overflows condition e) → (length entries ≡ 0 → ⊥) → None ≡ met_by condition entries
overflows_at_once condition [] each some = absurd (some refl)
overflows_at_once condition (e ∷ es) each some = rw (← each e) refl

-- a condition that doesn't calculate with a column overflows on all rows where it does on one
pub overflow_said : (condition : Option Expr) → calculates condition ≡ false → (row : List Value) (met : Option Bool) → ((slot : ℕ) → met ≡ met_at (worth_on condition (row, slot))) → (b : Bool) → is_some met ≡ not b → (entry : Entry) → b ≡ overflows condition entry
overflow_said condition plain row met said b is entry = by_met met b (said 0) is ∙ unvarying condition plain (row, 0) entry
  where
    by_met : (m : Option Bool) (b : Bool) → m ≡ met_at (worth_on condition (row, 0)) → is_some m ≡ not b → b ≡ overflows condition (row, 0)
    by_met None true at is = sym (over_there condition (row, 0) at)
    by_met None false at is = absurd (true≢false (sym is))
    by_met (Some x) true at is = absurd (true≢false is)
    by_met (Some x) false at is = sym (fine_there condition (row, 0) x at).0
