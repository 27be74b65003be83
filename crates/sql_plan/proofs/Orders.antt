-- The order of rows is total, and tells apart what the primary key does.
--     row_cmp_total, entry_cmp_by_total      the order is total
--     apart_by      rows that the primary key keeps apart are apart
--     sorted_is      rows that were sorted by it are the rows in order
use Rattle.std.proofs.Common.{◌≡◌, ℕ, suc, ◌+◌, Bool, true, false, if◌then◌else◌, List, [], ◌∷◌, get_or, refl, sym, ap, subst, ◌∙◌, arith}
use Rattle.std.specs.List.Sorted.{IsPermutation, IsSortedBy}
use Rattle.std.specs.declared.cmp.Ordering.{Ordering}
use Rattle.std.specs.declared.cmp.Ordering.TheVariants.{Less, Equal, Greater}
use Rattle.std.specs.Ordering.{ordering_then, is_lt, is_eq}
use Rattle.std.specs.Cmp.{IsTotalOrder, on_total, back_total, then_total}
use Rattle.std.proofs.lemmas.List.Sorted.{ranks_by, sorted_far, IsPermutation-map}
use Rattle.index_tree.specs.Ordered.{IsAscending, AreApart}
use Rattle.index_tree.proofs.Apart.{apart_finer, apart_permuted, apart_unmapped}
use Rattle.index_tree.proofs.Ascending.{less_when_left, ascending_mapped}
use Rattle.index_tree.proofs.Elements.{each_member, all_members}
use Rattle.index_tree.proofs.InOrder.{in_order_is}
use Rattle.index_tree.proofs.Members.{same_members_back, same_members_permuted}
use Rattle.row_types.specs.declared.values.Value.{Value}
use Rattle.row_types.specs.Order.{value_cmp, key_cmp}
use Rattle.row_types.proofs.Orders.{value_cmp_total, key_cmp_total}
use Rattle.table_rows.specs.Entries.{Entry, cell_at, cells, entry_cmp}
use Rattle.sql_value.specs.declared.orders.OrderKey.{OrderKey}
use Rattle.sql_plan.specs.declared.picking.Picked.{Picked}
use Rattle.sql_plan.specs.Sorted.{key_cmp_by, row_cmp, entry_cmp_by, sorted, entry_of, entries_in}

key_cmp_by_total : (key : OrderKey) → IsTotalOrder (key_cmp_by key)
key_cmp_by_total key = by_way key.down
  where
    by_way : (down : Bool) → IsTotalOrder (λ (a b : List Value). if down then value_cmp (cell_at b key.column) (cell_at a key.column) else value_cmp (cell_at a key.column) (cell_at b key.column))
    by_way true = back_total (on_total (λ (row : List Value). cell_at row key.column) value_cmp_total)
    by_way false = on_total (λ (row : List Value). cell_at row key.column) value_cmp_total

pub row_cmp_total : (order : List OrderKey) (primary : List ℕ) → IsTotalOrder (row_cmp order primary)
row_cmp_total [] primary = on_total (cells primary) key_cmp_total
row_cmp_total (key ∷ order) primary = then_total (key_cmp_by_total key) (row_cmp_total order primary)

pub entry_cmp_by_total : (order : List OrderKey) (primary : List ℕ) → IsTotalOrder (entry_cmp_by order primary)
entry_cmp_by_total order primary = on_total (λ (e : Entry). e.0) (row_cmp_total order primary)

pub apart_by : (order : List OrderKey) (primary : List ℕ) (a b : List Value) → is_eq (key_cmp (cells primary a) (cells primary b)) ≡ false → is_eq (row_cmp order primary a b) ≡ false
apart_by [] primary a b apart = apart
apart_by (key ∷ order) primary a b apart = by_first (key_cmp_by key a b) (apart_by order primary a b apart)
  where
    by_first : (o : Ordering) → is_eq (row_cmp order primary a b) ≡ false → is_eq (ordering_then o (row_cmp order primary a b)) ≡ false
    by_first Less rest = refl
    by_first Equal rest = rest
    by_first Greater rest = refl

module _ {X : Type 0} (cmp : X → X → Ordering) (order : IsTotalOrder cmp) where
  -- sorted items of which no two compare as equal ascend
  ascends : (xs : List X) → AreApart cmp xs → IsSortedBy (λ x y. is_lt (cmp x y)) xs → IsAscending cmp xs
  ascends [] apart up = tt
  ascends (x ∷ xs) apart up = (
    each_member (λ (y : X). cmp x y ≡ Less) xs
        (λ y inside. less_from y (subst (λ (z : X). is_lt (cmp z x) ≡ false) inside.2 (sorted_far (λ (a b : X). is_lt (cmp a b)) (ranks_by order (λ (a : X). a)) (x ∷ xs) up 0 (suc inside.0) y (omega arith) (omega (arith, inside.1))))
        (all_members (λ (z : X). is_eq (cmp x z) ≡ false) xs y apart.0 inside)),
    ascends xs apart.1 (λ k d low high.
        let next : suc k + 1 ≡ suc (k + 1) = omega arith in
        subst (λ (n : ℕ). is_lt (cmp (get_or (x ∷ xs) n d) (get_or xs k d)) ≡ false) next (up (suc k) d (omega arith) (omega (arith, high)))),
  )
    where
      less_from : (y : X) → is_lt (cmp y x) ≡ false → is_eq (cmp x y) ≡ false → cmp x y ≡ Less
      less_from y not_below apart = less_when_left (cmp x y) (ap is_lt (sym (order.antisymm y x)) ∙ not_below) apart

-- rows that were sorted are the rows in order
pub sorted_is : (order : List OrderKey) (primary : List ℕ) (before after : List Picked) → AreApart (entry_cmp primary) (entries_in before) → IsPermutation before after
    → IsSortedBy (λ a b. is_lt (row_cmp order primary a.row.now b.row.now)) after → entries_in after ≡ sorted order primary (entries_in before)
sorted_is order primary before after apart moved up =
    let cmp = entry_cmp_by order primary in
    let total = entry_cmp_by_total order primary in
    let cmp_picked : Picked → Picked → Ordering = λ a b. cmp (entry_of a) (entry_of b) in
    let moved_entries = IsPermutation-map entry_of before after moved in
    let apart_before : AreApart cmp (entries_in before) = apart_finer (entry_cmp primary) cmp (λ x y. apart_by order primary x.0 y.0) (entries_in before) apart in
    let apart_after : AreApart cmp (entries_in after) = apart_permuted cmp total (entries_in before) (entries_in after) moved_entries apart_before in
    let ascending : IsAscending cmp_picked after = ascends cmp_picked (on_total entry_of total) after (apart_unmapped cmp entry_of after apart_after) up in
    in_order_is cmp total (entries_in after) (entries_in before) (ascending_mapped cmp entry_of after ascending) apart_before
    (same_members_back (entries_in before) (entries_in after) (same_members_permuted (entries_in before) (entries_in after) moved_entries))
