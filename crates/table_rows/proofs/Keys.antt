-- The orders of entries.
--     key_exact, entry_cmp_total, entry_cmp_same, like_is, like_back      cells that compare as equal are equal
use Rattle.std.proofs.Common.{◌≡◌, ℕ, List, [], ◌∷◌, true, refl, ap, ap₂, ◌∙◌}
use Rattle.std.specs.declared.cmp.Ordering.{Ordering}
use Rattle.std.specs.declared.cmp.Ordering.TheVariants.{Less, Equal, Greater}
use Rattle.std.specs.Ordering.{ordering_then, ordering_reverse, is_eq}
use Rattle.std.specs.Cmp.{IsTotalOrder, on_total}
use Rattle.index_tree.proofs.Ascending.{equal_is}
use Rattle.row_types.specs.declared.values.Value.{Value}
use Rattle.row_types.specs.Order.{value_cmp, key_cmp}
use Rattle.row_types.proofs.Orders.{key_cmp_total, value_cmp-exact}
use Rattle.table_rows.specs.Entries.{Entry, cells, entry_cmp}
use Rattle.table_rows.specs.StoreWalks.{is_like}

pub key_exact : (a b : List Value) → key_cmp a b ≡ Equal → a ≡ b
key_exact [] [] e = refl
key_exact [] (y ∷ ys) e = absurd cc
key_exact (x ∷ xs) [] e = absurd cc
key_exact (x ∷ xs) (y ∷ ys) e = by_first (key_exact xs ys) (value_cmp x y) refl e
  where
    by_first : (key_cmp xs ys ≡ Equal → xs ≡ ys) → (o : Ordering) → value_cmp x y ≡ o → ordering_then o (key_cmp xs ys) ≡ Equal → x ∷ xs ≡ y ∷ ys
    by_first rest Less first e = absurd cc
    by_first rest Equal first e = ap₂ (λ (v : Value) (vs : List Value). v ∷ vs) (value_cmp-exact x y first) (rest e)
    by_first rest Greater first e = absurd cc

pub entry_cmp_total : (columns : List ℕ) → IsTotalOrder (entry_cmp columns)
entry_cmp_total columns = on_total (λ (e : Entry). cells columns e.0) key_cmp_total

-- rows that are alike in some columns have the same cells there
pub like_is : (columns : List ℕ) (row : List Value) (e : Entry) → is_like columns row e ≡ true → cells columns e.0 ≡ cells columns row
like_is columns row e like = key_exact _ _ (equal_is _ like)

reverse_eq : (o : Ordering) → is_eq (ordering_reverse o) ≡ is_eq o
reverse_eq Less = refl
reverse_eq Equal = refl
reverse_eq Greater = refl

pub like_back : (columns : List ℕ) (a b : Entry) → is_like columns a.0 b ≡ is_like columns b.0 a
like_back columns a b = ap is_eq (key_cmp_total.antisymm (cells columns b.0) (cells columns a.0)) ∙ reverse_eq _
