-- What a search among rows from before found.
--     old_total      their order
--     searched_is      it found the row exactly where it is one of them
use Rattle.std.proofs.Common.{◌≡◌, ℕ, zero, suc, ◌<◌, ◌≤◌, Bool, true, false, List, [], ◌∷◌, length, map, get_or, Result, Ok, Err, refl, sym, ap, ap₂, ◌∙◌, inl, inr, ltb, arith}
use Rattle.std.specs.Prelude.{is_ok, ◌||◌}
use Rattle.std.specs.List.{list_any}
use Rattle.std.specs.List.Sorted.{IsSortedBy, IsBinarySearchResult, IsSearchInRange}
use Rattle.std.specs.declared.cmp.Ordering.{Ordering}
use Rattle.std.specs.declared.cmp.Ordering.TheVariants.{Less, Equal, Greater}
use Rattle.std.specs.Ordering.{is_lt, is_eq, nat_cmp}
use Rattle.std.specs.Cmp.{IsTotalOrder, nat_cmp_total, on_total, then_total}
use Rattle.std.proofs.lemmas.Bool.{cases_lt, or_left, or_right}
use Rattle.std.proofs.lemmas.List.Sorted.{searchable_from_sorted}
use Rattle.row_types.specs.declared.values.Value.{Value}
use Rattle.row_types.specs.Order.{key_cmp}
use Rattle.row_types.proofs.Orders.{key_cmp_total}
use Rattle.change_set.specs.declared.touched.OldRow.{OldRow}
use Rattle.change_set.specs.Touched.{old_cmp, old_seen}

pub old_total : IsTotalOrder old_cmp
old_total = then_total (on_total (λ (a : ℕ × List Value). a.0) nat_cmp_total) (on_total (λ (a : ℕ × List Value). a.1) key_cmp_total)

module _ {X Y : Type 0} (f : X → Y) (test : Y → Bool) where
  any_at : (xs : List X) (i : ℕ) → i < length xs → ((d : X) → test (f (get_or xs i d)) ≡ true) → list_any test (map f xs) ≡ true
  any_at [] i lt passes = absurd (omega (arith, lt))
  any_at (x ∷ xs) zero lt passes = or_left (test (f x)) _ (passes x)
  any_at (x ∷ xs) (suc i) lt passes = or_right (test (f x)) _ (any_at xs i (omega (arith, lt)) passes)

  none_at : (xs : List X) → ((i : ℕ) (d : X) → i < length xs → test (f (get_or xs i d)) ≡ false) → list_any test (map f xs) ≡ false
  none_at [] fails = refl
  none_at (x ∷ xs) fails = ap₂ (λ (a b : Bool). a || b) (fails 0 x (omega arith)) (none_at xs (λ i d lt. fails (suc i) d (omega (arith, lt))))

pub searched_is : (olds : List OldRow) (wanted : ℕ × List Value) → IsSortedBy (λ a b. is_lt (old_cmp (old_seen a) (old_seen b))) olds → (r : Result ℕ ℕ) → IsSearchInRange r (length olds)
    → IsBinarySearchResult (λ old. old_cmp (old_seen old) wanted) olds r → is_ok r ≡ list_any (λ old. is_eq (old_cmp old wanted)) (map old_seen olds)
searched_is olds wanted sorted (Ok i) bound found = sym (any_at old_seen (λ old. is_eq (old_cmp old wanted)) olds i bound (λ d. ap is_eq (found d)))
searched_is olds wanted sorted (Err i) bound found =
    let parts = found (searchable_from_sorted old_total old_seen olds wanted sorted) in
    sym (none_at old_seen (λ old. is_eq (old_cmp old wanted)) olds
    (λ k d lt. elim (cases_lt k i) [
      | inl below ↦ ap is_eq (parts.0 k d (omega arith) below)
      | inr above ↦ ap is_eq (parts.1 k d (omega (arith, above)) lt)
    ]))
