-- What a search of entries finds, and what stands beside an entry, is a live slot.
use Rattle.std.proofs.Common.{◌≡◌, ℕ, ◌==◌, Bool, true, false, cond, List, [], ◌∷◌, find, reverse, Option, Some, is_some, IfSome, sym, ap, subst}
use Rattle.std.specs.List.{AllByRecursion}
use Rattle.table_rows.specs.Entries.{Slots, Entry, IsTaken, walk}
use Rattle.table_rows.specs.StoreWalks.{foremost, behind, slot_in}
use Rattle.table_rows.proofs.KeptRows.{IsRowOf}
use Rattle.table_rows.proofs.SlotLists.{all_reversed}
use Rattle.table_rows.proofs.WalkChanges.{walk_rows}

module _ (slots : Slots) where
  pub find_live : (test : Entry → Bool) (xs : List Entry) → AllByRecursion (IsRowOf slots) xs → IfSome (slot_in (find test xs)) (IsTaken slots)
  find_live test [] rows = tt
  find_live test (x ∷ xs) rows = by_test (find_live test xs rows.1) (test x)
    where
      by_test : IfSome (slot_in (find test xs)) (IsTaken slots) → (b : Bool) → IfSome (slot_in (cond b (Some x) (find test xs))) (IsTaken slots)
      by_test rest true = ap is_some rows.0
      by_test rest false = rest

  foremost_live : (xs : List Entry) → AllByRecursion (IsRowOf slots) xs → IfSome (slot_in (foremost xs)) (IsTaken slots)
  foremost_live [] rows = tt
  foremost_live (x ∷ xs) rows = ap is_some rows.0

  pub behind_live : (slot : ℕ) (xs : List Entry) → AllByRecursion (IsRowOf slots) xs → IfSome (slot_in (behind slot xs)) (IsTaken slots)
  behind_live slot [] rows = tt
  behind_live slot (x ∷ xs) rows = by_test (behind_live slot xs rows.1) (x.1 == slot)
    where
      by_test : IfSome (slot_in (behind slot xs)) (IsTaken slots) → (b : Bool) → IfSome (slot_in (cond b (foremost xs) (behind slot xs))) (IsTaken slots)
      by_test rest true = foremost_live xs rows.1
      by_test rest false = rest

  -- in a walk up, and in one down
  pub walk_up : (columns : List ℕ) → AllByRecursion (IsRowOf slots) (walk columns slots)
  walk_up columns = walk_rows columns slots

  pub walk_down : (columns : List ℕ) → AllByRecursion (IsRowOf slots) (reverse (walk columns slots))
  walk_down columns = all_reversed (IsRowOf slots) (walk columns slots) (walk_rows columns slots)

-- the same of an answer that is equal, and of slots that are
pub live_answer : (slots seen : Slots) (answer found : Option ℕ) → answer ≡ found → slots ≡ seen → IfSome found (IsTaken slots) → IfSome answer (IsTaken seen)
live_answer slots seen answer found same seen_is live = subst (λ (ss : Slots). IfSome answer (IsTaken ss)) seen_is (subst (λ (o : Option ℕ). IfSome o (IsTaken slots)) (sym same) live)
