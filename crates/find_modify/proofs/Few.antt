-- No more slots are named than there are rows, and rows are few.
--     fewer_slots, few_slots
use Rattle.std.proofs.Common.{◌≡◌, ℕ, ◌+◌, ◌*◌, ◌^◌, ◌<◌, ◌≤◌, Bool, true, false, not, ◌||◌, List, [], ◌∷◌, length, filter, refl, sym, arith}
use Rattle.std.specs.Prelude.{◌==◌}
use Rattle.std.specs.List.{AllByRecursion, list_any}
use Rattle.std.proofs.lemmas.Bool.{true≢false, eqb-false}
use Rattle.std.proofs.lemmas.List.Filters.{length-filter_both}
use Rattle.std.proofs.lemmas.List.Sums.{sum_by-cons}
use Rattle.row_types.specs.Size.{row_size}
use Rattle.table_rows.specs.Entries.{Entry}
use Rattle.table_rows.specs.declared.slot_ref.SlotRef.{SlotRef}
use Rattle.table_rows.specs.Rows.{State, entries_of}
use Rattle.table_rows.specs.Slots.{is_in, is_live, without}
use Rattle.table_rows.specs.Sizes.{entries_size, total}
use Rattle.table_rows.specs.Valid.{IsValidState}
use Rattle.table_rows.proofs.Counted.{size_le_total}
use Rattle.table_rows.specs.Named.{AreDistinct, AreSlots}
use Rattle.find_modify.proofs.Others.{any_filter, other_slot}

some_passes : {X : Type 0} (test : X → Bool) (xs : List X) → list_any test xs ≡ true → 1 ≤ length (filter test xs)
some_passes test [] any = absurd (true≢false (sym any))
some_passes test (x ∷ xs) any = by_test (some_passes test xs) (test x) refl any
  where
    by_test : (list_any test xs ≡ true → 1 ≤ length (filter test xs)) → (b : Bool) → test x ≡ b → (b || list_any test xs) ≡ true → 1 ≤ length (filter test (x ∷ xs))
    by_test rest true passes any = rw passes (omega arith)
    by_test rest false fails any = rw fails (rest any)

-- other slots keep their rows where one row is gone
live_on : (slot : SlotRef) (slots : List SlotRef) → AllByRecursion (λ (other : SlotRef). (other.0 == slot.0) ≡ false) slots → (entries : List Entry) → AllByRecursion (λ (other : SlotRef). is_live other.0 entries ≡ true) slots → AllByRecursion (λ (other : SlotRef). is_live other.0 (without slot.0 entries) ≡ true) slots
live_on slot [] apart entries live = tt
live_on slot (other ∷ slots) apart entries live = (
  any_filter (is_in other.0) (λ (e : Entry). not (is_in slot.0 e)) (other_slot slot.0 other.0 (eqb-false other.0 slot.0 apart.0)) entries live.0,
  live_on slot slots apart.1 entries live.1,
)

pub fewer_slots : (slots : List SlotRef) (entries : List Entry) → AllByRecursion (λ (slot : SlotRef). is_live slot.0 entries ≡ true) slots → AreDistinct slots → length slots ≤ length entries
fewer_slots [] entries live once = omega arith
fewer_slots (slot ∷ slots) entries live once =
    let fewer = fewer_slots slots (without slot.0 entries) (live_on slot slots once.0 entries live.1) once.1 in
    let both : length (filter (is_in slot.0) entries) + length (without slot.0 entries) ≡ length entries = length-filter_both (is_in slot.0) (λ (e : Entry). not (is_in slot.0 e)) (λ e. refl) entries in
    omega (arith, fewer, both, some_passes (is_in slot.0) entries live.0)

entries_long : (entries : List Entry) → 64 * length entries ≤ entries_size entries
entries_long [] = omega arith
entries_long (e ∷ es) = omega (arith, sum_by-cons (λ (x : Entry). row_size x.0) e es, entries_long es)

pub few_slots : (state : State) → IsValidState state → (table : ℕ) → table < length state.tables → (slots : List SlotRef) → AreSlots state table slots → length slots < 2 ^ 32
few_slots state valid table within slots are =
    let entries = entries_of state table in
    let some : length slots ≤ length entries = fewer_slots slots entries are.live are.once in
    let bytes : 64 * length entries ≤ total state = omega (arith, entries_long entries, size_le_total state valid table within) in
    let most : total state ≤ 268435456 = valid.bytes in
    omega (arith, some, bytes, most)
