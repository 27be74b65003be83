-- What is selected, row after row.
--     none_more, full_is      no row that comes changes anything
--     dropped_is, selected_is, ended_is      the next row that is kept, and the end
--     on_ok      what follows where a call is Ok
--     front_first, front_stops, front_none      the front of a walk
use Rattle.std.proofs.Common.{◌≡◌, ℕ, zero, suc, ◌-◌, ◌<◌, Bool, true, false, cond, List, [], ◌∷◌, ◌++◌, take, drop, refl, sym, ap, ◌∙◌, arith, append-nil, append_assoc, Result, Ok, Err, OnOk}
use Rattle.std.specs.List.{take_while}
use Rattle.std.proofs.Math.Seq.{take-nil, drop-nil}
use Rattle.std.proofs.lemmas.List.Sums.{take_while-cons}
use Rattle.row_types.specs.declared.values.Value.{Value}
use Rattle.table_rows.specs.Entries.{Entry, has_key}
use Rattle.request_types.specs.declared.filters.FilterSpec.{FilterSpec}
use Rattle.table_rows.specs.declared.slot_ref.SlotRef.{SlotRef}
use Rattle.find_scan.specs.Select.{kept, slots_of}
use Rattle.find_scan.specs.Gathering.{Gathered, with_kept, gives, front_of}

-- where no more rows come, what was selected is selected
pub none_more : (g : Gathered) → with_kept g [] ≡ g.slots
none_more g = ap (λ (es : List Entry). g.slots ++ slots_of es) (ap (take g.room) (drop-nil g.to_drop) ∙ take-nil g.room) ∙ append-nil g.slots

-- where there is no room, neither
pub full_is : (g : Gathered) → g.room ≡ 0 → (entries : List Entry) → with_kept g entries ≡ g.slots
full_is g full entries = ap (λ (n : ℕ). g.slots ++ slots_of (take n (drop g.to_drop entries))) full ∙ append-nil g.slots

pub full_gives : (filters : List FilterSpec) (g : Gathered) → g.room ≡ 0 → (some other : List Entry) → gives filters g some ≡ gives filters g other
full_gives filters g full some other = full_is g full (kept filters some) ∙ sym (full_is g full (kept filters other))

-- one less is dropped
pub dropped_is : (slots : List SlotRef) (n room : ℕ) (entry : Entry) (later : List Entry) → 0 < n
    → with_kept (record { slots = slots; to_drop = n - 1; room = room }) later ≡ with_kept (record { slots = slots; to_drop = n; room = room }) (entry ∷ later)
dropped_is slots zero room entry later some = absurd (omega (arith, some))
dropped_is slots (suc n) room entry later some =
    let less : suc n - 1 ≡ n = omega arith in
    ap (λ (m : ℕ). with_kept (record { slots = slots; to_drop = m; room = room }) later) less

-- one more is selected
pub selected_is : (slots more : List SlotRef) (to_drop room : ℕ) (entry : Entry) (later : List Entry) → more ≡ slots ++ record { 0 = entry.1 } ∷ [] → to_drop ≡ 0 → 0 < room
    → with_kept (record { slots = more; to_drop = to_drop; room = room - 1 }) later ≡ with_kept (record { slots = slots; to_drop = to_drop; room = room }) (entry ∷ later)
selected_is slots more to_drop zero entry later pushed none some = absurd (omega (arith, some))
selected_is slots more to_drop (suc room) entry later pushed none some =
    let less : suc room - 1 ≡ room = omega arith in
    rw (pushed, none, less) (append_assoc slots (record { 0 = entry.1 } ∷ []) (slots_of (take room later)))

-- the front of a walk: its first entry, where it belongs there
pub front_first : (asked : Bool) (columns : List ℕ) (key : List Value) (entry : Entry) (entries : List Entry) → (asked ≡ true → has_key columns key entry.0 ≡ true) → front_of asked columns key (entry ∷ entries) ≡ entry ∷ front_of asked columns key entries
front_first false columns key entry entries has = refl
front_first true columns key entry entries has =
    let test = λ (e : Entry). has_key columns key e.0 in
    take_while-cons test entry entries ∙ ap (λ (b : Bool). cond b (entry ∷ take_while test entries) []) (has refl)

-- and nothing, where it doesn't
pub front_stops : (columns : List ℕ) (key : List Value) (entry : Entry) (entries : List Entry) → has_key columns key entry.0 ≡ false → front_of true columns key (entry ∷ entries) ≡ []
front_stops columns key entry entries lacks =
    let test = λ (e : Entry). has_key columns key e.0 in
    take_while-cons test entry entries ∙ ap (λ (b : Bool). cond b (entry ∷ take_while test entries) []) lacks

pub front_none : (asked : Bool) (columns : List ℕ) (key : List Value) → front_of asked columns key [] ≡ []
front_none false columns key = refl
front_none true columns key = refl

-- what follows where a call is Ok
pub on_ok : {A E P Q : Type 0} (r : Result A E) → (P → Q) → OnOk r P → OnOk r Q
on_ok (Ok x) then is = then is
on_ok (Err e) then is = tt
