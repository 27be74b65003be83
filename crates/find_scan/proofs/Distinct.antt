-- No two rows that a find selects share a slot.
--     own_in_order, own_reversed, own_append, own_front, own_back      lists in which each row has a slot of its own
--     once_apart      values, each once
--     distinct_selected      the rows of a find
use Rattle.std.proofs.Common.{◌≡◌, ℕ, ◌<◌, Bool, true, false, not, List, [], ◌∷◌, ◌++◌, length, length-set, map, set, get_or, filter, reverse, take, drop, Option, Some, None, Contains, sym, ap, subst, ◌∙◌, append-nil}
use Rattle.std.specs.List.{AllByRecursion}
use Rattle.std.specs.Ordering.{is_eq}
use Rattle.std.specs.Prelude.{IfSome, ◌==◌}
use Rattle.std.proofs.lemmas.Bool.{true≢false, not-true, ne_eqb}
use Rattle.std.proofs.lemmas.Cmp.{tied_itself}
use Rattle.std.proofs.lemmas.List.{take-append-drop, reverse-append, get_or-set_same}
use Rattle.row_types.specs.declared.values.Value.{Value}
use Rattle.row_types.specs.declared.values.Value.TheVariants.{Null}
use Rattle.row_types.specs.Order.{value_cmp}
use Rattle.row_types.proofs.Orders.{value_cmp_total}
use Rattle.index_tree.specs.Ordered.{AreApart, is_below, in_order}
use Rattle.index_tree.proofs.Ascending.{equal_is, parted_below}
use Rattle.index_tree.proofs.Elements.{all_pass, all_weaker, all_append, all_front, all_mapped, each_member, member_of_kept, kept_passes}
use Rattle.index_tree.proofs.InOrder.{all_in_order, in_order_members, ascending_in_order}
use Rattle.table_rows.specs.Entries.{Entry, cells, entry_cmp}
use Rattle.table_rows.proofs.CellOrder.{entry_cmp_total}
use Rattle.table_rows.proofs.SlotLists.{all_reversed}
use Rattle.request_types.specs.declared.filters.FilterSpec.{FilterSpec}
use Rattle.find_filter.specs.declared.filters.Step.{Step}
use Rattle.find_filter.specs.declared.filters.Step.TheVariants.{Keep, Skip, Stop}
use Rattle.find_filter.specs.Filter.{step_of}
use Rattle.request_types.specs.declared.finds.FindOp.{FindOp}
use Rattle.request_types.specs.declared.finds.FindOp.TheVariants.{Equal, Greater, GreaterEqual, Less, LessEqual}
use Rattle.request_types.specs.declared.finds.InSpec.{InSpec}
use Rattle.request_types.specs.declared.finds.FindSpec.{FindSpec}
use Rattle.table_rows.specs.declared.slot_ref.SlotRef.{SlotRef}
use Rattle.table_rows.specs.Rows.{State, entries_of}
use Rattle.table_rows.specs.Slots.{is_in, row_of}
use Rattle.table_rows.specs.Valid.{EachPair}
use Rattle.table_rows.specs.Walks.{walk_of}
use Rattle.table_rows.proofs.BySlot.{HaveOwnSlots, other_slot, row_of_member}
use Rattle.table_rows.proofs.Keys.{key_exact}
use Rattle.table_rows.proofs.Pairs.{pairs_kept, pairs_put}
use Rattle.find_scan.specs.Select.{is_asked, stands_to, directed, columns_for, matching, once, keys_of, found, by_step, kept, selected, slots_of}
use Rattle.table_rows.specs.Named.{AreDistinct}
use Rattle.find_scan.proofs.Chosen.{all_that_pass}

abbrev IsApart : Entry → Entry → Type 0
IsApart a b = is_in a.1 b ≡ false

own_append : (xs ys : List Entry) → HaveOwnSlots xs → HaveOwnSlots ys → AllByRecursion (λ x. AllByRecursion (IsApart x) ys) xs → HaveOwnSlots (xs ++ ys)
own_append [] ys first second across = second
own_append (x ∷ xs) ys first second across = (all_append (IsApart x) xs ys first.0 across.0, own_append xs ys first.1 second across.1)

own_front : (xs ys : List Entry) → HaveOwnSlots (xs ++ ys) → HaveOwnSlots xs
own_front [] ys own = tt
own_front (x ∷ xs) ys own = (all_front (IsApart x) xs ys own.0, own_front xs ys own.1)

own_back : (xs ys : List Entry) → HaveOwnSlots (xs ++ ys) → HaveOwnSlots ys
own_back [] ys own = own
own_back (x ∷ xs) ys own = own_back xs ys own.1

own_taken : (n : ℕ) (xs : List Entry) → HaveOwnSlots xs → HaveOwnSlots (take n xs)
own_taken n xs own = own_front (take n xs) (drop n xs) (subst HaveOwnSlots (sym (take-append-drop n xs)) own)

own_dropped : (n : ℕ) (xs : List Entry) → HaveOwnSlots xs → HaveOwnSlots (drop n xs)
own_dropped n xs own = own_back (take n xs) (drop n xs) (subst HaveOwnSlots (sym (take-append-drop n xs)) own)

own_reversed : (xs : List Entry) → HaveOwnSlots xs → HaveOwnSlots (reverse xs)
own_reversed [] own = tt
own_reversed (x ∷ xs) own =
    subst HaveOwnSlots (sym (reverse-append (x ∷ []) xs)) (own_append (reverse xs) (x ∷ []) (own_reversed xs own.1) (tt, tt)
    (all_reversed (λ (y : Entry). AllByRecursion (IsApart y) (x ∷ [])) xs (all_weaker (IsApart x) (λ (y : Entry). AllByRecursion (IsApart y) (x ∷ [])) (λ y other. (other_slot x y other, tt)) xs own.0)))

own_in_order : (columns : List ℕ) (xs : List Entry) → AreApart (entry_cmp columns) xs → HaveOwnSlots xs → HaveOwnSlots (in_order (entry_cmp columns) xs)
own_in_order columns [] apart own = tt
own_in_order columns (x ∷ xs) apart own =
    let cmp = entry_cmp columns in
    let total = entry_cmp_total columns in
    let sorted = in_order cmp xs in
    pairs_put IsApart other_slot (is_below cmp x) x sorted (parted_below cmp total x sorted (ascending_in_order cmp total xs apart.1)) (all_in_order cmp (IsApart x) xs own.0) (own_in_order columns xs apart.1 own.1)

own_directed : (op : FindOp) (xs : List Entry) → HaveOwnSlots xs → HaveOwnSlots (directed op xs)
own_directed Equal xs own = own
own_directed Greater xs own = own
own_directed GreaterEqual xs own = own
own_directed Less xs own = own_reversed xs own
own_directed LessEqual xs own = own_reversed xs own

own_by_step : (step : Step) (x : Entry) (later : List Entry) → AllByRecursion (IsApart x) later → HaveOwnSlots later → HaveOwnSlots (by_step step x later)
own_by_step Keep x later apart own = (apart, own)
own_by_step Skip x later apart own = own
own_by_step Stop x later apart own = tt

own_that_pass : (filters : List FilterSpec) (xs : List Entry) → HaveOwnSlots xs → HaveOwnSlots (kept filters xs)
own_that_pass filters [] own = tt
own_that_pass filters (x ∷ xs) own = own_by_step (step_of x.0 filters) x (kept filters xs) (all_that_pass (IsApart x) filters xs own.0) (own_that_pass filters xs own.1)

distinct_slots : (xs : List Entry) → HaveOwnSlots xs → AreDistinct (slots_of xs)
distinct_slots [] own = tt
distinct_slots (x ∷ xs) own = (all_mapped (λ (s : SlotRef). (s.0 == x.1) ≡ false) (λ (e : Entry). record { 0 = e.1 }) xs own.0, distinct_slots xs own.1)

abbrev IsOther : Value → Value → Type 0
IsOther v w = is_eq (value_cmp w v) ≡ false

once_apart : (values : List Value) → EachPair IsOther (once values)
once_apart [] = tt
once_apart (v ∷ values) =
    let test = λ (w : Value). not (is_eq (value_cmp w v)) in
    (all_weaker (λ (w : Value). test w ≡ true) (IsOther v) (λ w passes. not-true (is_eq (value_cmp w v)) passes) _ (all_pass test (once values)), pairs_kept IsOther test (once values) (once_apart values))

module _ (state : State) (spec : FindSpec) (own : HaveOwnSlots (entries_of state spec.table)) (apart : AreApart (entry_cmp (columns_for state spec)) (entries_of state spec.table)) where
  own_matching : (key : List Value) → HaveOwnSlots (matching state spec key)
  own_matching key = own_directed spec.op _ (pairs_kept IsApart _ _ (own_in_order (columns_for state spec) (entries_of state spec.table) apart own))

  in_table : (e : Entry) → Contains (walk_of state spec.table spec.index) e → Contains (entries_of state spec.table) e
  in_table e = (in_order_members (entry_cmp (columns_for state spec)) (entries_of state spec.table) e).1

  abbrev has : List Value → Entry → Bool
  has key entry = is_asked Equal (stands_to (columns_for state spec) key entry)

  module _ (equal : spec.op ≡ Equal) (part : ℕ) (within : part < length spec.key) where
    abbrev key_with : Value → List Value
    key_with v = set spec.key part v

    equal_matching : (key : List Value) → matching state spec key ≡ filter (has key) (walk_of state spec.table spec.index)
    equal_matching key =
        ap (λ (op : FindOp). directed op (filter (λ (entry : Entry). is_asked op (stands_to (columns_for state spec) key entry)) (walk_of state spec.table spec.index))) equal

    -- a row with one key doesn't have the key with another value
    other_key : (v w : Value) → IsOther v w → (x y : Entry) → Contains (entries_of state spec.table) x → Contains (entries_of state spec.table) y → has (key_with v) x ≡ true → has (key_with w) y ≡ true → IsApart x y
    other_key v w other x y x_in y_in x_has y_has = ne_eqb y.1 x.1 (λ same.
        let rows : y.0 ≡ x.0 = sym (row_of_member (entries_of state spec.table) y own y_in) ∙ ap (λ (s : ℕ). row_of s (entries_of state spec.table)) same ∙ row_of_member (entries_of state spec.table) x own x_in in
        let long : length (key_with w) ≡ length (key_with v) = length-set spec.key part w ∙ sym (length-set spec.key part v) in
        let first = key_exact (take (length (key_with v)) (cells (columns_for state spec) x.0)) (key_with v) (equal_is _ x_has) in
        let second = key_exact (take (length (key_with w)) (cells (columns_for state spec) y.0)) (key_with w) (equal_is _ y_has) in
        let keys : key_with w ≡ key_with v = sym second ∙ (λ i. take (long i) (cells (columns_for state spec) (rows i))) ∙ first in
        let values : w ≡ v = sym (get_or-set_same spec.key part w Null within) ∙ ap (λ (k : List Value). get_or k part Null) keys ∙ get_or-set_same spec.key part v Null within in
        true≢false (sym (ap is_eq (ap (value_cmp w) (sym values) ∙ tied_itself value_cmp_total w)) ∙ other))

    other_rows : (v : Value) (x : Entry) → Contains (entries_of state spec.table) x → has (key_with v) x ≡ true → (ws : List Value) → AllByRecursion (IsOther v) ws → AllByRecursion (IsApart x) (found state spec (map key_with ws))
    other_rows v x x_in x_has [] others = tt
    other_rows v x x_in x_has (w ∷ ws) others =
        all_append (IsApart x) (matching state spec (key_with w)) (found state spec (map key_with ws))
        (subst (AllByRecursion (IsApart x)) (sym (equal_matching (key_with w)))
        (each_member (IsApart x) (filter (has (key_with w)) (walk_of state spec.table spec.index)) (λ y inside.
        other_key v w others.0 x y x_in (in_table y (member_of_kept (has (key_with w)) _ y inside)) x_has (kept_passes (has (key_with w)) _ y inside))))
        (other_rows v x x_in x_has ws others.1)

    own_listed : (vs : List Value) → EachPair IsOther vs → HaveOwnSlots (found state spec (map key_with vs))
    own_listed [] others = tt
    own_listed (v ∷ vs) others =
        own_append (matching state spec (key_with v)) (found state spec (map key_with vs)) (own_matching (key_with v)) (own_listed vs others.1)
        (subst (AllByRecursion (λ (x : Entry). AllByRecursion (IsApart x) (found state spec (map key_with vs)))) (sym (equal_matching (key_with v)))
        (each_member (λ (x : Entry). AllByRecursion (IsApart x) (found state spec (map key_with vs))) (filter (has (key_with v)) (walk_of state spec.table spec.index)) (λ x inside.
        other_rows v x (in_table x (member_of_kept (has (key_with v)) _ x inside)) (kept_passes (has (key_with v)) _ x inside) vs others.0)))

  own_found : (within : Option InSpec) → IfSome within (λ list. (spec.op ≡ Equal) × (list.part < length spec.key)) → HaveOwnSlots (found state spec (keys_of spec.key within))
  own_found None fits = subst HaveOwnSlots (sym (append-nil (matching state spec spec.key))) (own_matching spec.key)
  own_found (Some list) fits = own_listed fits.0 list.part fits.1 (once list.values) (once_apart list.values)

  -- no slot comes twice
  pub distinct_selected : IfSome spec.within (λ list. (spec.op ≡ Equal) × (list.part < length spec.key)) → AreDistinct (slots_of (selected state spec))
  distinct_selected fits = distinct_slots (selected state spec) (own_taken spec.limit _ (own_dropped spec.offset _ (own_that_pass spec.filters _ (own_found spec.within fits))))
