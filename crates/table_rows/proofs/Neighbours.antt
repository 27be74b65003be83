-- Each entry of a walk has a slot of its own, and stands between its neighbours.
use Rattle.std.proofs.Common.{◌≡◌, ℕ, zero, suc, ◌==◌, false, List, [], ◌∷◌, ◌++◌, get_or, take, drop, reverse, Some, slice_get, option_and_then, sym, refl, ap, subst, ◌∙◌, arith}
use Rattle.std.specs.declared.cmp.Ordering.TheVariants.{Less, Equal}
use Rattle.std.specs.List.{AllByRecursion}
use Rattle.std.proofs.lemmas.Bool.{true≢false, ne_eqb, eq-eqb, cond-true, cond-false}
use Rattle.std.proofs.lemmas.Cmp.{tied_itself}
use Rattle.std.proofs.lemmas.List.{reverse-append, append_assoc, take-append-drop}
use Rattle.std.proofs.lemmas.Option.{same_Some, slice_get_within, slice_get-get_or}
use Rattle.row_types.specs.declared.values.Value.{Value}
use Rattle.index_tree.specs.Contents.{one_before}
use Rattle.index_tree.specs.Ordered.{IsAscending}
use Rattle.index_tree.proofs.Elements.{some_is_none}
use Rattle.index_tree.proofs.Found.{drop_at, take_at}
use Rattle.table_rows.specs.Entries.{Slots, Entry, row_under, entry_cmp}
use Rattle.table_rows.specs.StoreWalks.{foremost, behind, in_front}
use Rattle.table_rows.proofs.CellOrder.{entry_cmp_total}
use Rattle.table_rows.proofs.KeptRows.{IsRowOf}
use Rattle.table_rows.proofs.SlotLists.{all_reversed}

-- none of the entries has this slot
abbrev pub AreOthers : ℕ → List Entry → Type 0
AreOthers slot xs = AllByRecursion (λ (e : Entry). (e.1 == slot) ≡ false) xs

-- no slot comes twice
abbrev pub HaveOwnSlots : List Entry → Type 0
HaveOwnSlots [] = Unit {0}
HaveOwnSlots (x ∷ xs) = AreOthers x.1 xs × HaveOwnSlots xs

-- entries in order, of which each has the row in its slot, have slots of their own
pub own_slots : (columns : List ℕ) (slots : Slots) (xs : List Entry) → IsAscending (entry_cmp columns) xs → AllByRecursion (IsRowOf slots) xs → HaveOwnSlots xs
own_slots columns slots [] ascending rows = tt
own_slots columns slots (x ∷ xs) ascending rows = (others xs ascending.0 rows.1, own_slots columns slots xs ascending.1 rows.1)
  where
    less_is_not : Less ≡ Equal → ⊥
    less_is_not e = cc

    same_row : (e : Entry) → row_under slots e.1 ≡ Some e.0 → e.1 ≡ x.1 → x.0 ≡ e.0
    same_row e row same = same_Some x.0 e.0 (sym rows.0 ∙ ap (row_under slots) (sym same) ∙ row)

    no_tie : (e : Entry) → entry_cmp columns x e ≡ Less → row_under slots e.1 ≡ Some e.0 → e.1 ≡ x.1 → ⊥
    no_tie e less row same =
        less_is_not (sym less ∙ ap (λ (r : List Value). entry_cmp columns x (r, e.1)) (sym (same_row e row same)) ∙ tied_itself (entry_cmp_total columns) x)

    others : (ys : List Entry) → AllByRecursion (λ (e : Entry). entry_cmp columns x e ≡ Less) ys → AllByRecursion (IsRowOf slots) ys → AreOthers x.1 ys
    others [] later rows = tt
    others (y ∷ ys) later rows = (ne_eqb y.1 x.1 (no_tie y later.0 rows.0), others ys later.1 rows.1)

-- entries with other slots are passed over
pub behind_passes : (slot : ℕ) (xs : List Entry) (e : Entry) (ys : List Entry) → AreOthers slot xs → e.1 ≡ slot → behind slot (xs ++ e ∷ ys) ≡ foremost ys
behind_passes slot [] e ys others same = cond-true _ (foremost ys) (behind slot ys) (eq-eqb e.1 slot same)
behind_passes slot (x ∷ xs) e ys others same = cond-false _ (foremost (xs ++ e ∷ ys)) (behind slot (xs ++ e ∷ ys)) others.0 ∙ behind_passes slot xs e ys others.1 same

-- the entries before a place have other slots, and those behind it
pub others_front : (xs : List Entry) (k : ℕ) (e : Entry) → HaveOwnSlots xs → slice_get xs k ≡ Some e → AreOthers e.1 (take k xs)
others_front [] zero e own there = tt
others_front [] (suc k) e own there = tt
others_front (x ∷ xs) zero e own there = tt
others_front (x ∷ xs) (suc k) e own there = (turned (all_there xs k own.0 there), others_front xs k e own.1 there)
  where
    all_there : (ys : List Entry) (j : ℕ) → AreOthers x.1 ys → slice_get ys j ≡ Some e → (e.1 == x.1) ≡ false
    all_there [] j others there = absurd (some_is_none e (sym there))
    all_there (y ∷ ys) zero others there = ap (λ (d : Entry). d.1 == x.1) (sym (same_Some y e there)) ∙ others.0
    all_there (y ∷ ys) (suc j) others there = all_there ys j others.1 there

    turned : (e.1 == x.1) ≡ false → (x.1 == e.1) ≡ false
    turned apart = ne_eqb x.1 e.1 (λ same. true≢false (sym (eq-eqb e.1 x.1 (sym same)) ∙ apart))

pub others_rest : (xs : List Entry) (k : ℕ) (e : Entry) → HaveOwnSlots xs → slice_get xs k ≡ Some e → AreOthers e.1 (drop (suc k) xs)
others_rest [] k e own there = absurd (some_is_none e (sym there))
others_rest (x ∷ xs) zero e own there = subst (λ (d : Entry). AreOthers d.1 xs) (same_Some x e there) own.0
others_rest (x ∷ xs) (suc k) e own there = others_rest xs k e own.1 there

split_at : (xs : List Entry) (k : ℕ) (e : Entry) → slice_get xs k ≡ Some e → xs ≡ take k xs ++ e ∷ drop (suc k) xs
split_at xs k e there = sym (take-append-drop k xs) ∙ ap (λ (es : List Entry). take k xs ++ es) (drop_at xs k e there)

foremost_of : (xs : List Entry) (k : ℕ) → foremost (drop k xs) ≡ slice_get xs k
foremost_of [] zero = refl
foremost_of [] (suc k) = refl
foremost_of (x ∷ xs) zero = refl
foremost_of (x ∷ xs) (suc k) = foremost_of xs k

-- the entry behind the one at a place is at the next place
pub behind_at : (xs : List Entry) (k : ℕ) (e : Entry) → HaveOwnSlots xs → slice_get xs k ≡ Some e → behind e.1 xs ≡ slice_get xs (suc k)
behind_at xs k e own there =
    ap (behind e.1) (split_at xs k e there) ∙ behind_passes e.1 (take k xs) e (drop (suc k) xs) (others_front xs k e own there) refl ∙ foremost_of xs (suc k)

reversed_split : (xs : List Entry) (e : Entry) (ys : List Entry) → reverse (xs ++ e ∷ ys) ≡ reverse ys ++ e ∷ reverse xs
reversed_split xs e ys =
    reverse-append xs (e ∷ ys) ∙ ap (λ (es : List Entry). es ++ reverse xs) (reverse-append (e ∷ []) ys) ∙ append_assoc (reverse ys) (e ∷ []) (reverse xs)

foremost_back : (xs : List Entry) (k : ℕ) (e : Entry) → slice_get xs k ≡ Some e → foremost (reverse (take k xs)) ≡ option_and_then (slice_get xs) (one_before k)
foremost_back xs zero e there = refl
foremost_back xs (suc k) e there =
    let within = slice_get_within xs (suc k) e there in
    let here = slice_get-get_or xs k e (omega (arith, within)) in
    ap (λ (es : List Entry). foremost (reverse es)) (take_at xs k (get_or xs k e) here) ∙ ap foremost (reverse-append (take k xs) (get_or xs k e ∷ [])) ∙ sym here

-- the entry in front of the one at a place is at the place before
pub in_front_at : (xs : List Entry) (k : ℕ) (e : Entry) → HaveOwnSlots xs → slice_get xs k ≡ Some e → in_front e.1 xs ≡ option_and_then (slice_get xs) (one_before k)
in_front_at xs k e own there =
    ap (λ (es : List Entry). behind e.1 (reverse es)) (split_at xs k e there)
    ∙ ap (behind e.1) (reversed_split (take k xs) e (drop (suc k) xs))
    ∙ behind_passes e.1 (reverse (drop (suc k) xs)) e (reverse (take k xs)) (all_reversed (λ (d : Entry). (d.1 == e.1) ≡ false) (drop (suc k) xs) (others_rest xs k e own there)) refl
    ∙ foremost_back xs k e there
