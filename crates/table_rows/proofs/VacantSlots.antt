-- The list of the vacant slots, as slots are filled, vacated and added.
use Rattle.std.proofs.Common.{◌≡◌, ◌⊎◌, ℕ, zero, suc, ◌+◌, ◌<◌, ◌≤◌, cond, List, [], ◌∷◌, ◌++◌, length, set, get_or, remove, Option, Some, None, count_by, nat_eq, sym, refl, ap, ◌∙◌, inl, inr, arith}
use Rattle.std.proofs.lemmas.Bool.{cases_eq, cases_lt, ne_eqb, eq-eqb, cond-true, cond-false}
use Rattle.std.proofs.lemmas.List.{get_or-set_same, get_or-set_other, get_or_append_left, get_or_push, get_or_past, length_push}
use Rattle.std.proofs.lemmas.List.Edits.{length-remove}
use Rattle.std.proofs.lemmas.List.Sums.{sum_by_push, sum_by-remove, sum_by-cons}
use Rattle.std.proofs.lemmas.Option.{get_or_from_slice_get}
use Rattle.row_types.specs.declared.values.Value.{Value}
use Rattle.table_rows.specs.Entries.{Slots, vacancies, row_under, IsFree}
use Rattle.table_rows.specs.StoreInside.{vacancy, times_vacant, AreVacant}
use Rattle.table_rows.proofs.KeptRows.{vacancies_put, vacancies_take, vacancies_replaced, live_within, vacant_within}

-- one where the slots are the same
abbrev pub same_slot : ℕ → ℕ → ℕ
same_slot t s = cond (nat_eq t s) 1 0

same_one : (t s : ℕ) → t ≡ s → same_slot t s ≡ 1
same_one t s same = cond-true _ 1 0 (eq-eqb t s same)

other_none : (t s : ℕ) → (t ≡ s → ⊥) → same_slot t s ≡ 0
other_none t s other = cond-false _ 1 0 (ne_eqb t s other)

count_push : (t s : ℕ) (vs : List ℕ) → count_by (nat_eq t) (vs ++ s ∷ []) ≡ count_by (nat_eq t) vs + same_slot t s
count_push t s vs = sum_by_push (λ (x : ℕ). cond (nat_eq t x) 1 0) vs s

vacancy_none : (slots : Slots) (s : ℕ) → 0 < times_vacant slots s → IsFree slots s
vacancy_none [] s above = absurd (omega arith)
vacancy_none (None ∷ slots) zero above = refl
vacancy_none (Some row ∷ slots) zero above = absurd (omega arith)
vacancy_none (holds ∷ slots) (suc s) above = vacancy_none slots s above

vacant_once : (slots : Slots) (s : ℕ) → IsFree slots s → times_vacant slots s ≡ 1
vacant_once slots s vacant = ap vacancy (get_or_from_slice_get slots s None (Some []) vacant)

filled_at : (slots : Slots) (s : ℕ) (holds : Option (List Value)) → s < length slots → times_vacant (set slots s holds) s ≡ vacancy holds
filled_at slots s holds within = ap vacancy (get_or-set_same slots s holds (Some []) within)

filled_elsewhere : (slots : Slots) (s : ℕ) (holds : Option (List Value)) (t : ℕ) → (t ≡ s → ⊥) → times_vacant (set slots s holds) t ≡ times_vacant slots t
filled_elsewhere slots s holds t other = ap vacancy (get_or-set_other slots s t holds (Some []) other)

-- a list whose slots are those of another and one vacant slot more is right once that slot has a row
pub one_filled : (slots : Slots) (s : ℕ) (row : List Value) (vs ws : List ℕ) → AreVacant slots ws → IsFree slots s → ((t : ℕ) → count_by (nat_eq t) ws ≡ count_by (nat_eq t) vs + same_slot t s) → length ws ≡ length vs + 1 → AreVacant (set slots s (Some row)) vs
one_filled slots s row vs ws are vacant more longer = record { each = each; count = omega (arith, are.count, longer, vacancies_put slots s row vacant) }
  where
    by_case : (t : ℕ) → (t ≡ s) ⊎ (t ≡ s → ⊥) → count_by (nat_eq t) vs ≡ times_vacant (set slots s (Some row)) t
    by_case t (inl same) =
        let here : times_vacant (set slots s (Some row)) t ≡ 0 = ap (times_vacant (set slots s (Some row))) same ∙ filled_at slots s (Some row) (vacant_within slots s vacant) in
        let was : times_vacant slots t ≡ 1 = ap (times_vacant slots) same ∙ vacant_once slots s vacant in
        omega (arith, here, was, are.each t, more t, same_one t s same)
    by_case t (inr other) = omega (arith, filled_elsewhere slots s (Some row) t other, are.each t, more t, other_none t s other)

    each : (t : ℕ) → count_by (nat_eq t) vs ≡ times_vacant (set slots s (Some row)) t
    each t = by_case t (cases_eq t s)

-- the last of the vacant slots is vacant
pub last_vacant : (slots : Slots) (vs : List ℕ) (s : ℕ) → AreVacant slots (vs ++ s ∷ []) → IsFree slots s
last_vacant slots vs s are = vacancy_none slots s (omega (arith, are.each s, count_push s s vs, same_one s s refl))

-- and is given out
pub last_filled : (slots : Slots) (vs : List ℕ) (s : ℕ) (row : List Value) → AreVacant slots (vs ++ s ∷ []) → AreVacant (set slots s (Some row)) vs
last_filled slots vs s row are = one_filled slots s row vs (vs ++ s ∷ []) are (last_vacant slots vs s are) (λ t. count_push t s vs) (length_push vs s)

-- or one at a place
pub place_filled : (slots : Slots) (ws : List ℕ) (k s : ℕ) (row : List Value) → AreVacant slots ws → IsFree slots s → k < length ws → get_or ws k 0 ≡ s → AreVacant (set slots s (Some row)) (remove ws k)
place_filled slots ws k s row are vacant within there =
    one_filled slots s row (remove ws k) ws are vacant
    (λ t. sym (ap (λ (x : ℕ). count_by (nat_eq t) (remove ws k) + same_slot t x) (sym there) ∙ sum_by-remove (λ (x : ℕ). cond (nat_eq t x) 1 0) ws k 0 within))
    (sym (length-remove ws k within))

-- a slot that is vacated comes last
pub one_vacated : (slots : Slots) (s : ℕ) (row : List Value) (vs : List ℕ) → AreVacant slots vs → row_under slots s ≡ Some row → AreVacant (set slots s None) (vs ++ s ∷ [])
one_vacated slots s row vs are live = record { each = each; count = omega (arith, are.count, length_push vs s, vacancies_take slots s row live) }
  where
    live_none : (slots : Slots) (s : ℕ) → row_under slots s ≡ Some row → times_vacant slots s ≡ 0
    live_none [] s live = refl
    live_none (None ∷ slots) zero live = absurd cc
    live_none (Some old ∷ slots) zero live = refl
    live_none (holds ∷ slots) (suc s) live = live_none slots s live

    by_case : (t : ℕ) → (t ≡ s) ⊎ (t ≡ s → ⊥) → count_by (nat_eq t) (vs ++ s ∷ []) ≡ times_vacant (set slots s None) t
    by_case t (inl same) =
        let here : times_vacant (set slots s None) t ≡ 1 = ap (times_vacant (set slots s None)) same ∙ filled_at slots s None (live_within slots s row live) in
        let was : times_vacant slots t ≡ 0 = ap (times_vacant slots) same ∙ live_none slots s live in
        omega (arith, here, was, are.each t, count_push t s vs, same_one t s same)
    by_case t (inr other) = omega (arith, filled_elsewhere slots s None t other, are.each t, count_push t s vs, other_none t s other)

    each : (t : ℕ) → count_by (nat_eq t) (vs ++ s ∷ []) ≡ times_vacant (set slots s None) t
    each t = by_case t (cases_eq t s)

-- another row in a live slot changes nothing
pub one_replaced : (slots : Slots) (s : ℕ) (old row : List Value) (vs : List ℕ) → AreVacant slots vs → row_under slots s ≡ Some old → AreVacant (set slots s (Some row)) vs
one_replaced slots s old row vs are live = record { each = each; count = are.count ∙ sym (vacancies_replaced slots s old row live) }
  where
    same_vacancy : (slots : Slots) (s t : ℕ) → row_under slots s ≡ Some old → times_vacant (set slots s (Some row)) t ≡ times_vacant slots t
    same_vacancy [] s t live = refl
    same_vacancy (None ∷ slots) zero t live = absurd cc
    same_vacancy (Some first ∷ slots) zero zero live = refl
    same_vacancy (Some first ∷ slots) zero (suc t) live = refl
    same_vacancy (holds ∷ slots) (suc s) zero live = refl
    same_vacancy (holds ∷ slots) (suc s) (suc t) live = same_vacancy slots s t live

    each : (t : ℕ) → count_by (nat_eq t) vs ≡ times_vacant (set slots s (Some row)) t
    each t = are.each t ∙ sym (same_vacancy slots s t live)

-- and so does one that is added
pub one_added : (slots : Slots) (vs : List ℕ) → AreVacant slots vs → AreVacant (slots ++ None ∷ []) (vs ++ length slots ∷ [])
one_added slots vs are = record { each = each; count = omega (arith, are.count, length_push vs (length slots), one_more slots) }
  where
    one_more : (slots : Slots) → vacancies (slots ++ None ∷ []) ≡ vacancies slots + 1
    one_more [] = refl
    one_more (None ∷ slots) = omega (arith, one_more slots)
    one_more (Some row ∷ slots) = one_more slots

    past : (t : ℕ) → length slots ≤ t → times_vacant slots t ≡ 0
    past t beyond = ap vacancy (get_or_past slots t (Some []) beyond)

    by_case : (t : ℕ) → (t ≡ length slots) ⊎ (t ≡ length slots → ⊥) → count_by (nat_eq t) (vs ++ length slots ∷ []) ≡ times_vacant (slots ++ None ∷ []) t
    by_case t (inl same) =
        let here : times_vacant (slots ++ None ∷ []) t ≡ 1 = ap vacancy (get_or_push slots None (Some []) t (sym same)) in
        omega (arith, here, past t (omega (arith, same)), are.each t, count_push t (length slots) vs, same_one t (length slots) same)
    by_case t (inr other) = by_side (cases_lt t (length slots))
      where
        by_side : (t < length slots) ⊎ (length slots ≤ t) → count_by (nat_eq t) (vs ++ length slots ∷ []) ≡ times_vacant (slots ++ None ∷ []) t
        by_side (inl below) =
            let here : times_vacant (slots ++ None ∷ []) t ≡ times_vacant slots t = ap vacancy (get_or_append_left slots (None ∷ []) (Some []) t below) in
            omega (arith, here, are.each t, count_push t (length slots) vs, other_none t (length slots) other)
        by_side (inr beyond) =
            let here : times_vacant (slots ++ None ∷ []) t ≡ 0 = ap vacancy (get_or_past (slots ++ None ∷ []) t (Some []) (omega (arith, beyond, other, length_push slots None))) in
            omega (arith, here, past t beyond, are.each t, count_push t (length slots) vs, other_none t (length slots) other)

    each : (t : ℕ) → count_by (nat_eq t) (vs ++ length slots ∷ []) ≡ times_vacant (slots ++ None ∷ []) t
    each t = by_case t (cases_eq t (length slots))

-- a slot that is nowhere is not counted
pub none_counted : (s : ℕ) (vs : List ℕ) → ((k : ℕ) → k < length vs → get_or vs k 0 ≡ s → ⊥) → count_by (nat_eq s) vs ≡ 0
none_counted s [] nowhere = refl
none_counted s (v ∷ vs) nowhere =
    let here = other_none s v (λ same. nowhere 0 (omega arith) (sym same)) in
    omega (arith, sum_by-cons (λ (x : ℕ). cond (nat_eq s x) 1 0) v vs, here, none_counted s vs (λ k within. nowhere (suc k) (omega (arith, within))))

-- so a vacant slot is somewhere
pub vacant_somewhere : (slots : Slots) (vs : List ℕ) (s : ℕ) → AreVacant slots vs → IsFree slots s → ((k : ℕ) → k < length vs → get_or vs k 0 ≡ s → ⊥) → ⊥
vacant_somewhere slots vs s are vacant nowhere =
    let e : 0 ≡ 1 = sym (none_counted s vs nowhere) ∙ are.each s ∙ vacant_once slots s vacant in
    absurd (omega (arith, e))
