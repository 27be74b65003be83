-- The rows that are kept: each is the row in its slot, and what a change of one slot makes of them.
use Rattle.std.proofs.Common.{◌≡◌, ℕ, zero, suc, ◌+◌, ◌<◌, List, [], ◌∷◌, ◌++◌, length, take, drop, set, replicate, Option, Some, None, sym, refl, ap, subst, ◌∙◌, arith}
use Rattle.std.specs.List.{AllByRecursion}
use Rattle.std.proofs.lemmas.List.{set_split, set-get_or, append-nil, length-take-le}
use Rattle.std.proofs.lemmas.Option.{slice_get_within, get_or_from_slice_get, same_Some}
use Rattle.row_types.specs.declared.values.Value.{Value}
use Rattle.index_tree.proofs.Elements.{all_weaker, some_is_none}
use Rattle.table_rows.specs.Entries.{Slots, Entry, kept_from, kept, vacancies, row_under, IsFree}

-- the row of the entry is the one in its slot
abbrev pub IsRowOf : Slots → Entry → Type 0
IsRowOf slots e = row_under slots e.1 ≡ Some e.0

-- the same where the first of the slots has a number of its own
abbrev IsRowFrom : ℕ → Slots → Entry → Type 0
IsRowFrom first slots e = (k : ℕ) × (e.1 ≡ first + k) × (row_under slots k ≡ Some e.0)

one_more : (first : ℕ) (holds : Option (List Value)) (slots : Slots) (entries : List Entry) → AllByRecursion (IsRowFrom (suc first) slots) entries → AllByRecursion (IsRowFrom first (holds ∷ slots)) entries
one_more first holds slots entries = all_weaker (IsRowFrom (suc first) slots) (IsRowFrom first (holds ∷ slots)) (λ e row. (suc row.0, omega (arith, row.1), row.2)) entries

rows_from : (first : ℕ) (slots : Slots) → AllByRecursion (IsRowFrom first slots) (kept_from first slots)
rows_from first [] = tt
rows_from first (None ∷ slots) = one_more first None slots (kept_from (suc first) slots) (rows_from (suc first) slots)
rows_from first (Some row ∷ slots) = ((0, omega arith, refl), one_more first (Some row) slots (kept_from (suc first) slots) (rows_from (suc first) slots))

-- each entry's row is the one in its slot
pub kept_rows : (slots : Slots) → AllByRecursion (IsRowOf slots) (kept slots)
kept_rows slots = all_weaker (IsRowFrom 0 slots) (IsRowOf slots) (λ e row. let same : row.0 ≡ e.1 = omega (arith, row.1) in subst (λ (k : ℕ). row_under slots k ≡ Some e.0) same row.2) (kept slots) (rows_from 0 slots)

-- slots after slots
pub kept_append : (first : ℕ) (xs ys : Slots) → kept_from first (xs ++ ys) ≡ kept_from first xs ++ kept_from (first + length xs) ys
kept_append first [] ys = ap (λ (n : ℕ). kept_from n ys) {x = first} {y = first + 0} (omega arith)
kept_append first (None ∷ xs) ys = kept_append (suc first) xs ys ∙ ap (λ (n : ℕ). kept_from (suc first) xs ++ kept_from n ys) (omega arith)
kept_append first (Some row ∷ xs) ys = ap (λ (es : List Entry). (row, first) ∷ es) (kept_append (suc first) xs ys ∙ ap (λ (n : ℕ). kept_from (suc first) xs ++ kept_from n ys) (omega arith))

kept_none : (first n : ℕ) → kept_from first (replicate n None) ≡ []
kept_none first zero = refl
kept_none first (suc n) = kept_none (suc first) n

-- vacant slots more keep no row
pub kept_with_vacant : (slots : Slots) (n : ℕ) → kept (slots ++ replicate n None) ≡ kept slots
kept_with_vacant slots n = kept_append 0 slots (replicate n None) ∙ ap (λ (es : List Entry). kept slots ++ es) (kept_none (0 + length slots) n) ∙ append-nil (kept slots)

module _ (slots : Slots) (slot : ℕ) where
  -- the entries before a slot, and those behind it
  abbrev pub before : List Entry
  before = kept (take slot slots)

  abbrev pub after : List Entry
  after = kept_from (suc slot) (drop (suc slot) slots)

  at_slot : (holds : Option (List Value)) → slot < length slots → kept (set slots slot holds) ≡ before ++ kept_from slot (holds ∷ drop (suc slot) slots)
  at_slot holds within =
      ap kept (set_split slots slot holds within) ∙ kept_append 0 (take slot slots) (holds ∷ drop (suc slot) slots)
      ∙ ap (λ (n : ℕ). before ++ kept_from n (holds ∷ drop (suc slot) slots)) (omega (arith, length-take-le slot slots (omega (arith, within))))

  pub kept_put : (row : List Value) → slot < length slots → kept (set slots slot (Some row)) ≡ before ++ (row, slot) ∷ after
  kept_put row within = at_slot (Some row) within

  pub kept_take : slot < length slots → kept (set slots slot None) ≡ before ++ after
  kept_take within = at_slot None within

live_within_of : (slots : Slots) (slot : ℕ) (row : List Value) → row_under slots slot ≡ Some row → slot < length slots
live_within_of [] slot row live = absurd (some_is_none row (sym live))
live_within_of (holds ∷ slots) zero row live = omega arith
live_within_of (holds ∷ slots) (suc slot) row live = omega (arith, live_within_of slots slot row live)

-- a live slot is one of the slots, and holds what it holds
pub live_within : (slots : Slots) (slot : ℕ) (row : List Value) → row_under slots slot ≡ Some row → slot < length slots
live_within = live_within_of

pub live_itself : (slots : Slots) (slot : ℕ) (row : List Value) → row_under slots slot ≡ Some row → set slots slot (Some row) ≡ slots
live_itself slots slot row live = ap (set slots slot) (sym live) ∙ set-get_or slots slot None

pub vacant_within : (slots : Slots) (slot : ℕ) → IsFree slots slot → slot < length slots
vacant_within slots slot vacant = slice_get_within slots slot None vacant

pub vacant_itself : (slots : Slots) (slot : ℕ) → IsFree slots slot → set slots slot None ≡ slots
vacant_itself slots slot vacant = ap (set slots slot) (sym (get_or_from_slice_get slots slot None None vacant)) ∙ set-get_or slots slot None

-- the entries around a live slot
pub kept_live : (slots : Slots) (slot : ℕ) (row : List Value) → row_under slots slot ≡ Some row → kept slots ≡ before slots slot ++ (row, slot) ∷ after slots slot
kept_live slots slot row live = ap kept (sym (live_itself slots slot row live)) ∙ kept_put slots slot row (live_within slots slot row live)

-- how many rows there are beside the vacant slots
pub count_from : (first : ℕ) (slots : Slots) → length (kept_from first slots) + vacancies slots ≡ length slots
count_from first [] = refl
count_from first (None ∷ slots) = omega (arith, count_from (suc first) slots)
count_from first (Some row ∷ slots) = omega (arith, count_from (suc first) slots)

pub count_kept : (slots : Slots) → length (kept slots) + vacancies slots ≡ length slots
count_kept slots = count_from 0 slots

pub vacancies_put : (slots : Slots) (slot : ℕ) (row : List Value) → IsFree slots slot → vacancies (set slots slot (Some row)) + 1 ≡ vacancies slots
vacancies_put [] slot row vacant = absurd (some_is_none None (sym vacant))
vacancies_put (None ∷ slots) zero row vacant = omega arith
vacancies_put (Some old ∷ slots) zero row vacant = absurd (some_is_none old (same_Some (Some old) None vacant))
vacancies_put (None ∷ slots) (suc slot) row vacant = omega (arith, vacancies_put slots slot row vacant)
vacancies_put (Some old ∷ slots) (suc slot) row vacant = vacancies_put slots slot row vacant

pub vacancies_take : (slots : Slots) (slot : ℕ) (row : List Value) → row_under slots slot ≡ Some row → vacancies (set slots slot None) ≡ vacancies slots + 1
vacancies_take [] slot row live = absurd (some_is_none row (sym live))
vacancies_take (None ∷ slots) zero row live = absurd (some_is_none row (sym live))
vacancies_take (Some old ∷ slots) zero row live = omega arith
vacancies_take (None ∷ slots) (suc slot) row live = omega (arith, vacancies_take slots slot row live)
vacancies_take (Some old ∷ slots) (suc slot) row live = vacancies_take slots slot row live

pub vacancies_replaced : (slots : Slots) (slot : ℕ) (old row : List Value) → row_under slots slot ≡ Some old → vacancies (set slots slot (Some row)) ≡ vacancies slots
vacancies_replaced [] slot old row live = refl
vacancies_replaced (None ∷ slots) zero old row live = absurd (some_is_none old (sym live))
vacancies_replaced (Some first ∷ slots) zero old row live = refl
vacancies_replaced (None ∷ slots) (suc slot) old row live = ap suc (vacancies_replaced slots slot old row live)
vacancies_replaced (Some first ∷ slots) (suc slot) old row live = vacancies_replaced slots slot old row live

pub vacancies_more : (slots : Slots) (n : ℕ) → vacancies (slots ++ replicate n None) ≡ vacancies slots + n
vacancies_more [] zero = refl
vacancies_more [] (suc n) = omega (arith, vacancies_more [] n)
vacancies_more (None ∷ slots) n = omega (arith, vacancies_more slots n)
vacancies_more (Some row ∷ slots) n = vacancies_more slots n
