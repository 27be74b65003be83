-- The rows of a table in their slots, and in the order of their cells.
use Rattle.std.specs.Prelude.{◌≡◌, ℕ, suc, Bool, List, [], ◌∷◌, map, get_or, Option, Some, None, slice_get, IsSome}
use Rattle.std.specs.declared.cmp.Ordering.{Ordering}
use Rattle.row_types.specs.declared.values.Value.{Value}
use Rattle.row_types.specs.declared.values.Value.TheVariants.{Null}
use Rattle.std.specs.Ordering.{is_eq}
use Rattle.row_types.specs.Order.{key_cmp, prefix_cmp}
use Rattle.index_tree.specs.Ordered.{in_order}

-- What each slot keeps, from slot 0 on. None is a vacant slot.
abbrev pub Slots : Type 0
Slots = List (Option (List Value))

-- A row that is kept, beside its slot.
abbrev pub Entry : Type 0
Entry = List Value × ℕ

-- The rows that are kept, each beside its slot, in the order of the slots, where the first has this number.
abbrev pub kept_from : ℕ → Slots → List Entry
kept_from first [] = []
kept_from first (None ∷ slots) = kept_from (suc first) slots
kept_from first (Some row ∷ slots) = (row, first) ∷ kept_from (suc first) slots

-- The same where the first slot is slot 0.
abbrev pub kept : Slots → List Entry
kept slots = kept_from 0 slots

-- How many slots are vacant.
abbrev pub vacancies : Slots → ℕ
vacancies [] = 0
vacancies (None ∷ slots) = suc (vacancies slots)
vacancies (Some row ∷ slots) = vacancies slots

-- The row in a slot, and None where the slot is vacant or is none of these.
abbrev pub row_under : Slots → ℕ → Option (List Value)
row_under slots slot = get_or slots slot None

-- The slot has a row.
abbrev pub IsTaken : Slots → ℕ → Type 0
IsTaken slots slot = IsSome (row_under slots slot)

-- The slot is one of these, and has no row.
abbrev pub IsFree : Slots → ℕ → Type 0
IsFree slots slot = slice_get slots slot ≡ Some None

-- The value of a row at a column, which is NULL where the row is too short.
abbrev pub cell_at : List Value → ℕ → Value
cell_at row column = get_or row column Null

-- The values of a row at some columns.
abbrev pub cells : List ℕ → List Value → List Value
cells columns row = map (cell_at row) columns

-- Whether a row has these values at the first of some columns.
abbrev pub has_key : List ℕ → List Value → List Value → Bool
has_key columns key row = is_eq (prefix_cmp (cells columns row) key)

-- Entries compare by the cells of their rows at these columns.
abbrev pub entry_cmp : List ℕ → Entry → Entry → Ordering
entry_cmp columns a b = key_cmp (cells columns a.0) (cells columns b.0)

-- All entries in the order of their cells at these columns.
abbrev pub walk : List ℕ → Slots → List Entry
walk columns slots = in_order (entry_cmp columns) (kept slots)
