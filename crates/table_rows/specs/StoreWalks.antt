-- Where a walk begins and how it goes on, forward or backward, and what a new row must not meet.
use Rattle.std.specs.Prelude.{◌≡◌, ℕ, ◌==◌, Bool, true, false, not, cond, List, [], ◌∷◌, reverse, find, Option, Some, None}
use Rattle.std.specs.List.{AllByRecursion}
use Rattle.std.specs.Option.{option_map}
use Rattle.std.specs.Ordering.{is_lt, is_eq, is_gt}
use Rattle.row_types.specs.declared.values.Value.{Value}
use Rattle.row_types.specs.Order.{key_cmp, prefix_cmp}
use Rattle.index_tree.specs.Ordered.{AreApart}
use Rattle.table_rows.specs.declared.edge.Edge.{Edge}
use Rattle.table_rows.specs.declared.edge.Edge.TheVariants.{Open, With, Without}
use Rattle.table_rows.specs.Entries.{Slots, Entry, kept, cells, entry_cmp}

-- Whether an entry stands at or after a low edge. A key of fewer cells than there are columns compares by as many as it has.
abbrev pub is_from : List ℕ → Edge (List Value) → Entry → Bool
is_from columns Open entry = true
is_from columns (With key) entry = not (is_lt (prefix_cmp (cells columns entry.0) key))
is_from columns (Without key) entry = is_gt (prefix_cmp (cells columns entry.0) key)

-- Whether an entry stands at or before a high edge.
abbrev pub is_to : List ℕ → Edge (List Value) → Entry → Bool
is_to columns Open entry = true
is_to columns (With key) entry = not (is_gt (prefix_cmp (cells columns entry.0) key))
is_to columns (Without key) entry = is_lt (prefix_cmp (cells columns entry.0) key)

-- The first entry at or after a low edge.
abbrev pub first_from : List ℕ → Edge (List Value) → List Entry → Option Entry
first_from columns edge entries = find (is_from columns edge) entries

-- The last entry at or before a high edge, which is the first one from the other end.
abbrev pub last_to : List ℕ → Edge (List Value) → List Entry → Option Entry
last_to columns edge entries = find (is_to columns edge) (reverse entries)

-- Whether an entry has the cells of the row at these columns.
abbrev pub is_like : List ℕ → List Value → Entry → Bool
is_like columns row entry = is_eq (key_cmp (cells columns entry.0) (cells columns row))

-- The first entry with the cells of the row.
abbrev pub first_like : List ℕ → List Value → List Entry → Option Entry
first_like columns row entries = find (is_like columns row) entries

-- The first of some entries.
abbrev pub foremost : List Entry → Option Entry
foremost [] = None
foremost (entry ∷ entries) = Some entry

-- The entry right behind the one with this slot.
abbrev pub behind : ℕ → List Entry → Option Entry
behind slot [] = None
behind slot (entry ∷ entries) = cond (entry.1 == slot) (foremost entries) (behind slot entries)

-- The entry right in front of the one with this slot, which is behind it seen from the other end.
abbrev pub in_front : ℕ → List Entry → Option Entry
in_front slot entries = behind slot (reverse entries)

-- The slot of an entry, if there is one.
abbrev pub slot_in : Option Entry → Option ℕ
slot_in entry = option_map (λ (found : Entry). found.1) entry

-- No entry has the cells of the row at the key's columns.
abbrev pub IsNew : List ℕ → List Value → List Entry → Type 0
IsNew key row entries = AllByRecursion (λ entry. is_like key row entry ≡ false) entries

-- Any two rows that are kept differ in their cells at the key's columns.
abbrev pub IsKeyed : List ℕ → Slots → Type 0
IsKeyed key slots = AreApart (entry_cmp key) (kept slots)
