-- A table's rows in the order of an index.
use Rattle.std.specs.Prelude.{ℕ, Bool, true, false, List, [], ◌∷◌, find, if◌then◌else◌, Option, Some, None}
use Rattle.std.specs.Option.{option_map}
use Rattle.index_tree.specs.Ordered.{in_order}
use Rattle.row_types.specs.declared.values.Value.{Value}
use Rattle.row_types.specs.declared.indexes.IndexDef.{IndexDef}
use Rattle.table_rows.specs.declared.edge.Edge.{Edge}
use Rattle.table_rows.specs.Entries.{Entry, entry_cmp, has_key}
use Rattle.table_rows.specs.StoreWalks.{first_from, last_to, behind, in_front}
use Rattle.table_rows.specs.Walked.{upward, downward}
use Rattle.table_rows.specs.declared.bound.Bound.{Bound}
use Rattle.table_rows.specs.declared.bound.Bound.TheVariants.{From, Behind, To, Before}
use Rattle.table_rows.specs.declared.slot_ref.SlotRef.{SlotRef}
use Rattle.table_rows.specs.Rows.{State, indexes_of, entries_of}
use Rattle.table_rows.specs.Indexes.{primary_of, index_columns}

-- All rows of a table in the order of an index.
abbrev pub walk_of : State → ℕ → ℕ → List Entry
walk_of state table index = in_order (entry_cmp (index_columns (indexes_of state table) index)) (entries_of state table)

-- The slot of an entry, if there is one.
abbrev pub slot_of : Option Entry → Option SlotRef
slot_of entry = option_map (λ (found : Entry). record { 0 = found.1 }) entry

-- The first row with this primary key, or with one that begins so.
abbrev pub keyed : List IndexDef → List Value → List Entry → Option Entry
keyed indexes key entries = find (λ (entry : Entry). has_key (primary_of indexes) key entry.0) entries

-- The first of some entries, if it has the key.
abbrev pub first_keyed : List ℕ → List Value → List Entry → Option Entry
first_keyed columns key [] = None
first_keyed columns key (entry ∷ entries) = if has_key columns key entry.0 then Some entry else None

-- Where a walk begins: at the first entry from an edge on, or, downward, at the last one up to it.
abbrev pub begun : Bool → List ℕ → Edge (List Value) → List Entry → Option Entry
begun false columns edge entries = first_from columns edge entries
begun true columns edge entries = last_to columns edge entries

-- The entries of a walk that begins there.
abbrev pub walked : Bound → List ℕ → List Value → List Entry → List Entry
walked From columns key entries = upward columns key false entries
walked Behind columns key entries = upward columns key true entries
walked To columns key entries = downward columns key true entries
walked Before columns key entries = downward columns key false entries

-- How a walk goes on from a slot: to the entry behind it, or, downward, in front of it.
abbrev pub gone_on : Bool → ℕ → List Entry → Option Entry
gone_on false slot entries = behind slot entries
gone_on true slot entries = in_front slot entries
