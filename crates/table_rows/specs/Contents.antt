-- What a store holds, as its callers see it.
use Rattle.std.specs.Prelude.{ℕ, List, [], ◌++◌, get_or, set, Option}
use Rattle.row_types.specs.declared.values.Value.{Value}
use Rattle.table_rows.specs.Entries.{Slots, Entry, walk}

-- The columns of the primary key, those of each index, and what each slot keeps.
pub record Contents : Type 0 where
  pub key : List ℕ
  pub orders : List (List ℕ)
  pub slots : Slots

-- The columns of an index.
abbrev pub order_of : Contents → ℕ → List ℕ
order_of store index = get_or store.orders index []

-- The columns that its walk goes by: those of the index, then those of the primary key.
abbrev pub walk_columns : Contents → ℕ → List ℕ
walk_columns store index = order_of store index ++ store.key

-- All entries in the order of an index.
abbrev pub store_walk : Contents → ℕ → List Entry
store_walk store index = walk (walk_columns store index) store.slots

-- The same store with this in a slot.
abbrev pub with_slot : Contents → ℕ → Option (List Value) → Contents
with_slot store slot holds = record store { slots = set store.slots slot holds }
