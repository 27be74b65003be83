-- Tables one after the other, as a loop writes them.
--     rest_is, rest_length, rest_bytes, rest_held      a table and those that are left
--     rest_none      none is left
--     nothing_counted, first_again      counters that are not written
--     bytes_on      what was written so far
use Rattle.std.proofs.Common.{◌≡◌, ℕ, suc, ◌+◌, ◌<◌, ◌≤◌, eqb, List, [], ◌∷◌, ◌++◌, length, drop, refl, sym, ap, ap₂, subst, ◌∙◌, inl, inr, append_assoc, arith, length-append, length-drop}
use Rattle.std.specs.Prelude.{Option, Some, None}
use Rattle.std.specs.List.{flat_map}
use Rattle.std.proofs.lemmas.Bool.{cases_Bool}
use Rattle.std.proofs.lemmas.List.{drop_more, length-map, nil_from_length}
use Rattle.std.proofs.lemmas.Grind.{flat_map-append}
use Rattle.index_tree.proofs.Elements.{all_append}
use Rattle.row_types.specs.declared.tables.TableDef.{TableDef}
use Rattle.table_rows.specs.Counters.{IsCounter, counter_if, first_counter}
use Rattle.table_rows.specs.Entries.{Entry}
use Rattle.table_rows.specs.Database.{rows_alone}
use Rattle.table_rows.specs.Rows.{Rows, State, no_table, no_rows, def_of, rows_of, entries_of}
use Rattle.table_rows.specs.Valid.{AreValidRows, IsValidState}
use Rattle.table_rows.proofs.States.{zip_long}
use Rattle.change_set.specs.declared.change.Change.{Change}
use Rattle.change_set.specs.declared.change.Change.TheVariants.{Put}
use Rattle.change_set.specs.Fitting.{IsHeldIn, AreValuesHeld}
use Rattle.change_set.specs.Net.{counter_changes}
use Rattle.change_set.specs.Payload.{change_bytes}
use Rattle.check_point.specs.Written.{puts_of, count_of, made_from}

-- the changes of the tables from this one on
abbrev pub rest : State → ℕ → List Change
rest state table = made_from table (drop table state.schema.tables) (drop table state.tables)

counts_held : (table before after : ℕ) → AreValuesHeld (counter_changes table before after)
counts_held table before after =
    elim (cases_Bool (eqb before after)) [
      | inl same ↦ rw same tt
      | inr other ↦ rw other (tt, tt)
    ]

puts_length : (table : ℕ) (entries : List Entry) → length (puts_of table entries) ≡ length entries
puts_length table entries = length-map (rows_alone entries) (Put table) ∙ length-map entries (λ (entry : Entry). entry.0)

next_is : (n : ℕ) → suc n ≡ n + 1
next_is n = omega arith

module _ (state : State) (table : ℕ) (valid : IsValidState state) (within : table < length state.tables) where
  abbrev puts : List Change
  puts = puts_of table (entries_of state table)

  abbrev counts : List Change
  counts = count_of table (def_of state table) (rows_of state table)

  pub rest_is : rest state table ≡ (puts ++ counts) ++ rest state (table + 1)
  rest_is =
      ap₂ (λ (defs : List TableDef) (tables : List Rows). made_from table defs tables)
      (drop_more state.schema.tables table no_table (omega (arith, within, zip_long AreValidRows state.schema.tables state.tables valid.tables)))
      (drop_more state.tables table no_rows within)
      ∙ ap (λ (next : ℕ). (puts ++ counts) ++ made_from next (drop (table + 1) state.schema.tables) (drop (table + 1) state.tables)) (next_is table)

  pub rest_length : length (rest state table) ≡ length (entries_of state table) + length counts + length (rest state (table + 1))
  rest_length =
      omega (arith, ap length rest_is, length-append (puts ++ counts) (rest state (table + 1)), length-append puts counts, puts_length table (entries_of state table))

  pub rest_bytes : flat_map change_bytes (rest state table) ≡ flat_map change_bytes puts ++ (flat_map change_bytes counts ++ flat_map change_bytes (rest state (table + 1)))
  rest_bytes =
      ap (flat_map change_bytes) rest_is ∙ flat_map-append change_bytes (puts ++ counts) (rest state (table + 1))
      ∙ ap (λ (own : List ℕ). own ++ flat_map change_bytes (rest state (table + 1))) (flat_map-append change_bytes puts counts)
      ∙ append_assoc (flat_map change_bytes puts) (flat_map change_bytes counts) (flat_map change_bytes (rest state (table + 1)))

  pub rest_held : AreValuesHeld puts → AreValuesHeld (rest state (table + 1)) → AreValuesHeld (rest state table)
  rest_held own later =
      subst AreValuesHeld (sym rest_is)
      (all_append IsHeldIn (puts ++ counts) (rest state (table + 1))
      (all_append IsHeldIn puts counts own (counts_held table _ _)) later)

made_none : (first : ℕ) (defs : List TableDef) → made_from first defs [] ≡ []
made_none first [] = refl
made_none first (d ∷ ds) = refl

pub rest_none : (state : State) (table : ℕ) → length state.tables ≤ table → rest state table ≡ []
rest_none state table le =
    ap (made_from table (drop table state.schema.tables)) (nil_from_length (drop table state.tables) (omega (arith, length-drop table state.tables)))
    ∙ made_none table (drop table state.schema.tables)

-- a table without a counter
pub nothing_counted : (table : ℕ) (counted : Option ℕ) (counter : ℕ) → counter_if counted counter ≡ None → IsCounter counted counter → counter_changes table (first_counter counted) counter ≡ []
nothing_counted table None counter is zero = rw zero refl
nothing_counted table (Some column) counter is least = absurd cc

-- and one whose counter is the first
pub first_again : (table : ℕ) (counted : Option ℕ) (counter : ℕ) → counter_if counted counter ≡ Some 1 → counter_changes table (first_counter counted) counter ≡ []
first_again table None counter is = absurd cc
first_again table (Some column) counter is = let one : counter ≡ 1 = cc in rw one refl

-- what was written, and what is left, is all
pub bytes_on : (old mid new first second left whole total : List ℕ) → mid ≡ old ++ first → new ≡ mid ++ second → whole ≡ first ++ (second ++ left) → old ++ whole ≡ total → new ++ left ≡ total
bytes_on old mid new first second left whole total one two is so_far =
    ap (λ (bytes : List ℕ). bytes ++ left) (two ∙ ap (λ (bytes : List ℕ). bytes ++ second) one)
    ∙ append_assoc (old ++ first) second left ∙ append_assoc old first (second ++ left)
    ∙ ap (λ (bytes : List ℕ). old ++ bytes) (sym is) ∙ so_far
