-- The list that is made of notes is that of the net changes.
--     olds_within      the rows from before are of tables that there are
--     net_is      the list
use Rattle.std.proofs.Common.{◌≡◌, ℕ, ◌<◌, List, [], ◌∷◌, ◌++◌, length, map, reverse, refl, sym, ap, subst, ◌∙◌}
use Rattle.std.specs.Prelude.{Contains}
use Rattle.std.specs.List.{flat_map, AllByRecursion}
use Rattle.std.specs.List.Sorted.{IsPermutation}
use Rattle.std.proofs.lemmas.List.Sorted.{Contains-permutation, IsPermutation-sym, IsPermutation-reverse}
use Rattle.index_tree.specs.Ordered.{IsAscending, HaveSameMembers}
use Rattle.index_tree.proofs.Elements.{each_member}
use Rattle.index_tree.proofs.Members.{same_members_permuted}
use Rattle.row_types.specs.declared.values.Value.{Value}
use Rattle.row_types.specs.declared.tables.Schema.{Schema}
use Rattle.table_rows.specs.declared.undo.Undo.{Undo}
use Rattle.table_rows.specs.Database.{Holding, holding_in, database_of}
use Rattle.table_rows.specs.Rows.{State}
use Rattle.table_rows.specs.Undoing.{since, undone_all, AreUndoable}
use Rattle.table_rows.specs.Valid.{IsValidState}
use Rattle.change_set.specs.declared.change.Change.{Change}
use Rattle.change_set.specs.Net.{changes, changes_from}
use Rattle.change_set.specs.Sets.{change_cmp}
use Rattle.change_set.specs.Touched.{AreOfTables, AreOlds, IsOrderOf, olds_of, deletion_of, puts_of, counts_of}
use Rattle.change_set.proofs.NetNotes.{noted_members, touched_table}
use Rattle.change_set.proofs.NetOrder.{EachAscends, changes_ascend}
use Rattle.change_set.proofs.Nets.{each_ascends}
use Rattle.change_set.proofs.NoteSteps.{of_tables}
use Rattle.change_set.proofs.OldRows.{old_is, undone_valid, undone_schema}
use Rattle.change_set.proofs.ValidAlone.{database_valid}

module _ (now : State) (entries : List Undo) (valid : IsValidState now) (can : AreUndoable (since 0 entries) now) (olds : List (ℕ × List Value)) (moved : IsPermutation (olds_of now (since 0 entries) entries) olds) where
  abbrev notes : List Undo
  notes = since 0 entries

  abbrev before : State
  before = undone_all notes now

  same : HaveSameMembers entries notes
  same = same_members_permuted entries (reverse entries) (IsPermutation-reverse entries)

  listed : HaveSameMembers (olds_of now notes entries) olds
  listed = same_members_permuted (olds_of now notes entries) olds moved

  pub olds_within : AreOlds now olds
  olds_within =
      each_member (λ (old : ℕ × List Value). old.0 < length now.tables) olds
      (λ old inside. let one = old_is now notes valid can entries same old ((listed old).1 inside) in
      touched_table now notes valid can entries same olds listed (of_tables entries now can) old.0 one.0 one.1)

  ascends : IsAscending (change_cmp now.schema) (changes (database_of before) (database_of now))
  ascends =
      let schema = undone_schema notes now in
      let old = subst (λ (s : Schema). EachAscends s 0 (map holding_in before.tables)) schema (each_ascends (database_of before) (database_valid before (undone_valid notes now valid can))) in
      let new = each_ascends (database_of now) (database_valid now valid) in
      subst (λ (s : Schema). IsAscending (change_cmp now.schema) (changes_from s 0 (map holding_in before.tables) (map holding_in now.tables))) (sym schema)
      (changes_ascend now.schema 0 (map holding_in before.tables) (map holding_in now.tables) old new)

  pub net_is : (schema : Schema) (made ordered : List Change) → schema ≡ now.schema → made ≡ (flat_map (deletion_of now) olds ++ puts_of now olds entries) ++ counts_of before now (length now.tables) → IsOrderOf schema made ordered
      → ordered ≡ changes (database_of before) (database_of now)
  net_is schema made ordered is listed-changes order =
      order (changes (database_of before) (database_of now)) (subst (λ (s : Schema). IsAscending (change_cmp s) (changes (database_of before) (database_of now))) (sym is) ascends)
      (subst (λ (cs : List Change). HaveSameMembers cs (changes (database_of before) (database_of now))) (sym listed-changes)
      (noted_members now notes valid can entries same olds listed (of_tables entries now can)))
