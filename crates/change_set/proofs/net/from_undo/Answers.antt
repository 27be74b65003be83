use Rattle.std.proofs.Common.{◌≡◌, ◌++◌, ℕ, List, length, map, is_lt, ap, sym, subst, ◌∙◌}
use Rattle.std.specs.List.{flat_map}
use Rattle.std.specs.List.Sorted.{IsPermutation, IsSortedBy}
use Rattle.row_types.specs.declared.values.Value.{Value}
use Rattle.table_rows.specs.Undoing.{since, undone_all}
use Rattle.change_set.specs.declared.change.Change.{Change}
use Rattle.change_set.specs.declared.touched.OldRow.{OldRow}
use Rattle.change_set.specs.Touched.{old_cmp, old_seen, olds_of, deletion_of, puts_of, counts_of}
use Rattle.change_set.proofs.FromNotes.{olds_within, net_is}
use Rattle.change_set.proofs.NoteSteps.{of_tables}
use Rattle.change_set.proofs.net.from_undo.Goals as goal

pub olds-requires-clause-tables : goal.olds-requires-clause-tables
olds-requires-clause-tables c = of_tables c.args.undo.now.entries c.args.tables.now c.requires

pub push_puts-requires-clause-tables : goal.push_puts-requires-clause-tables
push_puts-requires-clause-tables c = of_tables c.args.undo.now.entries c.args.tables.now c.requires

pub push_counts-requires : goal.push_counts-requires
push_counts-requires c = of_tables c.args.undo.now.entries c.args.tables.now c.requires

pub push_deletions-requires : goal.push_deletions-requires
push_deletions-requires c =
    let moved = subst (λ (olds : List OldRow). IsPermutation (olds_of c.args.tables.now (since 0 c.args.undo.now.entries) c.args.undo.now.entries) (map old_seen olds)) (sym c.as_slice-olds.ensures.value) c.in_ok-rows.ensures.rows in
    olds_within c.args.tables.now c.args.undo.now.entries c.schema-schema.ensures.valid c.requires (map old_seen c.as_slice-olds.result.now) moved

pub push_puts-requires-clause-sorted : goal.push_puts-requires-clause-sorted
push_puts-requires-clause-sorted c = subst (IsSortedBy (λ a b. is_lt (old_cmp (old_seen a) (old_seen b)))) (sym c.as_slice-olds.ensures.value) c.in_ok-rows.ensures.sorted

pub returns : goal.returns
returns c =
    let now = c.args.tables.now in
    let entries = c.args.undo.now.entries in
    let olds : List (ℕ × List Value) = map old_seen c.as_slice-olds.result.now in
    let puts : List Change = puts_of now olds entries in
    let counts : List Change = counts_of (undone_all (since 0 entries) now) now (length now.tables) in
    let gone : List Change = flat_map (deletion_of now) olds in
    let moved = subst (λ (them : List OldRow). IsPermutation (olds_of now (since 0 entries) entries) (map old_seen them)) (sym c.as_slice-olds.ensures.value) c.in_ok-rows.ensures.rows in
    let made : c.push_counts.new.changes.items ≡ (gone ++ puts) ++ counts =
    c.in_ok-push_counts.ensures
    ∙ ap (λ (cs : List Change). cs ++ counts) (c.in_ok-push_puts.ensures ∙ ap (λ (cs : List Change). cs ++ puts) (c.in_ok-push_deletions.ensures ∙ ap (λ (cs : List Change). cs ++ gone) c.new-changes.ensures.items)) in
    c.of_vec.ensures
    ∙ net_is now entries c.schema-schema.ensures.valid c.requires olds moved c.schema-schema.result.now c.push_counts.new.changes.items c.put_in_order.new.changes.items c.schema-schema.ensures.schema made c.in_ok-put_in_order.ensures
