use Rattle.std.proofs.Common.{◌≡◌, ◌++◌, ℕ, List, map, ap, ◌∙◌}
use Rattle.std.specs.Prelude.{Option}
use Rattle.std.specs.BTreeMap.{get}
use Rattle.table_rows.specs.declared.undo.Undo.{Undo}
use Rattle.table_rows.specs.Undoing.{since}
use Rattle.change_set.specs.Touched.{slot_of, slot_cmp, old_seen, old_told, old_at}
use Rattle.change_set.proofs.Loops.{noted_step}
use Rattle.change_set.proofs.SlotNotes.{slot_within, told_is}
use Rattle.change_set.proofs.touched.push_olds.Goals as goal

pub push_old-requires : goal.push_old-requires
push_old-requires c = slot_within c.args.tables.now c.args.undo.now.entries c.requires.tables c.loop-at.at c.entry.result.now c.entry.ensures c.slot_of.result c.slot_of.ensures

pub loop-at-preserved : goal.loop-at-preserved
loop-at-preserved c =
    let now = c.args.tables.now in
    let notes = since 0 c.args.undo.now.entries in
    let known = get slot_cmp c.args.befores.now in
    let front = map old_seen c.loop-at.olds.items in
    noted_step (λ (undo : Undo). old_at now notes (slot_of undo)) (map old_seen c.args.olds.now.items) c.args.undo.now.entries c.loop-at.at c.entry.result.now front (map old_seen c.push_old.new.olds.items) c.entry.ensures c.loop-at.invariant
    (c.in_ok-push_old.ensures ∙ ap (λ (o : Option (ℕ × ℕ)). front ++ old_told now known o) c.slot_of.ensures ∙ ap (λ zs. front ++ zs) (told_is now notes known c.requires.befores (slot_of c.entry.result.now)))
