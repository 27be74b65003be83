use Rattle.std.proofs.Common.{◌≡◌, ◌++◌, ℕ, List, map, ap, ◌∙◌}
use Rattle.std.specs.Prelude.{Option}
use Rattle.table_rows.specs.declared.undo.Undo.{Undo}
use Rattle.change_set.specs.Touched.{slot_of, old_seen, put_if}
use Rattle.change_set.proofs.Loops.{noted_step}
use Rattle.change_set.proofs.SlotNotes.{slot_within}
use Rattle.change_set.proofs.net.push_puts.Goals as goal

pub push_put-requires-clause-table : goal.push_put-requires-clause-table
push_put-requires-clause-table c = slot_within c.args.tables.now c.args.undo.now.entries c.requires.tables c.loop-at.at c.entry.result.now c.entry.ensures c.slot_of.result c.slot_of.ensures

pub loop-at-preserved : goal.loop-at-preserved
loop-at-preserved c =
    let olds = map old_seen c.args.olds.now in
    noted_step (λ (undo : Undo). put_if c.args.tables.now olds (slot_of undo)) c.args.changes.now.items c.args.undo.now.entries c.loop-at.at c.entry.result.now c.loop-at.changes.items c.push_put.new.changes.items c.entry.ensures c.loop-at.invariant
    (c.in_ok-push_put.ensures ∙ ap (λ (o : Option (ℕ × ℕ)). c.loop-at.changes.items ++ put_if c.args.tables.now olds o) c.slot_of.ensures)
