use Rattle.std.proofs.Common.{◌≡◌, ◌+◌, ◌≤◌, length, take}
use Rattle.table_rows.specs.Undoing.{since, AreUndoable, undone_all}
use Rattle.table_rows.proofs.tables.Tables.undo_to.Given as goal

abbrev pub invariant-loop-undo : goal.invariant-loop-undo
invariant-loop-undo l =
    (l.mark ≤ length l.undo.entries) × AreUndoable (since l.mark l.undo.entries) l.self × (undone_all (since l.mark l.undo.entries) l.self ≡ undone_all (since l.mark l.fn.undo.entries) l.fn.self)
    × (take l.mark l.undo.entries ≡ take l.mark l.fn.undo.entries) × (l.undo.spare + length l.undo.entries ≡ l.fn.undo.spare + length l.fn.undo.entries)

abbrev pub decreases-loop-undo : goal.decreases-loop-undo
decreases-loop-undo l = length l.undo.entries
