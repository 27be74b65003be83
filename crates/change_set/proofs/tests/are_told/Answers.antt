use Rattle.std.proofs.Common.{List, [], subst}
use Rattle.table_rows.specs.declared.undo.Undo.{Undo}
use Rattle.table_rows.specs.GoingBack.{CanGoBack}
use Rattle.table_rows.proofs.GoingBack.{goes_then}
use Rattle.change_set.proofs.tests.are_told.Goals as goal

pub from_undo-requires : goal.from_undo-requires
from_undo-requires c =
    let first = subst (λ (us : List Undo). CanGoBack c.args.tables.now c.carry.new.tables us c.carry.new.undo.entries) c.list_new-undo.ensures.entries c.carry.ensures in
    let both = goes_then c.args.tables.now c.carry.new.tables c.carry-2.new.tables [] c.carry.new.undo.entries c.carry-2.new.undo.entries first c.carry-2.ensures in
    both.noted.back.can
