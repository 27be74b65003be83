use Rattle.std.proofs.Common.{◌≡◌, List, sym, subst}
use Rattle.row_types.specs.declared.tables.Schema.{Schema}
use Rattle.table_rows.proofs.GoingBack.{goes_none}
use Rattle.change_set.specs.declared.change.Change.{Change}
use Rattle.change_set.specs.Fitting.{AreChanges}
use Rattle.change_set.proofs.tests.carry.Goals as goal

pub returns-in_err-bytes : goal.returns-in_err-bytes
returns-in_err-bytes c = goes_none c.args.tables.now c.args.undo.now.entries

pub returns-then-len-eq4 : goal.returns-then-len-eq4
returns-then-len-eq4 c = goes_none c.args.tables.now c.args.undo.now.entries

pub returns-in-Err : goal.returns-in-Err
returns-in-Err c = goes_none c.args.tables.now c.args.undo.now.entries

pub carry_out-requires : goal.carry_out-requires
carry_out-requires c =
    subst (AreChanges c.args.tables.now.schema) (sym c.as_slice.ensures) (subst (λ (s : Schema). AreChanges s c.in-Ok.set.changes) c.schema.ensures.schema c.in-Ok.ensures.found.0)
