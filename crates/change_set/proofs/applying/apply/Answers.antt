use Rattle.std.proofs.Common.{◌≡◌, List, [], Ok, ap, subst, ◌∙◌}
use Rattle.table_rows.specs.declared.undo.Undo.{Undo}
use Rattle.table_rows.specs.Database.{database_of}
use Rattle.table_rows.specs.GoingBack.{CanGoBack}
use Rattle.table_rows.proofs.GoingBack.{taken_back}
use Rattle.change_set.specs.declared.change.Change.{Change}
use Rattle.change_set.specs.Putting.{Applies}
use Rattle.change_set.proofs.applying.apply.Goals as goal

pub returns-in-Err-clause-err : goal.returns-in-Err-clause-err
returns-in-Err-clause-err c =
    let back = subst (λ (us : List Undo). CanGoBack c.args.tables.now c.carry_out.new.tables us c.carry_out.new.undo.entries) c.list_new-undo.ensures.entries c.carry_out.ensures.back in
    taken_back c.args.tables.now c.carry_out.new.tables c.take_back.new.tables [] c.carry_out.new.undo.entries back c.take_back.ensures

pub returns-clause-refused : goal.returns-clause-refused
returns-clause-refused c =
    let back = subst (λ (us : List Undo). CanGoBack c.args.tables.now c.carry_out.new.tables us c.carry_out.new.undo.entries) c.list_new-undo.ensures.entries c.carry_out.ensures.back in
    let never = subst (λ (changes : List Change). Applies (database_of c.args.tables.now) changes → ⊥) c.as_slice.ensures (c.carry_out.ensures.refused (c.in-Ok.is ∙ ap Ok c.if-applies.false)) in
    λ refused. (never, taken_back c.args.tables.now c.carry_out.new.tables c.take_back-2.new.tables [] c.carry_out.new.undo.entries back c.take_back-2.ensures)
