use Rattle.std.proofs.Common.{Some, subst}
use Rattle.row_types.specs.declared.tables.TableDef.{TableDef}
use Rattle.table_rows.specs.Rows.{entries_of}
use Rattle.sql_plan.specs.Ranges.{Serves}
use Rattle.sql_plan.proofs.tests.count_planned.Goals as goal

pub count-requires-clause-serves : goal.count-requires-clause-serves
count-requires-clause-serves c =
    let entries = entries_of c.args.tables.now 0 in
    subst (λ (t : TableDef). Serves (Some c.args.condition.now) t.indexes entries c.in_ok-plan.plan) c.def.ensures.def (c.in_ok-plan.ensures.serves entries)
