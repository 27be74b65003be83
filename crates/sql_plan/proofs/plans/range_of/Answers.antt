use Rattle.std.proofs.Common.{◌≡◌, List, [], ◌∷◌, option_copied, sym, ap, subst, ◌∙◌}
use Rattle.std.specs.Prelude.{IfOk}
use Rattle.std.specs.List.{AllByRecursion}
use Rattle.row_types.specs.declared.indexes.IndexDef.{IndexDef}
use Rattle.sql_plan.specs.declared.plans.Plan.{Plan}
use Rattle.sql_plan.specs.Plans.{plan_of}
use Rattle.sql_plan.specs.Ranges.{MayServe, Serves}
use Rattle.sql_plan.proofs.Covered.{both_ok, plan_serves}
use Rattle.sql_plan.proofs.plans.range_of.Goals as goal

pub returns-clause-serves : goal.returns-clause-serves
returns-clause-serves c =
    let condition = option_copied c.args.condition in
    both_ok c.plan_for.result (λ plan is may entries.
    let made : plan ≡ plan_of condition c.args.table.now.indexes = is ∙ ap (plan_of condition) c.as_slice.ensures in
    plan_serves condition c.args.table.now.indexes plan made (subst (λ (is : List IndexDef). MayServe condition is plan) c.as_slice.ensures may) entries) c.plan_for.ensures.plan c.plan_for.ensures.lookup
