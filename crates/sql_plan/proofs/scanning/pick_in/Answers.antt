use Rattle.std.proofs.Common.{ap, ◌∙◌, arith}
use Rattle.table_rows.specs.Rows.{indexes_of, entries_of}
use Rattle.sql_plan.specs.declared.plans.Plan.{Plan}
use Rattle.sql_plan.specs.Ranges.{count_in}
use Rattle.sql_plan.proofs.FoundRows.{whole_count}
use Rattle.sql_plan.proofs.scanning.pick_in.Goals as goal

pub returns-in-Whole-clause-looked : goal.returns-in-Whole-clause-looked
returns-in-Whole-clause-looked c =
    let indexes = indexes_of c.args.looker.now.state c.args.table in
    let entries = entries_of c.args.looker.now.state c.args.table in
    let count = ap (λ (p : Plan). count_in indexes p entries) c.in-Whole.is ∙ whole_count indexes entries in
    omega (arith, c.pick_all.ensures.looked, count)
