use Rattle.std.proofs.Common.{[], option_copied, ap, ◌∙◌}
use Rattle.std.proofs.lemmas.Result.{IfOk-weaker}
use Rattle.sql_plan.specs.Ranges.{met_by}
use Rattle.sql_plan.proofs.FoundRows.{to_open}
use Rattle.sql_plan.proofs.scanning.pick_all.Goals as goal

pub returns-clause-picked : goal.returns-clause-picked
returns-clause-picked c =
    IfOk-weaker c.pick.result _ _ (λ picked is. is ∙ ap (met_by (option_copied c.args.condition)) (to_open [] c.rows-walk.result ∙ c.rows-walk.ensures.rows)) c.pick.ensures.picked
