use Rattle.std.proofs.Common.{option_copied}
use Rattle.sql_plan.proofs.FoundRows.{overflow_said}
use Rattle.sql_plan.proofs.ranges.overflows.Goals as goal

pub returns : goal.returns
returns c = overflow_said (option_copied c.args.condition) c.requires c.new.result c.in_ok-met.met (λ slot. c.in_ok-met.ensures slot) c.is_none.result c.is_none.ensures
