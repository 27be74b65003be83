use Rattle.std.proofs.Common.{length}
use Rattle.sql_plan.proofs.comparing.+cmp_with_key.Given as goal

abbrev pub decreases-cmp_with_key : goal.decreases-cmp_with_key
decreases-cmp_with_key l = length l.columns.now
