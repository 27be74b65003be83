use Rattle.std.proofs.Common.{length}
use Rattle.sql_plan.proofs.comparing.+cmp_all.Given as goal

abbrev pub decreases-cmp_all : goal.decreases-cmp_all
decreases-cmp_all l = length l.columns.now
