use Rattle.std.proofs.Common.{◌≡◌, take, max, fold}
use Rattle.table_rows.specs.Indexes.{parts_of}
use Rattle.sql_plan.specs.Tests.{tests_of}
use Rattle.sql_plan.specs.Plans.{ranks_of, best_of}
use Rattle.sql_plan.proofs.serving.best_of.Given as goal

-- the best of the indexes so far, and how far it is served
abbrev pub invariant-loop-number : goal.invariant-loop-number
invariant-loop-number l = record {
  most : l.most ≡ fold max 0 (ranks_of (tests_of l.condition) (parts_of (take l.number l.indexes)));
  best : l.best ≡ best_of (tests_of l.condition) (parts_of (take l.number l.indexes));
}
