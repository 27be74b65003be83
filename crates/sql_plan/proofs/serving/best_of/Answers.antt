use Rattle.sql_plan.specs.Tests.{tests_of}
use Rattle.sql_plan.proofs.Ranked.{best_greater, best_kept, best_there}
use Rattle.std.proofs.Common.{◌∙◌, ap}
use Rattle.sql_plan.specs.Plans.{rank_of}
use Rattle.sql_plan.proofs.serving.best_of.Goals as goal
use Rattle.sql_plan.proofs.serving.best_of.Goals.{then-rank-most, else-rank-most}

pub loop-number-preserved : goal.loop-number-preserved
loop-number-preserved c =
    let tests = tests_of c.args.condition.now in
    let indexes = c.args.indexes.now in
    let n = c.loop-number.number in
    let index = c.index-indexes-number.result in
    let was = c.loop-number.invariant in
    let rank = c.rank_of-rank.ensures ∙ ap (rank_of tests) c.as_slice.ensures in
    elim c.if-rank-most.branch [
      | then-rank-most w ↦
          let more = best_greater tests indexes n index c.loop-number-test.true c.index-indexes-number.is c.loop-number.most c.rank_of-rank.result was.most rank w.if-rank-most.true in
          record { most = w.most-is ∙ more.most_is; best = w.best-is ∙ more.best_is }
      | else-rank-most w ↦
          let kept = best_kept tests indexes n index c.loop-number-test.true c.index-indexes-number.is c.loop-number.most c.rank_of-rank.result c.loop-number.best was.most was.best rank w.if-rank-most.false in
          record { most = w.most-is ∙ kept.most_is; best = w.best-is ∙ kept.best_is }
    ]

pub returns-clause-within : goal.returns-clause-within
returns-clause-within c = best_there (tests_of c.args.condition.now) c.args.indexes.now c.loop-number.number c.loop-number.best c.loop-number-test.false c.loop-number.invariant.best
