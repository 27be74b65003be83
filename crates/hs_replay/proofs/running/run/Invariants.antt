use Rattle.hs_replay.proofs.Runs.{Partway}
use Rattle.hs_replay.proofs.running.run.Given as goal

abbrev pub invariant-loop-count : goal.invariant-loop-count
invariant-loop-count g l = Partway (g.S.Source.giver l.fn.script) (g.S.Source.giver l.script) (g.K.Sink.taker l.fn.out) (g.K.Sink.taker l.out) l.runner l.left

abbrev pub decreases-loop-count : goal.decreases-loop-count
decreases-loop-count g l = l.left
