use Rattle.std.proofs.Common.{◌≡◌, ◌++◌, drop}
use Rattle.std.specs.List.{filter}
use Rattle.line_pipeline.specs.Gathered.{is_asking}
use Rattle.line_pipeline.proofs.tables.ConnTable.asking.Given as goal

abbrev pub invariant-loop-id : goal.invariant-loop-id
invariant-loop-id l = l.asking.items ++ filter (is_asking l.self.conns) (drop l.id-index l.ready) ≡ filter (is_asking l.self.conns) l.ready
