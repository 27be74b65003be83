use Rattle.std.proofs.Common.{◌≤◌}
use Rattle.hs_disk.proofs.FileLemmas.{ReachesAhead}
use Rattle.hs_disk.proofs.file_calls.write_ahead.Given as goal

abbrev pub invariant-loop : goal.invariant-loop
invariant-loop g l = record {
  from : l.from ≤ l.end;
  ahead : ReachesAhead l.from l.end (g.F.HostFile.holds l.fn.file) (g.F.HostFile.holds l.file);
}
