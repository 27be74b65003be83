use Rattle.std.proofs.Common.{◌≤◌, length, take}
use Rattle.hs_disk.specs.HostFile.{Puts}
use Rattle.hs_disk.proofs.file_calls.write_all.Given as goal

abbrev pub invariant-loop : goal.invariant-loop
invariant-loop g l = record {
  within : l.put ≤ length l.bytes;
  puts : Puts l.at (take l.put l.bytes) (g.F.HostFile.holds l.fn.file) (g.F.HostFile.holds l.file);
}
