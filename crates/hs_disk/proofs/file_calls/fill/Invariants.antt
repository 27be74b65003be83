use Rattle.std.proofs.Common.{◌≡◌, ◌≤◌, length}
use Rattle.hs_disk.proofs.FileLemmas.{ReadSoFar}
use Rattle.hs_disk.proofs.file_calls.fill.Given as goal

abbrev pub invariant-loop : goal.invariant-loop
invariant-loop g l = record {
  within : l.got ≤ length l.buf;
  kept : g.F.HostFile.holds l.file ≡ g.F.HostFile.holds l.fn.file;
  len : length l.buf ≡ length l.fn.buf;
  read : ReadSoFar l.at l.got (g.F.HostFile.holds l.fn.file) l.buf;
}
