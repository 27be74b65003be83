use Rattle.std.proofs.Common.{◌≡◌, take}
use Rattle.hs_disk.specs.Images.{read_at_end}
use Rattle.hs_disk.specs.Picks.{picked}
use Rattle.hs_disk.proofs.mem_disk.MemDisk.image.Given as goal

abbrev pub invariant-loop-change : goal.invariant-loop-change
invariant-loop-change l = record {
  seen : l.seen.items ≡ read_at_end l.self.first (take l.change-index (take l.count l.self.changes));
  left : l.left.items ≡ picked l.pick l.self.first (take l.change-index (take l.count l.self.changes));
}
