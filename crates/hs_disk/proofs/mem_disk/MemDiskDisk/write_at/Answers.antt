use Rattle.std.proofs.Common.{List, ℕ, subst}
use Rattle.std.proofs.lemmas.List.{append-nil}
use Rattle.hs_disk.specs.Writes.{Writes}
use Rattle.hs_disk.proofs.mem_disk.MemDiskDisk.write_at.Goals as goal

pub returns-clause-writes : goal.returns-clause-writes
returns-clause-writes c =
    subst (λ (bytes : List ℕ). Writes c.args.at bytes c.args.self.now c.write_pieces.new.self c.write_pieces.result) (append-nil c.args.bytes.now) c.write_pieces.ensures.writes
