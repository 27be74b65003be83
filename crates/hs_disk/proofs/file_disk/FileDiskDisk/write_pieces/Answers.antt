use Rattle.std.proofs.Common.{ℕ, subst}
use Rattle.fault_count.specs.Cause.{HasCause}
use Rattle.hs_disk.proofs.file_disk.FileDiskDisk.write_pieces.Goals as goal

pub returns-clause-cause : goal.returns-clause-cause
returns-clause-cause g c =
    subst (λ (n : ℕ). HasCause n c.counted.new.self.faults c.counted.result) c.put_pieces-answer.ensures.faults c.counted.ensures.cause
