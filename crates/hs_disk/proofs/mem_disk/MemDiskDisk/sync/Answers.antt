use Rattle.std.proofs.Common.{⊎_elim, subst, sym}
use Rattle.hs_disk.specs.declared.change.Change.TheVariants.{Synced, Lost}
use Rattle.hs_disk.specs.Sound.{images}
use Rattle.hs_disk.proofs.HeldLemmas.{fails_leave, out_leaves}
use Rattle.hs_disk.proofs.mem_disk.MemDiskDisk.sync.Goals as goal

pub returns-then-is_to_fail-clause-crash : goal.returns-then-is_to_fail-clause-crash
returns-then-is_to_fail-clause-crash c =
    λ image now. ⊎_elim (λ stays. stays) (λ stays. stays) (fails_leave Lost c.args.self.now c.fail.new.self c.fail.ensures.new c.fail.ensures.was_sound image now)

pub returns-in-Ok-clause-durable : goal.returns-in-Ok-clause-durable
returns-in-Ok-clause-durable c =
    λ image now. out_leaves Synced c.args.self.now.bytes c.args.self.now c.try_sync.new.self c.in-Ok.ensures.ok c.is_to_fail.ensures.sound image now

pub returns-in-Ok-clause-crash : goal.returns-in-Ok-clause-crash
returns-in-Ok-clause-crash c =
    λ image now. subst (images c.args.self.now) (sym (returns-in-Ok-clause-durable c image now)) c.is_to_fail.ensures.sound.reads
