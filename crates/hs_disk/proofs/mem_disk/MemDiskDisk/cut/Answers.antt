use Rattle.std.proofs.Common.{inl, refl, take}
use Rattle.hs_disk.specs.Disk.{Cut}
use Rattle.hs_disk.specs.declared.change.Change.TheVariants.{CutTo, LostCut}
use Rattle.hs_disk.proofs.HeldLemmas.{fails_follow, out_leaves}
use Rattle.hs_disk.proofs.mem_disk.MemDiskDisk.cut.Goals as goal

pub returns-then-is_to_fail-clause-crash : goal.returns-then-is_to_fail-clause-crash
returns-then-is_to_fail-clause-crash c =
    fails_follow (Cut c.args.len) (λ bytes. inl refl) (LostCut c.args.len) c.args.self.now c.fail.new.self (λ image is. is) c.fail.ensures.new c.fail.ensures.was_sound

pub returns-in-Ok-clause-crash : goal.returns-in-Ok-clause-crash
returns-in-Ok-clause-crash c =
    λ image now. out_leaves (CutTo c.args.len) (take c.args.len c.args.self.now.bytes) c.args.self.now c.try_cut.new.self c.in-Ok.ensures.ok c.is_to_fail.ensures.sound image now
