use Rattle.std.proofs.Common.{refl}
use Rattle.hs_disk.specs.declared.change.Change.TheVariants.{Synced}
use Rattle.hs_disk.proofs.ImageLemmas.{sound_after}
use Rattle.hs_disk.proofs.mem_disk.MemDisk.try_sync.Goals as goal

pub invariant_of-self-2 : goal.invariant_of-self-2
invariant_of-self-2 c =
    let old = c.self.inside in
    let after = sound_after old.first.items old.changes.items c.push.new.self.items old.bytes.items old.bytes.items Synced c.in_ok-push.ensures.items refl c.self.invariant.replays refl c.self.invariant.places tt in
    record { replays = after.0; reads = after.1; places = after.2; bounded = c.self.invariant.bounded; counted = c.self.invariant.counted }

pub returns-clause-sound : goal.returns-clause-sound
returns-clause-sound c = invariant_of-self-2 c
