use Rattle.std.proofs.Common.{refl, inr, length, ap, arith, length-take}
use Rattle.hs_disk.specs.declared.change.Change.TheVariants.{CutTo}
use Rattle.hs_disk.proofs.ImageLemmas.{sound_after}
use Rattle.hs_disk.proofs.mem_disk.MemDisk.try_cut.Goals as goal

pub invariant_of-self-2 : goal.invariant_of-self-2
invariant_of-self-2 c =
    let old = c.self.inside in
    let after = sound_after old.first.items old.changes.items c.push.new.self.items old.bytes.items c.truncate.new.self.items (CutTo c.args.len) c.in_ok-push.ensures.items c.truncate.ensures.items c.self.invariant.replays (old.bytes.items, c.self.invariant.reads, inr refl) c.self.invariant.places tt in
    record {
      replays = after.0;
      reads = after.1;
      places = after.2;
      bounded = omega (arith, ap length c.truncate.ensures.items, length-take c.args.len old.bytes.items, c.self.invariant.bounded);
      counted = c.self.invariant.counted;
    }

pub returns-clause-sound : goal.returns-clause-sound
returns-clause-sound c = invariant_of-self-2 c
