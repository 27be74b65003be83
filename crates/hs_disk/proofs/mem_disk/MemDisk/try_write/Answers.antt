use Rattle.std.proofs.Common.{◌≡◌, List, ℕ, ◌∷◌, [], ◌++◌, ◌≤◌, length, ap, arith, ◌∙◌}
use Rattle.hs_disk.specs.Disk.{written}
use Rattle.hs_disk.specs.declared.change.Change.{Change}
use Rattle.hs_disk.specs.declared.change.Change.TheVariants.{Wrote}
use Rattle.hs_disk.proofs.ImageLemmas.{sound_after, torn_written, length-written}
use Rattle.hs_disk.proofs.mem_disk.MemDisk.try_write.Goals as goal

pub invariant_of-self-2 : goal.invariant_of-self-2
invariant_of-self-2 c =
    let old = c.self.inside in
    let new = c.args.saved in
    let change : Change = Wrote c.args.at new in
    let more : c.push_reserved.new.self.items ≡ old.changes.items ++ change ∷ [] = c.push_reserved.ensures.items ∙ (λ i. c.reserve.ensures.items i ++ Wrote c.args.at new ∷ []) in
    let is : c.overwrite.new.bytes.items ≡ written c.args.at new old.bytes.items = c.in_ok-overwrite.ensures.ok ∙ ap (λ (l : List ℕ). written c.args.at l old.bytes.items) c.as_slice.ensures in
    let within : c.args.at ≤ length old.bytes.items = omega (arith, ap (λ d. length d.bytes) c.self.view_is, c.requires.place) in
    let after = sound_after old.first.items old.changes.items c.push_reserved.new.self.items old.bytes.items c.overwrite.new.bytes.items change more is c.self.invariant.replays (old.bytes.items, c.self.invariant.reads, torn_written c.args.at new old.bytes.items within) c.self.invariant.places within in
    record {
      replays = after.0;
      reads = after.1;
      places = after.2;
      bounded = omega (arith, ap length is, length-written c.args.at new old.bytes.items within, c.self.invariant.bounded, c.requires.bound);
      counted = c.self.invariant.counted;
    }

pub returns-clause-sound : goal.returns-clause-sound
returns-clause-sound c = invariant_of-self-2 c
