use Rattle.std.proofs.Common.{◌≡◌, List, ◌∷◌, [], ◌++◌, ℕ, sym, subst, true}
use Rattle.std.specs.Result.{is_ok}
use Rattle.hs_disk.proofs.ImageLemmas.{sound_after}
use Rattle.hs_disk.proofs.HeldLemmas.{failed_reads}
use Rattle.hs_disk.specs.Held.{Held}
use Rattle.hs_disk.specs.Images.{IsImage, images_after}
use Rattle.hs_disk.specs.Picks.{IsWithin}
use Rattle.hs_disk.proofs.mem_disk.MemDisk.fail.Goals as goal

pub invariant_of-self : goal.invariant_of-self
invariant_of-self c =
    let old = c.self.inside in
    let pushed : is_ok c.push.result ≡ true = c.if-is_err.ensures.negation in
    let more : c.push.new.self.items ≡ old.changes.items ++ c.args.change ∷ [] = rw pushed at c.push.ensures.items in
    let within : IsWithin c.args.change old.bytes.items = subst (λ (d : Held). IsWithin c.args.change d.bytes) (sym c.self.view_is) c.requires.within in
    let reads = failed_reads c.args.change c.requires.failed old.bytes.items (IsImage old.first.items old.changes.items) c.self.invariant.reads in
    let after = sound_after old.first.items old.changes.items c.push.new.self.items old.bytes.items old.bytes.items c.args.change more (sym reads.0) c.self.invariant.replays (subst (λ (l : List ℕ). images_after c.args.change old.bytes.items (IsImage old.first.items old.changes.items) l) (sym reads.0) reads.1) c.self.invariant.places within in
    record {
      replays = after.0;
      reads = after.1;
      places = after.2;
      bounded = c.self.invariant.bounded;
      counted = c.self.invariant.counted;
    }
