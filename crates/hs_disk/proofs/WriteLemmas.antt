-- What a write leaves of a disk in memory.
use Rattle.std.proofs.Common.{◌≡◌, ℕ, Bool, true, false, ◌||◌, List, length, refl, sym, subst, arith, Ok, Err}
use Rattle.std.specs.Prelude.{IsTrue, if◌then◌else◌}
use Rattle.std.proofs.lemmas.Bool.{false≢true}
use Rattle.std.proofs.lemmas.Bool.Decides.{nat_tests}
use Rattle.hs_disk.specs.Disk.{written, Torn}
use Rattle.hs_disk.specs.Held.{Held, FailsWith, carried_out, is_to_fail, lost_write}
use Rattle.hs_disk.specs.Images.{images_after}
use Rattle.hs_disk.specs.Length.{past_end}
use Rattle.hs_disk.specs.Sound.{IsSound, images}
use Rattle.hs_disk.specs.Writes.{Writes}
use Rattle.hs_disk.specs.declared.change.Change.TheVariants.{Wrote, LostWrite, Lost}
use Rattle.hs_disk.proofs.HeldLemmas.{fails_follow, fails_elapse, out_leaves, out_elapses}
use Rattle.hs_disk.proofs.ImageLemmas.{torn_same}

-- each image after a lost write is an earlier one, torn
lost_into : (at n : ℕ) (seen : List ℕ) (before : List ℕ → Type 0) (image : List ℕ) → images_after (lost_write at n) seen before image → (earlier : List ℕ) × before earlier × Torn at n earlier image
lost_into at n seen before image =
    elim (past_end at n) as (λ b. images_after (if b then Lost else LostWrite at n) seen before image → (earlier : List ℕ) × before earlier × Torn at n earlier image) [
      | true ↦ λ is. (image, is, torn_same at n image)
      | false ↦ λ is. is
    ]

pub failed_writes : {T E : Type 0} (at : ℕ) (bytes : List ℕ) (old new : Held) (e : E) → FailsWith (lost_write at (length bytes)) old new → IsSound old → IsSound new → IsTrue (past_end at (length bytes) || is_to_fail old || new.short) → Writes {T = T} {E = E} at bytes old new (Err e)
failed_writes at bytes old new e fails was_sound sound cause = record {
  ok = tt;
  err = fails;
  fails = (λ is. cause, λ is. refl);
  room = tt;
  crash = fails_follow (Torn at (length bytes)) (torn_same at (length bytes)) (lost_write at (length bytes)) old new (lost_into at (length bytes) old.bytes (images old)) fails was_sound;
  time = fails_elapse (lost_write at (length bytes)) old new fails;
  was_sound = was_sound;
  sound = sound;
}

none_fails : (past short named : Bool) → past ≡ false → (short || named) ≡ false → IsTrue (past || (short || named) || short) → IsTrue false
none_fails true short named within unnamed is = sym within
none_fails false true named within unnamed is = sym unnamed
none_fails false false true within unnamed is = sym unnamed
none_fails false false false within unnamed is = is

pub done_writes : {T E : Type 0} (at : ℕ) (bytes : List ℕ) (old new : Held) (x : T) → new ≡ carried_out old (Wrote at bytes) (written at bytes old.bytes) → IsSound old → IsSound new → past_end at (length bytes) ≡ false → is_to_fail old ≡ false → Writes {T = T} {E = E} at bytes old new (Ok x)
done_writes at bytes old new x is was_sound sound within unnamed = record {
  ok = is;
  err = tt;
  fails = (λ never. absurd (false≢true never), λ cause. none_fails (past_end at (length bytes)) old.short _ within unnamed (subst (λ (d : Held). IsTrue (past_end at (length bytes) || is_to_fail old || d.short)) is cause));
  room = grind (arith, nat_tests);
  crash = out_leaves (Wrote at bytes) (written at bytes old.bytes) old new is was_sound;
  time = out_elapses (Wrote at bytes) (written at bytes old.bytes) old new is;
  was_sound = was_sound;
  sound = sound;
}
