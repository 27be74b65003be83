-- What one changing call leaves of a disk in memory.
use Rattle.std.proofs.Common.{◌≡◌, ◌⊎◌, inl, inr, ℕ, ◌<◌, ◌^◌, List, [], ◌∷◌, ◌++◌, length, refl, sym, subst, arith, Err}
use Rattle.fault_count.specs.Cause.{HasCause}
use Rattle.hs_disk.specs.Disk.{Follows, Elapses}
use Rattle.hs_disk.specs.Held.{Held, FailsWith, IsFailed, carried_out, next_count}
use Rattle.hs_disk.specs.Images.{images_after, WasImageAt, read_after}
use Rattle.hs_disk.specs.Sound.{IsSound, images}
use Rattle.hs_disk.specs.declared.change.Change.{Change}
use Rattle.hs_disk.specs.declared.change.Change.TheVariants.{Wrote, LostWrite, CutTo, LostCut, Synced, Lost}
use Rattle.hs_disk.proofs.ImageLemmas.{leaves_after, elapses_push, elapses_same, torn_same}

abbrev pub HeldElapses : Held → Held → Type 0
HeldElapses old new = Elapses (length old.changes) (length new.changes) (WasImageAt old.first old.changes) (WasImageAt new.first new.changes) (images new)

-- a call that was carried out
pub out_leaves : (change : Change) (bytes : List ℕ) (old new : Held) → new ≡ carried_out old change bytes → IsSound old → (image : List ℕ) → images new image → images_after change old.bytes (images old) image
out_leaves change bytes old new is sound image now =
    leaves_after old.first old.changes (old.changes ++ change ∷ []) old.bytes change refl sound.replays image (subst (λ (d : Held). images d image) is now)

pub out_elapses : (change : Change) (bytes : List ℕ) (old new : Held) → new ≡ carried_out old change bytes → HeldElapses old new
out_elapses change bytes old new is = subst (λ (d : Held). HeldElapses old d) (sym is) (elapses_push old.first old.changes change)

-- a call that failed
pub fails_leave : (change : Change) (old new : Held) → FailsWith change old new → IsSound old → (image : List ℕ) → images new image → images old image ⊎ images_after change old.bytes (images old) image
fails_leave change old new (inl done) sound image now =
    inr (leaves_after old.first old.changes (old.changes ++ change ∷ []) old.bytes change refl sound.replays image (subst (λ (d : Held). images d image) done.1 now))
fails_leave change old new (inr short) sound image now = inl (subst (λ (d : Held). images d image) short now)

pub fails_elapse : (change : Change) (old new : Held) → FailsWith change old new → HeldElapses old new
fails_elapse change old new (inl done) = subst (λ (d : Held). HeldElapses old d) (sym done.1) (elapses_push old.first old.changes change)
fails_elapse change old new (inr short) = subst (λ (d : Held). HeldElapses old d) (sym short) (elapses_same old.first old.changes)

rose : {T E : Type 0} (faults : ℕ) → faults < 2 ^ 64 → (e : E) → HasCause {T = T} {E = E} faults (next_count faults) (Err e)
rose {T} {E} faults counted e = record { later = omega arith; failed = omega arith }

-- its cause
pub fails_rose : {T E : Type 0} (change : Change) (old new : Held) → FailsWith change old new → IsSound old → (e : E) → HasCause {T = T} {E = E} old.faults new.faults (Err e)
fails_rose {T} {E} change old new (inl done) sound e =
    subst (λ (d : Held). HasCause {T = T} {E = E} old.faults d.faults (Err e)) (sym done.1) (rose old.faults sound.counted e)
fails_rose {T} {E} change old new (inr short) sound e =
    subst (λ (d : Held). HasCause {T = T} {E = E} old.faults d.faults (Err e)) (sym short) (rose old.faults sound.counted e)

-- what a call leaves of the images, where each of those that it may leave is an earlier one after a step
pub fails_follow : (step : List ℕ → List ℕ → Type 0) → ((bytes : List ℕ) → step bytes bytes) → (change : Change) (old new : Held) → ((image : List ℕ) → images_after change old.bytes (images old) image → (earlier : List ℕ) × images old earlier × step earlier image) → FailsWith change old new → IsSound old → Follows step (images old) (images new)
fails_follow step same change old new steps fails sound image now = elim (fails_leave change old new fails sound image now) [
  | inl stays ↦ (image, stays, same image)
  | inr steps_to ↦ steps image steps_to
]

-- a failed call leaves what a read gives, and that as an image
pub failed_reads : (change : Change) → IsFailed change → (bytes : List ℕ) (before : List ℕ → Type 0) → before bytes → (read_after change bytes ≡ bytes) × images_after change bytes before bytes
failed_reads (Wrote at new) failed bytes before was = absurd failed
failed_reads (LostWrite at n) failed bytes before was = (refl, (bytes, was, torn_same at n bytes))
failed_reads (CutTo n) failed bytes before was = absurd failed
failed_reads (LostCut n) failed bytes before was = (refl, (bytes, was, inl refl))
failed_reads Synced failed bytes before was = absurd failed
failed_reads Lost failed bytes before was = (refl, was)
