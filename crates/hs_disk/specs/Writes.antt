-- What a write does to a disk in memory.
use Rattle.std.specs.Prelude.{◌≡◌, ◌↔◌, ℕ, ◌+◌, ◌<◌, ◌^◌, ◌||◌, List, length, Result, OnOk, OnErr, IsTrue}
use Rattle.std.specs.Result.{is_err}
use Rattle.hs_disk.specs.declared.change.Change.TheVariants.{Wrote}
use Rattle.hs_disk.specs.Disk.{written, Torn, Follows, Elapses}
use Rattle.hs_disk.specs.Held.{Held, carried_out, FailsWith, is_to_fail, lost_write}
use Rattle.hs_disk.specs.Length.{past_end}
use Rattle.hs_disk.specs.Sound.{IsSound, images, left_at}

-- these bytes were written at this place, or the call failed and all reads as before
pub record Writes {T E : Type 0} (at : ℕ) (bytes : List ℕ) (old new : Held) (result : Result T E) : Type 0 where
  pub ok : OnOk result (new ≡ carried_out old (Wrote at bytes) (written at bytes old.bytes))
  pub err : OnErr result (FailsWith (lost_write at (length bytes)) old new)
  -- it fails exactly past the greatest length, where it is to fail, or for want of memory
  pub fails : IsTrue (is_err result) ↔ IsTrue (past_end at (length bytes) || is_to_fail old || new.short)
  pub room : OnOk result (at + length bytes < 2 ^ 63)
  -- what a crash may leave
  pub crash : Follows (Torn at (length bytes)) (images old) (images new)
  pub time : Elapses (length old.changes) (length new.changes) (left_at old) (left_at new) (images new)
  pub was_sound : IsSound old
  pub sound : IsSound new
