-- What the calls of a disk do to the bytes that it shows, and to the images that a crash may leave.
use Rattle.std.specs.Prelude.{◌≡◌, ◌⊎◌, ℕ, zero, suc, ◌+◌, ◌-◌, ◌<◌, ◌≤◌, min, max, List, ◌++◌, length, take, drop}
use Rattle.fault_count.specs.Cause.{next_count}

-- these bytes written over the old ones at this place, and past their end
abbrev pub written : ℕ → List ℕ → List ℕ → List ℕ
written at bytes old = take at old ++ bytes ++ drop (at + length bytes) old

-- A write of n bytes that was cut short: any bytes in its range, of which the part past the old end
-- may be missing. All else is as it was.
pub record Torn (at n : ℕ) (old new : List ℕ) : Type 0 where
  pub before : take at new ≡ take at old
  pub after : drop (at + n) new ≡ drop (at + n) old
  pub no_shorter : length old ≤ length new
  pub no_longer : length new ≤ max (length old) (at + n)

-- after a cut, the old length or the new one
abbrev pub Cut : ℕ → List ℕ → List ℕ → Type 0
Cut n old new = (new ≡ old) ⊎ (new ≡ take n old)

-- `count` bytes of the disk's, from this place on, stand at the front of the buffer, which is full
-- except at the disk's end
pub record Fills (disk : List ℕ) (at count : ℕ) (old new : List ℕ) : Type 0 where
  pub full : count ≡ min (length old) (length disk - at)
  pub bytes : new ≡ take count (drop at disk) ++ drop count old

-- each image of now is an earlier image after this step
abbrev pub Follows : (List ℕ → List ℕ → Type 0) → (List ℕ → Type 0) → (List ℕ → Type 0) → Type 0
Follows step old new =
    (image : List ℕ) → new image → (earlier : List ℕ) × old earlier × step earlier image

-- no image is there that was not there before
abbrev pub AddsNone : (List ℕ → Type 0) → (List ℕ → Type 0) → Type 0
AddsNone old new = (image : List ℕ) → new image → old image

-- each image is of this kind
abbrev pub AllImages : (List ℕ → Type 0) → (List ℕ → Type 0) → Type 0
AllImages P images = (image : List ℕ) → images image → P image

-- a crash leaves these bytes and nothing else
abbrev pub Only : List ℕ → (List ℕ → Type 0) → Type 0
Only bytes images = (image : List ℕ) → images image → image ≡ bytes

-- a count of calls after n more of them
abbrev pub calls_after : ℕ → ℕ → ℕ
calls_after zero count = count
calls_after (suc n) count = next_count (calls_after n count)

-- Time goes on: what a crash at a moment up to the old one may have left stays, and one at a later
-- moment may have left what it may leave now.
pub record Elapses (before now : ℕ) (past new : ℕ → List ℕ → Type 0)
    (may_leave : List ℕ → Type 0) : Type 0 where
  pub later : before ≤ now
  pub stays : (t : ℕ) (image : List ℕ) → t ≤ before → new t image → past t image
  pub keeps : (t : ℕ) (image : List ℕ) → t ≤ before → past t image → new t image
  pub nothing_else : (t : ℕ) (image : List ℕ) → before < t → t ≤ now → new t image → may_leave image

-- A crash at each moment from the old state to the new one leaves an image that has P, and at an
-- earlier one no other than before.
pub record LeavesOnly {D : Type 0} (moment : D → ℕ) (left_at : D → ℕ → List ℕ → Type 0)
    (old new : D) (P : List ℕ → Type 0) : Type 0 where
  pub later : moment old ≤ moment new
  pub each : (t : ℕ) (image : List ℕ) → moment old ≤ t → t ≤ moment new
      → left_at new t image → P image
  pub before : (t : ℕ) (image : List ℕ) → t ≤ moment old → left_at new t image → left_at old t image
