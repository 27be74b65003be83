-- What writes and syncs leave on a disk.
use Rattle.std.specs.Prelude.{◌≡◌, ℕ, List, Result, OnOk, OnErr}
use Rattle.hs_disk.specs.Disk.{LeavesOnly, Torn}

-- these bytes and no other
abbrev pub Is : List ℕ → List ℕ → Type 0
Is bytes image = image ≡ bytes

-- so it is of what a read gives, and of each image that a crash now may leave
pub record Throughout (P : List ℕ → Type 0) (seen : List ℕ)
    (may_leave : List ℕ → Type 0) : Type 0 where
  pub reads : P seen
  pub leaves : (image : List ℕ) → may_leave image → P image

-- A call on a disk: a crash at each moment of it leaves an image of the first kind. After Ok, what
-- a read gives and all images are of the second kind, and after a failure of the third.
pub record Passes {D T E : Type 0} (seen : D → List ℕ) (may_leave : D → List ℕ → Type 0)
    (moment : D → ℕ) (left_at : D → ℕ → List ℕ → Type 0) (old new : D)
    (during after failed : List ℕ → Type 0) (result : Result T E) : Type 0 where
  pub moments : LeavesOnly moment left_at old new during
  pub ok : OnOk result (Throughout after (seen new) (may_leave new))
  pub err : OnErr result (Throughout failed (seen new) (may_leave new))

-- one of these images, with any bytes in this range
pub record TornFrom (at n : ℕ) (images : List ℕ → Type 0) (image : List ℕ) : Type 0 where
  pub earlier : List ℕ
  pub was : images earlier
  pub torn : Torn at n earlier image

-- Writes, and a sync behind them: a crash at each moment leaves an image of this kind. After Ok, it
-- leaves these bytes, which a read gives.
pub record Syncs {D T E : Type 0} (seen : D → List ℕ) (may_leave : D → List ℕ → Type 0)
    (moment : D → ℕ) (left_at : D → ℕ → List ℕ → Type 0) (old new : D)
    (during : List ℕ → Type 0) (bytes : List ℕ) (result : Result T E) : Type 0 where
  pub moments : LeavesOnly moment left_at old new during
  pub leaves : Throughout during (seen new) (may_leave new)
  pub ok : OnOk result (Throughout (Is bytes) (seen new) (may_leave new))
