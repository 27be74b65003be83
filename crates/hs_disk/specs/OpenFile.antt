-- What is known of a file that is open as a disk.
use Rattle.std.specs.Prelude.{◌≡◌, ℕ, ◌+◌, ◌^◌, ◌<◌, ◌≤◌, Bool, List, Option, min, max, take, option_map, Result, Ok, Err}
use Rattle.fault_count.specs.Cause.{next_count}
use Rattle.hs_disk.specs.HostFile.{Cuts}

-- a file that is open as a disk
pub record OpenFile : Type 0 where
  -- the bytes of the file, where it tells them
  pub holds : Option (List ℕ)
  -- whether any of them wait for a sync, where it tells
  pub waits : Option Bool
  -- how many of them are the disk's, by the file's length when it was opened and its calls since
  pub len : ℕ
  -- how far the file is written, zeros behind the disk's bytes included
  pub filled : ℕ
  -- how many of its calls failed
  pub faults : ℕ

-- the bytes of the disk, where the file tells them
abbrev pub shown : OpenFile → Option (List ℕ)
shown file = option_map (take file.len) file.holds

-- n bytes from one place on end at the other, within the greatest length
abbrev pub EndsAt : ℕ → ℕ → ℕ → Type 0
EndsAt at n end = (end ≡ at + n) × (end < 2 ^ 63)

-- After a write from one place to another the file has grown to its end, by zeros ahead of it too,
-- unless it reached so far or the write began at place 0.
pub record Grew (at end : ℕ) (old new : OpenFile) : Type 0 where
  pub len : new.len ≡ max old.len end
  pub reaches : max old.filled end ≤ new.filled
  pub within : end ≤ old.filled → new.filled ≡ old.filled
  pub first : at ≡ 0 → new.filled ≡ max old.filled end

-- after a cut to n bytes, of the file and of what the disk shows of it
pub record Shrank (n : ℕ) (old new : OpenFile) : Type 0 where
  pub len : new.len ≡ min old.len n
  pub filled : new.filled ≡ min old.filled n
  pub file : Cuts n old.holds new.holds
  pub bytes : Cuts n (shown old) (shown new)

-- its length and how far it is written stay
pub record IsAsLong (old new : OpenFile) : Type 0 where
  pub len : new.len ≡ old.len
  pub filled : new.filled ≡ old.filled

-- all but the count of its failures stays
abbrev pub IsAsItWas : OpenFile → OpenFile → Type 0
IsAsItWas old new = IsAsLong old new × (new.holds ≡ old.holds)

-- a call that fails is counted, and no other
abbrev pub faults_after : {T E : Type 0} → Result T E → ℕ → ℕ
faults_after (Ok value) faults = faults
faults_after (Err error) faults = next_count faults
