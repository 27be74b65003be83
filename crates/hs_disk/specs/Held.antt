-- What a disk in memory holds.
use Rattle.std.specs.Prelude.{◌≡◌, ◌⊎◌, ℕ, Bool, false, true, ◌||◌, ◌==◌, List, [], ◌∷◌, ◌++◌, if◌then◌else◌}
use Rattle.std.specs.List.{list_any}
pub use Rattle.fault_count.specs.Cause.{next_count}
use Rattle.hs_disk.specs.Length.{past_end}
use Rattle.hs_disk.specs.declared.change.Change.{Change}
use Rattle.hs_disk.specs.declared.change.Change.TheVariants.{Wrote, LostWrite, CutTo, LostCut, Synced, Lost}

-- a disk in memory
pub record Held : Type 0 where
  -- the bytes that it was made with
  pub first : List ℕ
  -- its changing calls so far, the oldest first
  pub changes : List Change
  -- what a read gives
  pub bytes : List ℕ
  -- the numbers of the calls that fail
  pub fail_at : List ℕ
  -- how many changing calls it was asked for, and how many of them failed
  pub calls : ℕ
  pub faults : ℕ
  -- whether it was refused memory
  pub short : Bool

-- a disk that was made with these bytes
abbrev pub made : List ℕ → List ℕ → Held
made bytes fail_at = record {
  first = bytes;
  changes = [];
  bytes = bytes;
  fail_at = fail_at;
  calls = 0;
  faults = 0;
  short = false;
}

-- the disk after a changing call that was carried out
abbrev pub carried_out : Held → Change → List ℕ → Held
carried_out old change bytes = record old {
  bytes = bytes;
  changes = old.changes ++ change ∷ [];
  calls = next_count old.calls;
}

-- the disk after a changing call that failed and is remembered
abbrev pub lost : Held → Change → Held
lost old change = record old {
  changes = old.changes ++ change ∷ [];
  calls = next_count old.calls;
  faults = next_count old.faults;
}

-- the disk after a changing call that failed for want of memory, of which nothing else is
-- remembered
abbrev pub out_of_memory : Held → Held
out_of_memory old = record old {
  calls = next_count old.calls;
  faults = next_count old.faults;
  short = true;
}

-- a write of n bytes that failed, as it is remembered: one past the greatest length leaves nothing
-- in doubt
abbrev pub lost_write : ℕ → ℕ → Change
lost_write at n = if past_end at n then Lost else LostWrite at n

-- how a failed call leaves the disk
abbrev pub FailsWith : Change → Held → Held → Type 0
FailsWith change old new =
    ((old.short ≡ false) × (new ≡ lost old change)) ⊎ (new ≡ out_of_memory old)

-- whether the next changing call fails by its number, or for want of memory
abbrev pub is_to_fail : Held → Bool
is_to_fail disk = disk.short || list_any (λ number. number == next_count disk.calls) disk.fail_at

-- a changing call that failed, as it is remembered
abbrev pub IsFailed : Change → Type 0
IsFailed (Wrote at bytes) = ⊥
IsFailed (LostWrite at n) = Unit {0}
IsFailed (CutTo n) = ⊥
IsFailed (LostCut n) = Unit {0}
IsFailed Synced = ⊥
IsFailed Lost = Unit {0}
