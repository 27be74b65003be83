-- What a crash is taken to leave of a disk in memory.
use Rattle.std.specs.Prelude.{ℕ, ◌-◌, ◌≤◌, min, List, [], ◌∷◌, length, take, replicate}
use Rattle.hs_disk.specs.Disk.{written}
use Rattle.hs_disk.specs.Images.{read_after}
use Rattle.hs_disk.specs.declared.change.Change.{Change}
use Rattle.hs_disk.specs.declared.change.Change.TheVariants.{Wrote, LostWrite, CutTo, LostCut, Synced, Lost}
use Rattle.hs_disk.specs.declared.pick.Pick.{Pick}
use Rattle.hs_disk.specs.declared.pick.Pick.TheVariants.{Kept, Written, Ones}

-- n bytes 1
abbrev pub ones : ℕ → List ℕ
ones n = replicate n 1

-- what is left after a call, of what was left before it, where a read gave these bytes then
abbrev pub left_after : Pick → Change → List ℕ → List ℕ → List ℕ
left_after Kept (Wrote at bytes) seen left = left
left_after Kept (LostWrite at n) seen left = left
left_after Kept (CutTo n) seen left = left
left_after Kept (LostCut n) seen left = left
left_after Kept Synced seen left = seen
left_after Kept Lost seen left = left
left_after Written (Wrote at bytes) seen left = written at bytes left
left_after Written (LostWrite at n) seen left = left
left_after Written (CutTo n) seen left = take n left
left_after Written (LostCut n) seen left = left
left_after Written Synced seen left = seen
left_after Written Lost seen left = left
left_after Ones (Wrote at bytes) seen left = written at (ones (length bytes)) left
left_after Ones (LostWrite at n) seen left = written at (ones (min n (length left - at))) left
left_after Ones (CutTo n) seen left = take n left
left_after Ones (LostCut n) seen left = left
left_after Ones Synced seen left = seen
left_after Ones Lost seen left = left

-- what is left after these calls, the oldest of them first
abbrev pub left_at_end : Pick → List ℕ → List ℕ → List Change → List ℕ
left_at_end pick seen left [] = left
left_at_end pick seen left (change ∷ changes) =
    left_at_end pick (read_after change seen) (left_after pick change seen left) changes

-- what is left of a disk that began with these bytes, all of them synced, after these calls
abbrev pub picked : Pick → List ℕ → List Change → List ℕ
picked pick first = left_at_end pick first first

-- a write, one that failed too, begins within what a read gives
abbrev pub IsWithin : Change → List ℕ → Type 0
IsWithin (Wrote at bytes) seen = at ≤ length seen
IsWithin (LostWrite at n) seen = at ≤ length seen
IsWithin (CutTo n) seen = Unit {0}
IsWithin (LostCut n) seen = Unit {0}
IsWithin Synced seen = Unit {0}
IsWithin Lost seen = Unit {0}

-- so it is with each of these calls
abbrev pub AreWithin : List ℕ → List Change → Type 0
AreWithin seen [] = Unit {0}
AreWithin seen (change ∷ changes) =
    IsWithin change seen × AreWithin (read_after change seen) changes
