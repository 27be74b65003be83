-- The images of a disk in memory, which follow from the calls that changed it.
use Rattle.std.specs.Prelude.{◌≡◌, ℕ, ◌≤◌, List, [], ◌∷◌, length, take}
use Rattle.hs_disk.specs.Disk.{written, Torn, Cut}
use Rattle.hs_disk.specs.declared.change.Change.{Change}
use Rattle.hs_disk.specs.declared.change.Change.TheVariants.{Wrote, LostWrite, CutTo, LostCut, Synced, Lost}

-- what a read gives after a call, of what it gave before
abbrev pub read_after : Change → List ℕ → List ℕ
read_after (Wrote at bytes) seen = written at bytes seen
read_after (LostWrite at n) seen = seen
read_after (CutTo n) seen = take n seen
read_after (LostCut n) seen = seen
read_after Synced seen = seen
read_after Lost seen = seen

-- the images after a call, of those before it and of what a read gave then
abbrev pub images_after : Change → List ℕ → (List ℕ → Type 0) → List ℕ → Type 0
images_after (Wrote at bytes) seen before image =
    (earlier : List ℕ) × before earlier × Torn at (length bytes) earlier image
images_after (LostWrite at n) seen before image =
    (earlier : List ℕ) × before earlier × Torn at n earlier image
images_after (CutTo n) seen before image = (earlier : List ℕ) × before earlier × Cut n earlier image
images_after (LostCut n) seen before image =
    (earlier : List ℕ) × before earlier × Cut n earlier image
images_after Synced seen before image = image ≡ seen
images_after Lost seen before image = before image

-- what a read gives after these calls, the oldest of them first
abbrev pub read_at_end : List ℕ → List Change → List ℕ
read_at_end seen [] = seen
read_at_end seen (change ∷ changes) = read_at_end (read_after change seen) changes

-- the images after these calls, of those at their beginning
abbrev pub images_at_end : List ℕ → (List ℕ → Type 0) → List Change → List ℕ → Type 0
images_at_end seen images [] = images
images_at_end seen images (change ∷ changes) =
    images_at_end (read_after change seen) (images_after change seen images) changes

-- the images of a disk that began with these bytes, all of them synced, after these calls
abbrev pub IsImage : List ℕ → List Change → List ℕ → Type 0
IsImage first = images_at_end first (λ image. image ≡ first)

-- an image after the first t of these calls
abbrev pub WasImageAt : List ℕ → List Change → ℕ → List ℕ → Type 0
WasImageAt first changes t image = (t ≤ length changes) × IsImage first (take t changes) image
