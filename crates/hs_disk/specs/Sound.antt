-- What every disk in memory keeps, and the laws of its moments.
use Rattle.std.specs.Prelude.{◌≡◌, ℕ, ◌<◌, ◌^◌, List, length}
use Rattle.std.proofs.Common.{sym, subst, arith}
use Rattle.std.proofs.lemmas.List.{take_all}
use Rattle.hs_disk.specs.declared.change.Change.{Change}
use Rattle.hs_disk.specs.Images.{IsImage, WasImageAt, read_at_end}
use Rattle.hs_disk.specs.Held.{Held}
use Rattle.hs_disk.specs.Picks.{AreWithin}

-- what a crash may leave of it
abbrev pub images : Held → List ℕ → Type 0
images disk = IsImage disk.first disk.changes

-- what a crash at the moment t may have left of it
abbrev pub left_at : Held → ℕ → List ℕ → Type 0
left_at disk = WasImageAt disk.first disk.changes

-- its bytes are what its calls make of the first ones, each write within those that were there;
-- they are one of its images and fewer than 2^63, and its faults fit their counter
pub record IsSound (disk : Held) : Type 0 where
  pub replays : read_at_end disk.first disk.changes ≡ disk.bytes
  pub places : AreWithin disk.first disk.changes
  pub reads : IsImage disk.first disk.changes disk.bytes
  pub bounded : length disk.bytes < 2 ^ 63
  pub counted : disk.faults < 2 ^ 64

-- what may be left now may be left at this moment
pub counts_now : (first : List ℕ) (changes : List Change) (image : List ℕ) → IsImage first changes image → WasImageAt first changes (length changes) image
counts_now first changes image is =
    (omega arith, subst (λ (l : List Change). IsImage first l image) (sym (take_all (length changes) changes (omega arith))) is)

-- and nothing else
pub only_now : (first : List ℕ) (changes : List Change) (image : List ℕ) → WasImageAt first changes (length changes) image → IsImage first changes image
only_now first changes image was =
    subst (λ (l : List Change). IsImage first l image) (take_all (length changes) changes (omega arith)) was.1
