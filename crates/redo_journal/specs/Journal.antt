-- What a journal stands for on its disk.
use Rattle.std.specs.Prelude.{◌≡◌, ◌⊎◌, ℕ, ◌+◌, ◌-◌, ◌<◌, Bool, true, if◌then◌else◌, Option, None, Some, is_some, option_map, List, [], ◌∷◌, length}
use Rattle.hs_disk.specs.Disk.{written}
use Rattle.redo_journal.specs.Image.{Contents, IsImageAt, Journals}
use Rattle.redo_journal.specs.Gates.{Throughout}
use Rattle.redo_journal.specs.Segment.{number_of}
use Rattle.redo_journal.specs.declared.root.Root.{Root}
use Rattle.redo_journal.specs.declared.doubt.Doubt.{Doubt}

-- the place of a journal's last gate, the number of the records before its area and behind it, its
-- root, and the byte that is in doubt
pub record Standing : Type 0 where
  pub gate : ℕ
  pub first : ℕ
  pub since : ℕ
  pub root : Option Root
  pub doubt : Option Doubt

-- how many records it has
abbrev pub records : Standing → ℕ
records journal = journal.first + journal.since

-- the place of its root's gate
abbrev pub root_gate : Standing → Option ℕ
root_gate journal = option_map (λ root. root.gate) journal.root

-- it stands in this segment, which this root names, with no record yet and no byte in doubt
pub record Turned (root : Root) (segment : List ℕ) (journal : Standing) : Type 0 where
  pub gate : journal.gate ≡ root.live + (length segment - 1)
  pub first : journal.first ≡ number_of segment
  pub since : journal.since ≡ 0
  pub root_is : journal.root ≡ Some root
  pub quiet : journal.doubt ≡ None

-- whether a byte is in doubt, so that a repair is due
abbrev pub is_due : Standing → Bool
is_due journal = is_some journal.doubt

-- the image is that of this journal, with these contents
pub record IsOf (text : List ℕ) (contents : Contents) (journal : Standing) (image : List ℕ) : Type 0 where
  pub is : IsImageAt text contents journal.root journal.gate image
  pub first : journal.first ≡ contents.first
  pub since : journal.since ≡ length contents.payloads

-- Whatever byte stands at the place in doubt, the image is that of a journal with the one contents
-- or the other. With the byte from before, it is that of this journal.
pub record InDoubt (text : List ℕ) (contents doubtful : Contents) (journal : Standing)
    (doubt : Doubt) (image : List ℕ) : Type 0 where
  pub within : doubt.place < length image
  pub either : (byte : ℕ) → Journals text contents (written doubt.place (byte ∷ []) image)
      ⊎ Journals text doubtful (written doubt.place (byte ∷ []) image)
  pub back : IsOf text contents journal (written doubt.place (doubt.byte ∷ []) image)

-- so it is, where a byte is in doubt or none
abbrev pub Holds : List ℕ → Contents → Contents → Standing → Option Doubt → List ℕ → Type 0
Holds text contents doubtful journal None = IsOf text contents journal
Holds text contents doubtful journal (Some doubt) = InDoubt text contents doubtful journal doubt

-- The journal stands for these contents, in what a read gives and in each image that a crash may
-- leave, or, where a repair is due, for these or the doubtful ones.
abbrev pub StandsOn : List ℕ → Contents → Contents → Standing → List ℕ → (List ℕ → Type 0) → Type 0
StandsOn text contents doubtful journal = Throughout (Holds text contents doubtful journal journal.doubt)

-- the journal stands on the disk, for some schema text and contents
pub record IsJournalOn (journal : Standing) (seen : List ℕ)
    (may_leave : List ℕ → Type 0) : Type 0 where
  pub text : List ℕ
  pub contents : Contents
  pub doubtful : Contents
  pub stands : StandsOn text contents doubtful journal seen may_leave

-- these contents, or, where a repair is due, the doubtful ones
abbrev pub ShowsOld : List ℕ → Contents → Contents → Standing → List ℕ → Type 0
ShowsOld text contents doubtful journal image =
    Journals text contents image ⊎ ((is_due journal ≡ true) × Journals text doubtful image)

-- at a moment of a call: what was shown before, or the new contents
abbrev pub ShowsOldOrNew : List ℕ → Contents → Contents → Standing → Contents → List ℕ → Type 0
ShowsOldOrNew text contents doubtful journal next image =
    ShowsOld text contents doubtful journal image ⊎ Journals text next image

-- how many changing calls a repair makes, where one is due
abbrev pub repair_calls : Standing → ℕ
repair_calls journal = if is_due journal then 2 else 0

-- and an append, which writes the record and then its gate, each with a sync
abbrev pub append_calls : Standing → ℕ
append_calls journal = if is_due journal then 6 else 4

-- and a rotation, which writes the segment and a cell, a sync behind both, and then the selector
abbrev pub rotate_calls : Standing → ℕ
rotate_calls journal = if is_due journal then 7 else 5
