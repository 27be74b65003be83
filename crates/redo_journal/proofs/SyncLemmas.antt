-- What writes and a sync behind them leave.
use Rattle.std.proofs.Common.{◌≡◌, ℕ, List, Result}
use Rattle.std.specs.Prelude.{OnOk}
use Rattle.hs_disk.specs.Disk.{Torn, Follows, AddsNone, Only, Elapses, LeavesOnly}
use Rattle.redo_journal.specs.Gates.{Is, Syncs, Throughout, TornFrom}
use Rattle.redo_journal.proofs.Moments.{proceeds, synced}
use Rattle.redo_journal.proofs.StandLemmas.{torn_same}

pub untorn : (at n : ℕ) (images : List ℕ → Type 0) (image : List ℕ) → images image → TornFrom at n images image
untorn at n images image was = record { earlier = image; was = was; torn = torn_same at n image }

pub torn_from : (at n : ℕ) (old new : List ℕ → Type 0) → Follows (Torn at n) old new → (image : List ℕ) → new image → TornFrom at n old image
torn_from at n old new follows image is =
    let from = follows image is in
    record { earlier = from.0; was = from.1; torn = from.2 }

-- behind a torn image, another write
pub torn_again : (at n b m : ℕ) (old mid new : List ℕ → Type 0) → ((image : List ℕ) → mid image → TornFrom at n old image) → Follows (Torn b m) mid new → (image : List ℕ) → new image → TornFrom b m (TornFrom at n old) image
torn_again at n b m old mid new first follows image is =
    let from = follows image is in
    record { earlier = from.0; was = first from.0 from.1; torn = from.2 }

module _ {D T E : Type 0} (seen : D → List ℕ) (may_leave : D → List ℕ → Type 0) (moment : D → ℕ) (left_at : D → ℕ → List ℕ → Type 0) (during : List ℕ → Type 0) (bytes : List ℕ) where
  -- a write has failed
  pub stops : (old new : D) (result : Result T E) → LeavesOnly moment left_at old new during × Throughout during (seen new) (may_leave new) → OnOk result (Throughout (Is bytes) (seen new) (may_leave new)) → Syncs seen may_leave moment left_at old new during bytes result
  stops old new result so_far ok = record { moments = so_far.0; leaves = so_far.1; ok = ok }

  -- the sync that follows them
  pub ends : (old mid new : D) (result : Result T E) → LeavesOnly moment left_at old mid during × Throughout during (seen mid) (may_leave mid) → AddsNone (may_leave mid) (may_leave new) → may_leave new (seen new) → Elapses (moment mid) (moment new) (left_at mid) (left_at new) (may_leave new) → OnOk result (Throughout (Is bytes) (seen new) (may_leave new)) → Syncs seen may_leave moment left_at old new during bytes result
  ends old mid new result so_far adds_none reading time ok =
      stops old new result (proceeds seen may_leave moment left_at during old mid new so_far.0 (λ image left. so_far.1.leaves image (adds_none image left)) reading time) ok

pub reads_only : (bytes seen now : List ℕ) (new : List ℕ → Type 0) → seen ≡ bytes → now ≡ seen → Only seen new → Throughout (Is bytes) now new
reads_only bytes seen now new is same only = synced (Is bytes) seen now new is same only
