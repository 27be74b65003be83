-- Files that are no journal, and have something in them.
use Rattle.std.specs.Prelude.{◌≢◌, ℕ, ◌<◌, ◌≤◌, List, length, drop, slice_index, codes}

-- The first bytes of a file say so: it has two or more, the first is neither 0 nor 1, as a gate is,
-- and behind it the mark of a journal does not stand.
pub record IsForeign (front : List ℕ) : Type 0 where
  pub some : 2 ≤ length front
  pub gate : 1 < slice_index front 0
  pub mark : drop 1 front ≢ codes "HSJRNL01"
