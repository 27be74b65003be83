-- What the fields of a journal stand for.
use Rattle.std.specs.Prelude.{ℕ, ◌+◌, ◌<◌, ◌^◌, Option, None, Some}
use Rattle.redo_journal.specs.Journal.{Standing}
use Rattle.redo_journal.specs.Root.{root_end}
use Rattle.redo_journal.specs.declared.root.Root.{Root}
use Rattle.redo_journal.specs.declared.journal.Journal.TheInside.{Inside}

-- where a journal stands, by its fields
abbrev pub standing : Inside → Standing
standing j = record { gate = j.gate; first = j.first; since = j.since; root = j.root; doubt = j.doubt }

-- a root stands before the live segment, and that before the last gate
abbrev pub IsBefore : Option Root → ℕ → Type 0
IsBefore None gate = Unit {0}
IsBefore (Some root) gate = (root_end root < root.live) × (root.live < gate)

-- a place on a disk, and a number of records that fits
pub record IsPlace (j : Inside) : Type 0 where
  pub gate : j.gate < 2 ^ 63
  pub records : j.first + j.since < 2 ^ 64
  pub root : IsBefore j.root j.gate
