-- What came of a batch, and of a rotation.
use Rattle.request_types.specs.declared.batches.Replies.{Replies}
use Rattle.line_pipeline.specs.declared.outcomes.Outcome.{Outcome}
use Rattle.line_pipeline.specs.declared.outcomes.Outcome.TheVariants as outcomes
use Rattle.table_book.specs.declared.rotated.Rotated.{Rotated}
use Rattle.table_book.specs.declared.rotated.Rotated.TheVariants as rotations

-- The batch is done, and its replies are such.
abbrev pub IfDone : Outcome → (Replies → Type 0) → Type 0
IfDone (outcomes.Done replies) P = P replies
IfDone outcomes.DiskFault P = Unit {0}
IfDone outcomes.NoMemory P = Unit {0}

-- The batch is not done.
abbrev pub IfUndone : Outcome → Type 0 → Type 0
IfUndone (outcomes.Done replies) P = Unit {0}
IfUndone outcomes.DiskFault P = P
IfUndone outcomes.NoMemory P = P

-- The disk failed.
abbrev pub IfDiskFault : Outcome → Type 0 → Type 0
IfDiskFault (outcomes.Done replies) P = Unit {0}
IfDiskFault outcomes.DiskFault P = P
IfDiskFault outcomes.NoMemory P = Unit {0}

-- The segment was rotated.
abbrev pub IfRotated : Rotated → Type 0 → Type 0
IfRotated rotations.Done P = P
IfRotated rotations.DiskFault P = Unit {0}
IfRotated rotations.NoMemory P = Unit {0}

-- A rotation failed by the disk.
abbrev pub IfRotationFault : Rotated → Type 0 → Type 0
IfRotationFault rotations.Done P = Unit {0}
IfRotationFault rotations.DiskFault P = P
IfRotationFault rotations.NoMemory P = Unit {0}

-- Memory ran out before a rotation.
abbrev pub IfNoRotation : Rotated → Type 0 → Type 0
IfNoRotation rotations.Done P = Unit {0}
IfNoRotation rotations.DiskFault P = Unit {0}
IfNoRotation rotations.NoMemory P = P
