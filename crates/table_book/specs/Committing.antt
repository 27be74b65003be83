-- What the writing of a batch's changes does to a book, its journal and its disk. No public clause cites these.
use Rattle.std.specs.Prelude.{Bool, true, false, List, Result, Ok, Err}
use Rattle.table_rows.specs.declared.undo.Undo.{Undo}
use Rattle.table_rows.specs.Database.{Database, database_of}
use Rattle.table_rows.specs.Rows.{State}
use Rattle.table_rows.specs.Undoing.{since, undone_all}
use Rattle.change_set.specs.declared.change.Change.{Change}
use Rattle.change_set.specs.Net.{changes}
use Rattle.table_book.specs.declared.fault.Fault.{Fault}
use Rattle.table_book.specs.declared.fault.Fault.TheVariants as faults
use Rattle.table_book.specs.Books.{Keeping}

-- The rows from before all changes that are noted.
abbrev pub before_all : List Undo → State → Database
before_all notes tables = database_of (undone_all (since 0 notes) tables)

-- A book before all changes that are noted.
abbrev pub book_before : {D : Type 0} → List Undo → Keeping D → Keeping D
book_before notes book = record book { tables = undone_all (since 0 notes) book.tables }

-- The net changes of which these are the notes.
abbrev pub noted : List Undo → State → List Change
noted notes tables = changes (before_all notes tables) (database_of tables)

-- The journal was called: a record was written, or the disk failed.
abbrev pub IfCalled : Result Bool Fault → Type 0 → Type 0
IfCalled (Ok true) P = P
IfCalled (Ok false) P = Unit {0}
IfCalled (Err faults.Disk) P = P
IfCalled (Err faults.NoMemory) P = Unit {0}

-- It was not.
abbrev pub IfNotCalled : Result Bool Fault → Type 0 → Type 0
IfNotCalled (Ok true) P = Unit {0}
IfNotCalled (Ok false) P = P
IfNotCalled (Err faults.Disk) P = Unit {0}
IfNotCalled (Err faults.NoMemory) P = P

-- There was nothing to write.
abbrev pub IfIdle : Result Bool Fault → Type 0 → Type 0
IfIdle (Ok true) P = Unit {0}
IfIdle (Ok false) P = P
IfIdle (Err fault) P = Unit {0}

-- A record was written.
abbrev pub IfWritten : Result Bool Fault → Type 0 → Type 0
IfWritten (Ok true) P = P
IfWritten (Ok false) P = Unit {0}
IfWritten (Err fault) P = Unit {0}

-- The disk failed.
abbrev pub IfDisk : Result Bool Fault → Type 0 → Type 0
IfDisk (Ok written) P = Unit {0}
IfDisk (Err faults.Disk) P = P
IfDisk (Err faults.NoMemory) P = Unit {0}
