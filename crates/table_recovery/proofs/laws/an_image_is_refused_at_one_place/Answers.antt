use Rattle.std.proofs.Common.{ℕ, List, ◌<◌, ◌^◌}
use Rattle.row_types.specs.declared.tables.Schema.{Schema}
use Rattle.table_rows.specs.Database.{Database}
use Rattle.redo_journal.specs.declared.refusal.Refusal.{Refusal}
use Rattle.redo_journal.specs.declared.refusal.Refusal.TheVariants.{OtherSchema, Damaged, DiskFault, NoMemory}
use Rattle.table_recovery.specs.Answers.{RefusesTables, IsOfBytes}
use Rattle.table_recovery.specs.Shown.{ImageShows}
use Rattle.table_recovery.proofs.RefusalLaws.{one_place, other_not_damaged, shown_not_damaged, shown_not_other}
use Rattle.table_recovery.proofs.laws.an_image_is_refused_at_one_place.Goals as goal

shows_none : (schema : Schema) (bytes_max : ℕ) (image : List ℕ) (refusal : Refusal) (db : Database) (number : ℕ) → RefusesTables schema bytes_max image refusal → IsOfBytes refusal → ImageShows schema bytes_max db number image → number < 2 ^ 63 → ⊥
shows_none schema bytes_max image OtherSchema db number refuses of_bytes shown low = shown_not_other schema bytes_max image db number shown refuses
shows_none schema bytes_max image (Damaged place) db number refuses of_bytes shown low = shown_not_damaged schema bytes_max image db number place shown low refuses
shows_none schema bytes_max image DiskFault db number refuses of_bytes shown low = of_bytes
shows_none schema bytes_max image NoMemory db number refuses of_bytes shown low = of_bytes

pub returns-clause-place : goal.returns-clause-place
returns-clause-place c = one_place

pub returns-clause-reason : goal.returns-clause-reason
returns-clause-reason c schema bytes_max image place other damaged = other_not_damaged schema bytes_max image place other damaged

pub returns-clause-no_tables : goal.returns-clause-no_tables
returns-clause-no_tables c = shows_none
