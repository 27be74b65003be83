use Rattle.std.proofs.Common.{refl}
use Rattle.change_set.specs.Reading.{text_at, value_at, cell_at, cells_at, table_at, put_at, delete_at, count_at, change_at, next_at, changes_at}
use Rattle.change_set.proofs.laws.worked_payloads.Goals as goal

pub returns-clause-read : goal.returns-clause-read
unfolding text_at value_at cell_at cells_at table_at put_at delete_at count_at change_at next_at changes_at
returns-clause-read c = refl

pub returns-clause-cut : goal.returns-clause-cut
unfolding text_at value_at cell_at cells_at table_at put_at delete_at count_at change_at next_at changes_at
returns-clause-cut c = refl

pub returns-clause-too_long : goal.returns-clause-too_long
unfolding text_at value_at cell_at cells_at table_at put_at delete_at count_at change_at next_at changes_at
returns-clause-too_long c = refl

pub returns-clause-empty_area : goal.returns-clause-empty_area
unfolding changes_at
returns-clause-empty_area c = refl

pub returns-clause-deleting : goal.returns-clause-deleting
unfolding text_at value_at cell_at cells_at table_at put_at delete_at count_at change_at next_at changes_at
returns-clause-deleting c = refl
