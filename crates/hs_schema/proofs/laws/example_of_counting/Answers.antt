use Rattle.std.proofs.Common.{refl}
use Rattle.hs_schema.specs.Reading.{name_at, column_name_at, nullness_at, column_at, columns_at, columns_of, fine_parts, index_name_at, index_kind_at, index_at, indexes_at, table_name_at, table_at}
use Rattle.hs_schema.proofs.laws.example_of_counting.Goals as goal

pub returns-clause-read : goal.returns-clause-read
unfolding name_at column_name_at nullness_at column_at columns_at columns_of fine_parts index_name_at index_kind_at index_at indexes_at table_name_at table_at
returns-clause-read c = refl

pub returns-clause-preset : goal.returns-clause-preset
unfolding name_at column_name_at nullness_at column_at columns_at columns_of fine_parts index_name_at index_kind_at index_at indexes_at table_name_at table_at
returns-clause-preset c = refl

pub returns-clause-second : goal.returns-clause-second
unfolding name_at column_name_at nullness_at column_at columns_at columns_of fine_parts index_name_at index_kind_at index_at indexes_at table_name_at table_at
returns-clause-second c = refl

pub returns-clause-of_texts : goal.returns-clause-of_texts
unfolding name_at column_name_at nullness_at column_at columns_at columns_of fine_parts index_name_at index_kind_at index_at indexes_at table_name_at table_at
returns-clause-of_texts c = refl

pub returns-clause-leads_none : goal.returns-clause-leads_none
unfolding name_at column_name_at nullness_at column_at columns_at columns_of fine_parts index_name_at index_kind_at index_at indexes_at table_name_at table_at
returns-clause-leads_none c = refl

pub returns-clause-no_primary : goal.returns-clause-no_primary
unfolding name_at column_name_at nullness_at column_at columns_at columns_of fine_parts index_name_at index_kind_at index_at indexes_at table_name_at table_at
returns-clause-no_primary c = refl
