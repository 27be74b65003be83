use Rattle.std.proofs.Common.{refl}
use Rattle.hs_schema.specs.Reading.{name_at, column_name_at, nullness_at, column_at, columns_at, columns_of, fine_parts, index_name_at, index_kind_at, index_at, indexes_at, table_name_at, table_at}
use Rattle.hs_schema.proofs.laws.example_breaches.Goals as goal

pub returns-clause-second_time : goal.returns-clause-second_time
unfolding name_at column_name_at nullness_at column_at columns_at columns_of fine_parts index_name_at index_kind_at index_at indexes_at table_name_at table_at
returns-clause-second_time c = refl

pub returns-clause-no_column : goal.returns-clause-no_column
unfolding name_at column_name_at nullness_at column_at columns_at columns_of fine_parts index_name_at index_kind_at index_at indexes_at table_name_at table_at
returns-clause-no_column c = refl

pub returns-clause-no_index : goal.returns-clause-no_index
unfolding name_at column_name_at nullness_at column_at columns_at columns_of fine_parts index_name_at index_kind_at index_at indexes_at table_name_at table_at
returns-clause-no_index c = refl

pub returns-clause-column_behind_indexes : goal.returns-clause-column_behind_indexes
unfolding name_at column_name_at nullness_at column_at columns_at columns_of fine_parts index_name_at index_kind_at index_at indexes_at table_name_at table_at
returns-clause-column_behind_indexes c = refl

pub returns-clause-column_cut : goal.returns-clause-column_cut
unfolding name_at column_name_at nullness_at column_at columns_at columns_of fine_parts index_name_at index_kind_at index_at indexes_at table_name_at table_at
returns-clause-column_cut c = refl

pub returns-clause-null_and_unknown : goal.returns-clause-null_and_unknown
unfolding name_at column_name_at nullness_at column_at columns_at columns_of fine_parts index_name_at index_kind_at index_at indexes_at table_name_at table_at
returns-clause-null_and_unknown c = refl
