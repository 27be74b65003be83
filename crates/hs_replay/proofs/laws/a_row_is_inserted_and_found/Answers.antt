use Rattle.std.proofs.Common.{refl}
use Rattle.std.specs.Fmt.{digits}
use Rattle.hs_schema.specs.Reading.{name_at, column_name_at, nullness_at, column_at, columns_at, columns_of as table_columns_of, fine_parts, index_name_at, index_kind_at, index_at, indexes_at, table_name_at, table_at}
use Rattle.open_index.specs.Tokens.{number_at, front_at}
use Rattle.open_index.specs.Values.{value_of, values_of}
use Rattle.open_index.specs.Open.{column_onto, columns_onto, columns_of, filter_columns_of, lists_of, handle_of, open_of}
use Rattle.open_index.specs.Find.{count_at, key_at, limit_at, within_at, next_filter, filters_at, mod_of, find_of}
use Rattle.open_index.specs.Insert.{rest_of, insert_of}
use Rattle.open_index.specs.Line.{command_of, operation_of, request_of, command_means, tokens_mean, line_means}
use Rattle.hs_replay.proofs.laws.a_row_is_inserted_and_found.Goals as goal

pub returns-clause-before : goal.returns-clause-before
unfolding digits name_at column_name_at nullness_at column_at columns_at table_columns_of fine_parts index_name_at index_kind_at index_at indexes_at table_name_at table_at number_at front_at value_of values_of column_onto columns_onto columns_of filter_columns_of lists_of handle_of open_of count_at key_at limit_at within_at next_filter filters_at mod_of find_of rest_of insert_of command_of operation_of request_of command_means tokens_mean line_means
returns-clause-before c = refl

pub returns-clause-text : goal.returns-clause-text
unfolding digits name_at column_name_at nullness_at column_at columns_at table_columns_of fine_parts index_name_at index_kind_at index_at indexes_at table_name_at table_at number_at front_at value_of values_of column_onto columns_onto columns_of filter_columns_of lists_of handle_of open_of count_at key_at limit_at within_at next_filter filters_at mod_of find_of rest_of insert_of command_of operation_of request_of command_means tokens_mean line_means
returns-clause-text c = refl

pub returns-clause-whole : goal.returns-clause-whole
unfolding digits name_at column_name_at nullness_at column_at columns_at table_columns_of fine_parts index_name_at index_kind_at index_at indexes_at table_name_at table_at number_at front_at value_of values_of column_onto columns_onto columns_of filter_columns_of lists_of handle_of open_of count_at key_at limit_at within_at next_filter filters_at mod_of find_of rest_of insert_of command_of operation_of request_of command_means tokens_mean line_means
returns-clause-whole c = refl
