use Rattle.std.proofs.Common.{refl}
use Rattle.open_index.specs.Tokens.{number_at, front_at}
use Rattle.open_index.specs.Values.{value_of, values_of, values_in, delta_of, deltas_of}
use Rattle.open_index.specs.Open.{column_onto, columns_onto, columns_of, filter_columns_of, lists_of, handle_of, open_of}
use Rattle.open_index.specs.Find.{count_at, key_at, limit_at, part_at, list_len_at, list_at, within_at, filter_of, filter_at, next_filter, filters_at, mod_values, change_of, mod_of, find_of}
use Rattle.open_index.specs.Insert.{rest_of, insert_of}
use Rattle.open_index.specs.Line.{command_of, operation_of, request_of, tells, command_means, tokens_mean, line_means}
use Rattle.open_index.proofs.laws.example_refusals.Goals as goal

pub returns-clause-spelling : goal.returns-clause-spelling
unfolding number_at front_at value_of values_of values_in delta_of deltas_of column_onto columns_onto columns_of filter_columns_of lists_of handle_of open_of count_at key_at limit_at part_at list_len_at list_at within_at filter_of filter_at next_filter filters_at mod_values change_of mod_of find_of rest_of insert_of command_of operation_of request_of tells command_means tokens_mean line_means
returns-clause-spelling c = refl

pub returns-clause-command : goal.returns-clause-command
unfolding number_at front_at value_of values_of values_in delta_of deltas_of column_onto columns_onto columns_of filter_columns_of lists_of handle_of open_of count_at key_at limit_at part_at list_len_at list_at within_at filter_of filter_at next_filter filters_at mod_values change_of mod_of find_of rest_of insert_of command_of operation_of request_of tells command_means tokens_mean line_means
returns-clause-command c = refl

pub returns-clause-auth : goal.returns-clause-auth
unfolding number_at front_at value_of values_of values_in delta_of deltas_of column_onto columns_onto columns_of filter_columns_of lists_of handle_of open_of count_at key_at limit_at part_at list_len_at list_at within_at filter_of filter_at next_filter filters_at mod_values change_of mod_of find_of rest_of insert_of command_of operation_of request_of tells command_means tokens_mean line_means
returns-clause-auth c = refl

pub returns-clause-key : goal.returns-clause-key
unfolding number_at front_at value_of values_of values_in delta_of deltas_of column_onto columns_onto columns_of filter_columns_of lists_of handle_of open_of count_at key_at limit_at part_at list_len_at list_at within_at filter_of filter_at next_filter filters_at mod_values change_of mod_of find_of rest_of insert_of command_of operation_of request_of tells command_means tokens_mean line_means
returns-clause-key c = refl

pub returns-clause-twice : goal.returns-clause-twice
unfolding number_at front_at value_of values_of values_in delta_of deltas_of column_onto columns_onto columns_of filter_columns_of lists_of handle_of open_of count_at key_at limit_at part_at list_len_at list_at within_at filter_of filter_at next_filter filters_at mod_values change_of mod_of find_of rest_of insert_of command_of operation_of request_of tells command_means tokens_mean line_means
returns-clause-twice c = refl

pub returns-clause-operator : goal.returns-clause-operator
unfolding number_at front_at value_of values_of values_in delta_of deltas_of column_onto columns_onto columns_of filter_columns_of lists_of handle_of open_of count_at key_at limit_at part_at list_len_at list_at within_at filter_of filter_at next_filter filters_at mod_values change_of mod_of find_of rest_of insert_of command_of operation_of request_of tells command_means tokens_mean line_means
returns-clause-operator c = refl

pub returns-clause-below : goal.returns-clause-below
unfolding number_at front_at value_of values_of values_in delta_of deltas_of column_onto columns_onto columns_of filter_columns_of lists_of handle_of open_of count_at key_at limit_at part_at list_len_at list_at within_at filter_of filter_at next_filter filters_at mod_values change_of mod_of find_of rest_of insert_of command_of operation_of request_of tells command_means tokens_mean line_means
returns-clause-below c = refl

pub returns-clause-cut : goal.returns-clause-cut
unfolding number_at front_at value_of values_of values_in delta_of deltas_of column_onto columns_onto columns_of filter_columns_of lists_of handle_of open_of count_at key_at limit_at part_at list_len_at list_at within_at filter_of filter_at next_filter filters_at mod_values change_of mod_of find_of rest_of insert_of command_of operation_of request_of tells command_means tokens_mean line_means
returns-clause-cut c = refl

pub returns-clause-text : goal.returns-clause-text
unfolding number_at front_at value_of values_of values_in delta_of deltas_of column_onto columns_onto columns_of filter_columns_of lists_of handle_of open_of count_at key_at limit_at part_at list_len_at list_at within_at filter_of filter_at next_filter filters_at mod_values change_of mod_of find_of rest_of insert_of command_of operation_of request_of tells command_means tokens_mean line_means
returns-clause-text c = refl

pub returns-clause-reading : goal.returns-clause-reading
unfolding number_at front_at value_of values_of values_in delta_of deltas_of column_onto columns_onto columns_of filter_columns_of lists_of handle_of open_of count_at key_at limit_at part_at list_len_at list_at within_at filter_of filter_at next_filter filters_at mod_values change_of mod_of find_of rest_of insert_of command_of operation_of request_of tells command_means tokens_mean line_means
returns-clause-reading c = refl
