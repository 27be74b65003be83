use Rattle.std.proofs.Common.{refl}
use Rattle.open_index.specs.Tokens.{number_at, front_at}
use Rattle.open_index.specs.Values.{value_of, values_of, values_in, delta_of, deltas_of}
use Rattle.open_index.specs.Open.{column_onto, columns_onto, columns_of, filter_columns_of, lists_of, handle_of, open_of}
use Rattle.open_index.specs.Find.{count_at, key_at, limit_at, part_at, list_len_at, list_at, within_at, filter_of, filter_at, next_filter, filters_at, mod_values, change_of, mod_of, find_of}
use Rattle.open_index.specs.Insert.{rest_of, insert_of}
use Rattle.open_index.specs.Line.{command_of, operation_of, request_of, tells, command_means, tokens_mean, line_means}
use Rattle.open_index.proofs.laws.example_states.Goals as goal

pub returns-clause-opens : goal.returns-clause-opens
unfolding number_at front_at value_of values_of values_in delta_of deltas_of column_onto columns_onto columns_of filter_columns_of lists_of handle_of open_of count_at key_at limit_at part_at list_len_at list_at within_at filter_of filter_at next_filter filters_at mod_values change_of mod_of find_of rest_of insert_of command_of operation_of request_of tells command_means tokens_mean line_means
returns-clause-opens c = refl

pub returns-clause-opens_again : goal.returns-clause-opens_again
unfolding number_at front_at value_of values_of values_in delta_of deltas_of column_onto columns_onto columns_of filter_columns_of lists_of handle_of open_of count_at key_at limit_at part_at list_len_at list_at within_at filter_of filter_at next_filter filters_at mod_values change_of mod_of find_of rest_of insert_of command_of operation_of request_of tells command_means tokens_mean line_means
returns-clause-opens_again c = refl

pub returns-clause-tells : goal.returns-clause-tells
unfolding number_at front_at value_of values_of values_in delta_of deltas_of column_onto columns_onto columns_of filter_columns_of lists_of handle_of open_of count_at key_at limit_at part_at list_len_at list_at within_at filter_of filter_at next_filter filters_at mod_values change_of mod_of find_of rest_of insert_of command_of operation_of request_of tells command_means tokens_mean line_means
returns-clause-tells c = refl

pub returns-clause-tells_none : goal.returns-clause-tells_none
unfolding number_at front_at value_of values_of values_in delta_of deltas_of column_onto columns_onto columns_of filter_columns_of lists_of handle_of open_of count_at key_at limit_at part_at list_len_at list_at within_at filter_of filter_at next_filter filters_at mod_values change_of mod_of find_of rest_of insert_of command_of operation_of request_of tells command_means tokens_mean line_means
returns-clause-tells_none c = refl
