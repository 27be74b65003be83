use Rattle.std.proofs.Common.{refl, arith}
use Rattle.std.proofs.lemmas.Fmt.{decimal_digit, decimal_step}
use Rattle.hs_schema.specs.Reading.{name_at, column_name_at, nullness_at, column_at, columns_at, columns_of, fine_parts, index_name_at, index_kind_at, index_at, indexes_at, table_name_at, table_at}
use Rattle.hs_schema.proofs.laws.example_table.Goals as goal

pub returns-clause-read : goal.returns-clause-read
unfolding name_at column_name_at nullness_at column_at columns_at columns_of fine_parts index_name_at index_kind_at index_at indexes_at table_name_at table_at
returns-clause-read c = refl

pub returns-clause-spelled : goal.returns-clause-spelled
returns-clause-spelled c = rw (decimal_step 32 (omega arith) (omega arith), decimal_digit 3 (omega arith), decimal_digit 0 (omega arith)) refl
