use Rattle.std.proofs.Common.{◌≡◌, ◌++◌, drop}
use Rattle.std.specs.Prelude.{flat_map}
use Rattle.hs_schema.specs.Spelling.{column_tokens}
use Rattle.hs_schema.proofs.spelling.push_columns.Given as goal

abbrev pub invariant-loop-column : goal.invariant-loop-column
invariant-loop-column l = l.tokens.items ++ flat_map column_tokens (drop l.column-index l.columns) ≡ l.fn.tokens.items ++ flat_map column_tokens l.columns
