use Rattle.std.proofs.Common.{◌≡◌, ◌++◌, drop}
use Rattle.std.specs.Prelude.{flat_map}
use Rattle.hs_schema.specs.Spelling.{index_tokens}
use Rattle.hs_schema.proofs.spelling.push_indexes.Given as goal

abbrev pub invariant-loop-index : goal.invariant-loop-index
invariant-loop-index l = l.tokens.items ++ flat_map (index_tokens l.columns) (drop l.index-index l.indexes) ≡ l.fn.tokens.items ++ flat_map (index_tokens l.columns) l.indexes
