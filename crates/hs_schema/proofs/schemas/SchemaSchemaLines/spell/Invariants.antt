use Rattle.std.proofs.Common.{◌≡◌, ◌++◌, drop}
use Rattle.std.specs.Prelude.{flat_map}
use Rattle.hs_schema.specs.Spelling.{table_line}
use Rattle.hs_schema.proofs.schemas.SchemaSchemaLines.spell.Given as goal

abbrev pub invariant-loop-table : goal.invariant-loop-table
invariant-loop-table l = l.out.items ++ flat_map table_line (drop l.table-index l.self.tables) ≡ flat_map table_line l.self.tables
