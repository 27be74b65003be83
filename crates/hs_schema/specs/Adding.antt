-- What adding the table of a line answers, and what it leaves.
use Rattle.std.specs.Prelude.{◌≡◌, ℕ, List, [], ◌∷◌, ◌++◌, length, Option, Some, None, Result, Ok, Err}
use Rattle.hs_token.specs.declared.tokens.Token.{Token}
use Rattle.hs_token.specs.Reading.{line_at}
use Rattle.row_types.specs.declared.tables.TableDef.{TableDef}
use Rattle.hs_schema.specs.declared.faults.SchemaFault.{SchemaFault}
use Rattle.hs_schema.specs.declared.faults.SchemaFault.TheVariants.{Broken, NoMemory}
use Rattle.hs_schema.specs.Reading.{Breach, broken, table_at}

-- The table of the line stands behind the others, or the line's first broken rule is answered with the number of
-- tables, or memory ran out. The tables are as before unless one was added.
abbrev pub Adds : List TableDef → List TableDef → List Token → Result (Unit {0}) SchemaFault → Type 0
Adds old new line (Ok done) = (table : TableDef) × (table_at old line ≡ Ok table) × (new ≡ old ++ table ∷ [])
Adds old new line (Err (Broken rule table token)) =
    (table_at old line ≡ broken rule token) × (table ≡ length old) × (new ≡ old)
Adds old new line (Err NoMemory) = new ≡ old

-- The next line is read, unless one before it added no table.
abbrev pub next : Option (List TableDef) → (List TableDef → Option (List TableDef)) → Option (List TableDef)
next None more = None
next (Some tables) more = more tables

-- The tables with the one that was read behind them.
abbrev pub with_table : List TableDef → Result TableDef Breach → Option (List TableDef)
with_table tables (Ok table) = Some (tables ++ table ∷ [])
with_table tables (Err breach) = None

-- The same with the tokens of a line, where it has any.
abbrev pub with_tokens : List TableDef → Result (List Token) ℕ → Option (List TableDef)
with_tokens tables (Ok line) = with_table tables (table_at tables line)
with_tokens tables (Err place) = None

-- The tables with those of lines of bytes behind them, one after another; nothing where one of the lines adds none.
abbrev pub with_lines : List TableDef → List (List ℕ) → Option (List TableDef)
with_lines tables [] = Some tables
with_lines tables (line ∷ lines) = next (with_tokens tables (line_at line)) (λ more. with_lines more lines)
