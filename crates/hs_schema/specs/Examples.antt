-- A table of three columns and three indexes, as tokens and as what they say.
use Rattle.std.specs.Prelude.{ℕ, true, false, pos, List, [], ◌∷◌, ◌++◌, codes}
use Rattle.hs_token.specs.declared.tokens.Token.{Token}
use Rattle.hs_token.specs.declared.tokens.Token.TheVariants as tokens
use Rattle.row_types.specs.declared.values.Value.TheVariants as values
use Rattle.row_types.specs.declared.columns.Kind.TheVariants.{Int, Bytes}
use Rattle.row_types.specs.declared.columns.Column.{Column}
use Rattle.row_types.specs.declared.indexes.IndexKind.TheVariants.{Primary, Unique, Plain}
use Rattle.row_types.specs.declared.indexes.IndexDef.{IndexDef}
use Rattle.row_types.specs.declared.tables.TableDef.{TableDef}

-- A word of a line.
abbrev pub word : List ℕ → Token
word text = tokens.Text text

-- table test t
abbrev pub people_start : List Token
people_start = word (codes "table") ∷ word (codes "test") ∷ word (codes "t") ∷ []

-- c id int not NULL c name bytes:32 null NULL c n int not 0
abbrev pub people_columns : List Token
people_columns =
    word (codes "c") ∷ word (codes "id") ∷ word (codes "int") ∷ word (codes "not") ∷ tokens.Null
    ∷ word (codes "c") ∷ word (codes "name") ∷ word (codes "bytes:32") ∷ word (codes "null") ∷ tokens.Null
    ∷ word (codes "c") ∷ word (codes "n") ∷ word (codes "int") ∷ word (codes "not") ∷ word (codes "0") ∷ []

-- i PRIMARY primary id i by_n index n i by_name unique name
abbrev pub people_indexes : List Token
people_indexes =
    word (codes "i") ∷ word (codes "PRIMARY") ∷ word (codes "primary") ∷ word (codes "id")
    ∷ word (codes "i") ∷ word (codes "by_n") ∷ word (codes "index") ∷ word (codes "n")
    ∷ word (codes "i") ∷ word (codes "by_name") ∷ word (codes "unique") ∷ word (codes "name") ∷ []

-- The whole line.
abbrev pub people_line : List Token
people_line = people_start ++ people_columns ++ people_indexes

-- An integer that forbids NULL, a text of up to 32 bytes, and an integer that is 0 where it is left out.
abbrev pub people_shape : List Column
people_shape =
    record { name = codes "id"; kind = Int; null = false; auto = false; preset = values.Null }
    ∷ record { name = codes "name"; kind = Bytes 32; null = true; auto = false; preset = values.Null }
    ∷ record { name = codes "n"; kind = Int; null = false; auto = false; preset = values.Int (pos 0) } ∷ []

-- The id is the primary key, and names are unique.
abbrev pub people_keys : List IndexDef
people_keys =
    record { name = codes "PRIMARY"; kind = Primary; parts = 0 ∷ [] }
    ∷ record { name = codes "by_n"; kind = Plain; parts = 2 ∷ [] }
    ∷ record { name = codes "by_name"; kind = Unique; parts = 1 ∷ [] } ∷ []

-- The table that the line says.
abbrev pub people : TableDef
people = record { db = codes "test"; name = codes "t"; columns = people_shape; indexes = people_keys }

-- c id int auto NULL c v int null NULL
abbrev pub numbered_columns : List Token
numbered_columns =
    word (codes "c") ∷ word (codes "id") ∷ word (codes "int") ∷ word (codes "auto") ∷ tokens.Null
    ∷ word (codes "c") ∷ word (codes "v") ∷ word (codes "int") ∷ word (codes "null") ∷ tokens.Null ∷ []

-- i PRIMARY primary and a column
abbrev pub keyed_by : List ℕ → List Token
keyed_by name = word (codes "i") ∷ word (codes "PRIMARY") ∷ word (codes "primary") ∷ word name ∷ []

-- A column of integers.
abbrev pub integers : List ℕ → List ℕ → Token → List Token
integers name nullness preset = word (codes "c") ∷ word name ∷ word (codes "int") ∷ word nullness ∷ preset ∷ []

-- A table whose id is counted, and an integer that may be NULL.
abbrev pub numbered : TableDef
numbered = record {
  db = codes "test";
  name = codes "t";
  columns =
      record { name = codes "id"; kind = Int; null = false; auto = true; preset = values.Null }
      ∷ record { name = codes "v"; kind = Int; null = true; auto = false; preset = values.Null } ∷ [];
  indexes = record { name = codes "PRIMARY"; kind = Primary; parts = 0 ∷ [] } ∷ [];
}
