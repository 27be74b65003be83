-- Where a cut lies between the marks of a tree.
use Rattle.std.specs.Prelude.{ℕ, Bool, false, List}
use Rattle.row_types.specs.declared.values.Value.{Value}
use Rattle.table_rows.specs.declared.cuts.RowCut.{RowCut}
use Rattle.table_rows.specs.declared.cuts.KeyCut.{KeyCut}
use Rattle.table_rows.specs.declared.mark.Mark.{Mark}
use Rattle.table_rows.specs.Entries.{Slots, cells}
use Rattle.table_rows.specs.Digests.{key_digest}
use Rattle.table_rows.specs.Marks.{is_marked}
use Rattle.table_rows.specs.StoreInside.{is_ahead}

-- The rows, the columns that count, the values that are looked for, whether it lies behind them, and their digest.
pub record Line : Type 0 where
  pub slots : Slots
  pub columns : List ℕ
  pub values : List Value
  pub through : Bool
  pub digest : ℕ

-- Whether a mark stands before it.
abbrev pub is_before : Line → Mark → Bool
is_before line mark = is_marked line.digest (is_ahead line.slots line.columns line.values line.through) mark

-- The line at some values, with the digest that they have.
abbrev pub line_at : Slots → List ℕ → List Value → Bool → Line
line_at slots columns values through =
    record { slots = slots; columns = columns; values = values; through = through; digest = key_digest through values }

-- The line of a cut at a row.
abbrev pub row_line : RowCut → Line
row_line cut =
    record {
      slots = cut.rows.now;
      columns = cut.columns.now;
      values = cells cut.columns.now cut.row.now;
      through = false;
      digest = cut.digest;
    }

-- The line of a cut at a key.
abbrev pub key_line : KeyCut → Line
key_line cut =
    record {
      slots = cut.rows.now;
      columns = cut.columns.now;
      values = cut.key.now;
      through = cut.through;
      digest = cut.digest;
    }
