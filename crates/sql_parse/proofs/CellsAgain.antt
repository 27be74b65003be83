-- Values and cells, as they are spelled, are read.
use Rattle.std.proofs.Common.{◌≡◌, ℕ, suc, ◌-◌, ◌<◌, ◌≤◌, true, false, List, length, Option, Some, None, refl, ap, ◌∙◌}
use Rattle.std.specs.Prelude.{codes, slice_get, IsSomeAnd}
use Rattle.row_types.specs.declared.columns.Column.{Column}
use Rattle.row_types.specs.declared.columns.Kind.{Kind}
use Rattle.row_types.specs.declared.columns.Kind.TheVariants as kinds
use Rattle.row_types.specs.Valid.{AreColumns}
use Rattle.sql_value.specs.declared.exprs.Expr.{Expr}
use Rattle.sql_value.specs.declared.kinds.ExprKind.{ExprKind}
use Rattle.sql_value.specs.declared.kinds.ExprKind.TheVariants.{Condition, Number, Text, Null}
use Rattle.sql_value.specs.declared.changes.Cell.{Cell}
use Rattle.sql_value.specs.declared.changes.Cell.TheVariants.{Preset, Of}
use Rattle.sql_value.specs.Kinds.{kind_of_cells, kind_of}
use Rattle.sql_value.specs.Fits.{IsValue, IsOf, CellFits}
use Rattle.sql_parse.specs.declared.token_kinds.TokenKind.TheVariants as k
use Rattle.sql_parse.specs.declared.grammar.Level.TheVariants as level
use Rattle.sql_parse.specs.Input.{Input, ◌>>=◌, pure, eat, kind}
use Rattle.sql_parse.specs.Grammar.{expr}
use Rattle.sql_parse.specs.Statements as s
use Rattle.sql_parse.specs.Spelling as t
use Rattle.sql_parse.specs.Spelling.{spell, HasText, CellHasText}
use Rattle.sql_parse.proofs.Cases.{get_within}
use Rattle.sql_parse.proofs.Pieces.{Bare, eats_word, eats_none}
use Rattle.sql_parse.proofs.Fixed.{default_token}
use Rattle.sql_parse.proofs.Grouping.{bind, IsEnd, at_comma}
use Rattle.sql_parse.proofs.Fronts.{front_word}
use Rattle.sql_parse.proofs.Sorts.{is_condition}
use Rattle.sql_parse.proofs.Listed.{IsSaid, worth_read}
use Rattle.sql_parse.proofs.RowsAgain.{told}
use Rattle.sql_parse.proofs.Series.{IsItem}

-- What gives a value gives no condition.
pub record GivesWorth (o : Option ExprKind) : Type 0 where
  pub gives : ExprKind
  pub is : o ≡ Some gives
  pub sort : is_condition gives ≡ false

pub value_gives : (o : Option ExprKind) → IsValue o → GivesWorth o
value_gives (Some Number) is = record { gives = Number; is = refl; sort = refl }
value_gives (Some Text) is = record { gives = Text; is = refl; sort = refl }
value_gives (Some Null) is = record { gives = Null; is = refl; sort = refl }
value_gives (Some Condition) is = absurd is
value_gives None is = absurd is

cells_gives : (kind : Kind) (o : Option ExprKind) → IsOf (kind_of_cells kind) o → GivesWorth o
cells_gives kind (Some Null) is = record { gives = Null; is = refl; sort = refl }
cells_gives kind (Some Number) is = record { gives = Number; is = refl; sort = refl }
cells_gives kind (Some Text) is = record { gives = Text; is = refl; sort = refl }
cells_gives kinds.Int (Some Condition) is = absurd cc
cells_gives (kinds.Bytes most) (Some Condition) is = absurd cc
cells_gives kinds.Int None is = absurd cc
cells_gives (kinds.Bytes most) None is = absurd cc

pub cell_gives : (named columns : List Column) (place : ℕ) (e : Expr) → CellFits named columns place (Of e) → GivesWorth (kind_of named e)
cell_gives named columns place e fits = go (slice_get columns place) fits where
  go : (at : Option Column) → IsSomeAnd at (λ c. IsOf (kind_of_cells c.kind) (kind_of named e)) → GivesWorth (kind_of named e)
  go None is = absurd is
  go (Some c) is = cells_gives c.kind (kind_of named e) is

-- The place of a cell that fits is there.
pub cell_place : (named columns : List Column) (place : ℕ) (c : Cell) → CellFits named columns place c → place < length columns
cell_place named columns place Preset fits = fits
cell_place named columns place (Of e) fits = go (slice_get columns place) refl fits where
  go : (at : Option Column) → slice_get columns place ≡ at → IsSomeAnd at (λ c. IsOf (kind_of_cells c.kind) (kind_of named e)) → place < length columns
  go None at is = absurd is
  go (Some c) at is = get_within columns place c at

module _ (columns : List Column) (are : AreColumns columns) where
  pub said : (named : List Column) → length named ≤ length columns → (e : Expr) → GivesWorth (kind_of named e) → t.is_written e ≡ true → IsSaid columns e
  said named some e worth written = record { gives = worth.gives; told = told columns are named some e worth.gives worth.is written; sort = worth.sort }

  -- A value inside so many parentheses.
  pub value_read : (inside n : ℕ) → 101 - inside ≡ suc n → (e : Expr) → IsSaid columns e → HasText n e → (z : Input) → Bare z → IsEnd (kind z) → s.value columns inside (t.expression columns e z) ≡ Some (e, z)
  unfolding s.value
  value_read inside n left e it has z bare ends =
      ap (λ m. (expr columns m level.Worth >>= λ read. pure read.expr) (t.expression columns e z)) left
      ∙ bind (λ read. pure read.expr) {o = expr columns (suc n) level.Worth (t.expression columns e z)} (worth_read columns e it has.deep n has.nested z bare ends) refl

  pub value_item : (e : Expr) → IsSaid columns e → HasText 100 e → IsItem (s.value columns 0) (t.expression columns) IsEnd at_comma e
  value_item e it has = record { front = it.told.front; read = λ z bare ends. value_read 0 100 refl e it has z bare ends }

  pub cell_item : (named : List Column) → length named ≤ length columns → (inside n : ℕ) → 101 - inside ≡ suc n → (place : ℕ) (c : Cell) → CellFits named columns place c → CellHasText n c → IsItem (s.cell columns inside) (t.cell columns) IsEnd at_comma c
  unfolding s.cell
  cell_item named some inside n left place Preset fits has = record {
    front = front_word k.Default (codes "DEFAULT") default_token (λ schema more i. refl);
    read = λ z bare ends. bind (s.cell_by columns inside) {o = eat k.Default (spell "DEFAULT" z)} (eats_word k.Default (codes "DEFAULT") default_token z bare) refl;
  }
  cell_item named some inside n left place (Of e) fits has =
      let it = said named some e (cell_gives named columns place e fits) has.written in
      record {
        front = it.told.front;
        read = λ z bare ends.
            bind (s.cell_by columns inside) {o = eat k.Default (t.expression columns e z)} (eats_none k.Default (t.expression columns e z) (it.told.plain z).preset)
            (bind (λ e. pure (Of e)) {o = s.value columns inside (t.expression columns e z)} (value_read inside n left e it has z bare ends) refl);
      }
