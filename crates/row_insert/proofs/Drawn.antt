-- The row that comes once a number was drawn for it.
--     counted_within      the counted column is one of the columns
--     stays_undrawn      a row with a number there
--     coming_kinds      each value is of its column's kind
use Rattle.std.proofs.Common.{◌≡◌, ◌≢◌, ℕ, suc, ◌+◌, ◌<◌, ◌^◌, ℤ, pos, Bool, true, false, cond, not, ◌||◌, List, [], ◌∷◌, length, get_or, set, Option, Some, None, Result, Ok, Err, refl, ap, subst, arith}
use Rattle.std.specs.Prelude.{nat_lt}
use Rattle.std.specs.List.{AllByRecursion, position_from}
use Rattle.std.proofs.lemmas.List.Elements.{All-from_recursion}
use Rattle.row_types.specs.declared.values.Value.{Value}
use Rattle.row_types.specs.declared.values.Value.TheVariants as values
use Rattle.row_types.specs.declared.columns.Kind.{Kind}
use Rattle.row_types.specs.declared.columns.Kind.TheVariants.{Int, Bytes}
use Rattle.row_types.specs.declared.columns.Column.{Column}
use Rattle.row_types.specs.declared.columns.Fit.TheVariants.{WrongKind}
use Rattle.row_types.specs.Counted.{counted_of, counts, may_count}
use Rattle.row_types.specs.Fit.{kind_fit}
use Rattle.row_types.specs.Valid.{IsColumn}
use Rattle.request_types.specs.declared.codes.Code.{Code}
use Rattle.request_types.specs.declared.codes.Code.TheVariants.{Range}
use Rattle.table_rows.specs.Entries.{cell_at}
use Rattle.table_rows.proofs.States.{zip_set, zip_long}
use Rattle.row_insert.specs.declared.drawing.Arrival.{Arrival}
use Rattle.row_insert.specs.Draw.{is_drawn, as_it_is, with_number, coming}
use Rattle.row_insert.specs.Refusal.{IsOfKinds}

-- a column that stands for none
abbrev no_column : Column
no_column = record { name = []; kind = Int; null = false; auto = false; preset = values.Null }

-- a place where a counted column stands
pub record IsCounted (columns : List Column) (place : ℕ) : Type 0 where
  pub within : place < length columns
  pub auto : (get_or columns place no_column).auto ≡ true

counted_from : (first : ℕ) (columns : List Column) (place : ℕ) → position_from (λ (c : Column). c.auto) first columns ≡ Some place → (k : ℕ) × (place ≡ first + k) × IsCounted columns k
counted_from first [] place is = absurd cc
counted_from first (c ∷ cs) place is = by (counted_from (first + 1) cs place) c.auto refl is
  where
    by : (position_from (λ (d : Column). d.auto) (first + 1) cs ≡ Some place → (k : ℕ) × (place ≡ first + 1 + k) × IsCounted cs k) → (b : Bool) → c.auto ≡ b → cond b (Some first) (position_from (λ (d : Column). d.auto) (first + 1) cs) ≡ Some place → (k : ℕ) × (place ≡ first + k) × IsCounted (c ∷ cs) k
    by later true auto is =
        let same : first ≡ place = cc in
        (0, omega (arith, same), record { within = omega arith; auto = auto })
    by later false auto is =
        let rest = later is in
        (suc rest.0, omega (arith, rest.1), record { within = omega (arith, rest.2.within); auto = rest.2.auto })

pub counted_is : (columns : List Column) (place : ℕ) → counted_of columns ≡ Some place → IsCounted columns place
counted_is columns place is =
    let found = counted_from 0 columns place is in
    let same : found.0 ≡ place = omega (arith, found.1) in
    subst (IsCounted columns) same found.2

pub counted_within : (columns : List Column) (row : List Value) (place : ℕ) → length row ≡ length columns → counted_of columns ≡ Some place → place < length row
counted_within columns row place long is = omega (arith, long, (counted_is columns place is).within)

-- a row of kinds has a value for each column
pub kinds_long : (columns : List Column) (row : List Value) → IsOfKinds columns row → length columns ≡ length row
kinds_long columns row kinds = zip_long (λ (column : Column) (value : Value). kind_fit column.kind value ≢ WrongKind) columns row kinds

-- a row that has a number there stays as it is
pub stays_undrawn : (counted : Option ℕ) (column counter : ℕ) (row : List Value) → counted ≡ Some column → is_drawn (cell_at row column) ≡ false → coming counted counter row ≡ as_it_is row
stays_undrawn counted column counter row is undrawn = rw (is, undrawn) refl

-- it is one of integers
counted_kind : (kind : Kind) (null : Bool) (preset : Value) (number : ℤ) → counts kind null preset ≡ true → kind_fit kind (values.Int number) ≢ WrongKind
counted_kind Int null preset number fine = λ wrong. cc
counted_kind (Bytes most) null preset number fine = absurd cc

auto_kind : (c : Column) (number : ℤ) → c.auto ≡ true → may_count c ≡ true → kind_fit c.kind (values.Int number) ≢ WrongKind
auto_kind c number auto fine = counted_kind c.kind c.null c.preset number (by c.auto auto fine)
  where
    by : (b : Bool) → b ≡ true → (not b || counts c.kind c.null c.preset) ≡ true → counts c.kind c.null c.preset ≡ true
    by true auto fine = fine
    by false auto fine = absurd cc

row_of : (row : List Value) (number : Option ℤ) (come : Arrival) → (let r : Result Arrival Code = Ok (record { row = row; number = number }) in r) ≡ Ok come → row ≡ come.row
row_of row number come is = ap (λ (c : Arrival). c.row) (came (record { row = row; number = number }) come is)
  where
    came : (a b : Arrival) → (let r : Result Arrival Code = Ok a in r) ≡ Ok b → a ≡ b
    came a b is = cc

module _ (columns : List Column) (each : AllByRecursion IsColumn columns) (row : List Value) (kinds : IsOfKinds columns row) (counter : ℕ) (come : Arrival) where
  stays : as_it_is row ≡ Ok come → IsOfKinds columns come.row
  stays is = subst (IsOfKinds columns) (row_of row None come is) kinds

  drawn : (place : ℕ) → IsCounted columns place → (b : Bool) → cond b (Ok (record { row = set row place (values.Int (pos counter)); number = Some (pos counter) })) (Err Range) ≡ Ok come → IsOfKinds columns come.row
  drawn place counted true is =
      let fine = (All-from_recursion IsColumn columns each place no_column counted.within).counts in
      let new = auto_kind (get_or columns place no_column) (pos counter) counted.auto fine in
      subst (IsOfKinds columns) (row_of (set row place (values.Int (pos counter))) (Some (pos counter)) come is)
      (zip_set (λ (column : Column) (value : Value). kind_fit column.kind value ≢ WrongKind) columns row place no_column (values.Int (pos counter)) kinds new)
  drawn place counted false is = absurd cc

  by_place : (place : ℕ) → IsCounted columns place → (b : Bool) → cond b (with_number place counter row) (as_it_is row) ≡ Ok come → IsOfKinds columns come.row
  by_place place counted true is = drawn place counted (nat_lt counter (2 ^ 63)) is
  by_place place counted false is = stays is

  pub coming_kinds : (counted : Option ℕ) → counted_of columns ≡ counted → coming counted counter row ≡ Ok come → IsOfKinds columns come.row
  coming_kinds None same is = stays is
  coming_kinds (Some place) same is = by_place place (counted_is columns place same) (is_drawn (cell_at row place)) is
