-- The table of the examples, and finds that fit it.
use Rattle.std.proofs.Common.{◌≡◌, ◌⊎◌, inl, inr, ℕ, zero, suc, ◌<◌, ◌≤◌, List, [], ◌∷◌, length, Option, Some, None, refl, sym, ap, subst, arith}
use Rattle.std.specs.Prelude.{IsSomeAnd, IfSome, slice_get}
use Rattle.std.specs.List.{AllByRecursion}
use Rattle.std.proofs.lemmas.List.Elements.{All-from_recursion}
use Rattle.row_types.specs.declared.values.Value.{Value}
use Rattle.row_types.specs.declared.values.Value.TheVariants.{Null, Int, Text}
use Rattle.row_types.specs.declared.columns.Kind.TheVariants as kinds
use Rattle.row_types.specs.declared.indexes.IndexDef.{IndexDef}
use Rattle.row_types.specs.declared.tables.TableDef.{TableDef}
use Rattle.row_types.specs.declared.tables.Schema.{Schema}
use Rattle.row_types.specs.Valid.{IsValid}
use Rattle.index_tree.proofs.Elements.{all_weaker}
use Rattle.request_types.specs.declared.filters.FilterSpec.{FilterSpec}
use Rattle.request_types.specs.declared.finds.InSpec.{InSpec}
use Rattle.request_types.specs.declared.finds.FindSpec.{FindSpec}
use Rattle.request_types.specs.Fits.{IsOfKind, IsAt, AreAt, AreNumbers, KeyFits, ListFits, FindFitsTable, FindFits}
use Rattle.table_rows.specs.Indexes.{parts_at}
use Rattle.table_rows.specs.Rows.{State, columns_of}
use Rattle.find_scan.specs.Examples.{some_columns, some_indexes, some_schema, IsNumber, IsOnNumber, IsList, IsFind}

abbrev IsIntColumn : ℕ → Type 0
IsIntColumn n = (n ≡ 0) ⊎ (n ≡ 2)

number_is : (v : Value) → IsNumber v → IsOfKind kinds.Int v
number_is Null is = tt
number_is (Int n) is = is
number_is (Text t) is = absurd is

number_at : (n : ℕ) → IsIntColumn n → (v : Value) → IsNumber v → IsAt IsOfKind some_columns n v
number_at n (inl first) v is = subst (λ (k : ℕ). IsAt IsOfKind some_columns k v) (sym first) (number_is v is)
number_at n (inr last) v is = subst (λ (k : ℕ). IsAt IsOfKind some_columns k v) (sym last) (number_is v is)

numbers_at : (parts : List ℕ) → AllByRecursion IsIntColumn parts → (values : List Value) → AllByRecursion IsNumber values → length values ≤ length parts → AreAt IsOfKind some_columns parts values
numbers_at parts ints [] are short = tt
numbers_at [] ints (v ∷ values) are short = absurd (omega (arith, short))
numbers_at (p ∷ parts) ints (v ∷ values) are short = (number_at p ints.0 v are.0, numbers_at parts ints.1 values are.1 (omega (arith, short)))

module _ (spec : FindSpec) (is : IsFind spec) where
  list_fits : (parts : List ℕ) → AllByRecursion IsIntColumn parts → 1 ≤ length parts → (within : Option InSpec) → IfSome within (IsList spec) → IfSome within (ListFits some_columns parts spec)
  list_fits parts ints some None list = tt
  list_fits [] ints some (Some within) list = absurd (omega (arith, some))
  list_fits (p ∷ parts) ints some (Some within) list = record {
    equal = list.equal;
    part = omega (arith, list.part, is.some);
    some = list.some;
    values = All-from_recursion (λ v. IsSomeAnd (slice_get (p ∷ parts) within.part) (λ n. IsAt IsOfKind some_columns n v)) within.values
        (all_weaker IsNumber (λ v. IsSomeAnd (slice_get (p ∷ parts) within.part) (λ n. IsAt IsOfKind some_columns n v))
        (λ v number. subst (λ (k : ℕ). IsSomeAnd (slice_get (p ∷ parts) k) (λ n. IsAt IsOfKind some_columns n v)) (sym list.part) (number_at p ints.0 v number)) within.values list.values);
  }

  key_fits : (parts : List ℕ) → AllByRecursion IsIntColumn parts → 1 ≤ length parts → length spec.key ≤ length parts → KeyFits some_columns parts spec
  key_fits parts ints some most = record {
    some = is.some;
    most = most;
    key = numbers_at parts ints spec.key is.key most;
    within = list_fits parts ints some spec.within is.within;
  }

  index_fits : (index : ℕ) → index < 3 → length spec.key ≤ length (parts_at some_indexes index) → IsSomeAnd (slice_get some_indexes index) (λ (i : IndexDef). KeyFits some_columns i.parts spec)
  index_fits zero low most = key_fits (0 ∷ []) (inl refl, tt) (omega arith) most
  index_fits (suc zero) low most = key_fits (2 ∷ []) (inr refl, tt) (omega arith) most
  index_fits (suc (suc zero)) low most = key_fits (2 ∷ 0 ∷ []) (inr refl, (inl refl, tt)) (omega arith) most
  index_fits (suc (suc (suc index))) low most = absurd (omega (arith, low))

  filter_fits : (filter : FilterSpec) → IsOnNumber filter → IsAt IsOfKind some_columns filter.column filter.value
  filter_fits filter on = number_at filter.column on.column filter.value on.value

  -- a find of the tests fits the table
  pub find_fits : FindFits some_schema spec
  find_fits =
      subst (λ (k : ℕ). IsSomeAnd (slice_get some_schema.tables k) (λ (t : TableDef). FindFitsTable t spec)) (sym is.table) (record {
        index = index_fits spec.index is.index is.most;
        filters = All-from_recursion (λ (f : FilterSpec). IsAt IsOfKind some_columns f.column f.value) spec.filters
            (all_weaker IsOnNumber (λ (f : FilterSpec). IsAt IsOfKind some_columns f.column f.value) filter_fits spec.filters is.filters);
        columns = subst (AreNumbers some_columns) (sym is.columns) (record { within = All-from_recursion (λ n. n < 3) (0 ∷ []) (omega arith, tt); once = refl });
      })

pub some_schema_valid : IsValid some_schema
some_schema_valid = record {
  tables = (
    record {
      db = refl;
      name = refl;
      columns = record {
        each = (record { name = refl; kind = refl; preset = refl; held = tt; counts = refl }, (record { name = refl; kind = refl; preset = refl; held = tt; counts = refl }, (record { name = refl; kind = refl; preset = refl; held = tt; counts = refl }, tt)));
        some = omega arith;
        most = omega arith;
        names = refl;
        once = refl;
        rows = omega arith;
      };
      indexes = record {
        each = (record { name = refl; kind = refl; some_part = omega arith; most_parts = omega arith; within = refl; once = refl; never_null = refl }, (record { name = refl; kind = refl; some_part = omega arith; most_parts = omega arith; within = refl; once = refl; never_null = refl }, (record { name = refl; kind = refl; some_part = omega arith; most_parts = omega arith; within = refl; once = refl; never_null = refl }, tt)));
        most = omega arith;
        names = refl;
        primary = refl;
        led = refl;
      };
    },
    tt,
  );
  most = omega arith;
  names = refl;
}

pub play_columns : (state : State) → state.schema ≡ some_schema → columns_of state 0 ≡ some_columns
play_columns state same = ap (λ (s : Schema). columns_of (record { schema = s; bytes_max = 0; tables = [] }) 0) same
