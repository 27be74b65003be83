-- A condition that doesn't calculate with a column overflows on every row, or on none.
use Rattle.std.proofs.Common.{◌≡◌, ℕ, Bool, true, false, ◌||◌, List, [], ◌∷◌, map, fold, Option, Some, None, refl, sym, ap, ap₂, subst, ◌∙◌}
use Rattle.std.specs.List.{AllByRecursion}
use Rattle.std.proofs.lemmas.Bool.{true≢false}
use Rattle.row_types.specs.declared.values.Value.{Value as Cell}
use Rattle.row_types.specs.declared.values.Value.TheVariants.{Null, Int, Text}
use Rattle.request_types.specs.declared.filters.FilterOp.{FilterOp}
use Rattle.request_types.specs.declared.filters.FilterOp.TheVariants as ops
use Rattle.table_rows.specs.Entries.{Entry}
use Rattle.sql_value.specs.declared.exprs.ArithOp.{ArithOp}
use Rattle.sql_value.specs.declared.exprs.Expr.{Expr, roll-Expr, map-Expr}
use Rattle.sql_value.specs.declared.exprs.Expr.TheOpen.{Expr-F}
use Rattle.sql_value.specs.declared.exprs.Expr.TheFolds.{ind-Expr}
use Rattle.sql_value.specs.declared.exprs.Expr.TheVariants as exprs
use Rattle.sql_value.specs.declared.truths.Truth.TheVariants.{Yes, No}
use Rattle.sql_value.specs.declared.worth.Evaluated.{Evaluated}
use Rattle.sql_value.specs.declared.worth.Evaluated.TheVariants.{Truth, Value, Overflow}
use Rattle.sql_value.specs.Worth.{negated, combined, compared, null_test, opposite, both, either}
use Rattle.sql_value.specs.Eval.{part_of, is_among, eval_of}
use Rattle.sql_plan.specs.declared.contents.Contents.{Contents}
use Rattle.sql_plan.specs.Tests.{joined, contents_part, contents_of, calculates}
use Rattle.sql_plan.specs.Ranges.{is_overflow, overflows}
use Rattle.sql_plan.proofs.Parts.{fold-Literal, fold-Column, fold-Negate, fold-Arith, fold-Compare, fold-IsNull, fold-InList, fold-Not, fold-And, fold-Or}

neither : (a b : Bool) → (a || b) ≡ false → (a ≡ false) × (b ≡ false)
neither true b e = absurd (true≢false e)
neither false b e = (refl, e)

-- What is known of an expression's worth without its row: whether it is a truth, a value or an overflow.
abbrev shape : Evaluated → Evaluated
shape (Truth t) = Truth Yes
shape (Value v) = Value Null
shape Overflow = Overflow

compared_shape : (op : FilterOp) (x y : Evaluated) → shape (compared op x y) ≡ shape (compared op (shape x) (shape y))
compared_shape op (Truth s) (Truth t) = refl
compared_shape op (Truth s) (Value b) = refl
compared_shape op (Truth s) Overflow = refl
compared_shape op (Value a) (Truth t) = refl
compared_shape op (Value a) (Value b) = refl
compared_shape op (Value a) Overflow = refl
compared_shape op Overflow (Truth t) = refl
compared_shape op Overflow (Value b) = refl
compared_shape op Overflow Overflow = refl

null_shape : (x : Evaluated) → shape (null_test x) ≡ shape (null_test (shape x))
null_shape (Truth t) = refl
null_shape (Value Null) = refl
null_shape (Value (Int n)) = refl
null_shape (Value (Text t)) = refl
null_shape Overflow = refl

opposite_shape : (x : Evaluated) → shape (opposite x) ≡ shape (opposite (shape x))
opposite_shape (Truth t) = refl
opposite_shape (Value v) = refl
opposite_shape Overflow = refl

both_shape : (x y : Evaluated) → shape (both x y) ≡ shape (both (shape x) (shape y))
both_shape (Truth s) (Truth t) = refl
both_shape (Truth s) (Value b) = refl
both_shape (Truth s) Overflow = refl
both_shape (Value a) (Truth t) = refl
both_shape (Value a) (Value b) = refl
both_shape (Value a) Overflow = refl
both_shape Overflow (Truth t) = refl
both_shape Overflow (Value b) = refl
both_shape Overflow Overflow = refl

either_shape : (x y : Evaluated) → shape (either x y) ≡ shape (either (shape x) (shape y))
either_shape (Truth s) (Truth t) = refl
either_shape (Truth s) (Value b) = refl
either_shape (Truth s) Overflow = refl
either_shape (Value a) (Truth t) = refl
either_shape (Value a) (Value b) = refl
either_shape (Value a) Overflow = refl
either_shape Overflow (Truth t) = refl
either_shape Overflow (Value b) = refl
either_shape Overflow Overflow = refl

-- An operation whose outcome has a shape that the operands' shapes settle.
one_shape : (f : Evaluated → Evaluated) → ((x : Evaluated) → shape (f x) ≡ shape (f (shape x))) → (x y : Evaluated) → shape x ≡ shape y → shape (f x) ≡ shape (f y)
one_shape f settled x y same = settled x ∙ ap (λ (s : Evaluated). shape (f s)) same ∙ sym (settled y)

two_shapes : (f : Evaluated → Evaluated → Evaluated) → ((x y : Evaluated) → shape (f x y) ≡ shape (f (shape x) (shape y))) → (x y z w : Evaluated) → shape x ≡ shape z → shape y ≡ shape w → shape (f x y) ≡ shape (f z w)
two_shapes f settled x y z w first second = settled x y ∙ ap₂ (λ (s t : Evaluated). shape (f s t)) first second ∙ sym (settled z w)

-- The worth of an expression that names no column is the same on all rows, and its shape where it doesn't calculate with one.
record IsSteady (row other : List Cell) (e : Expr) : Type 0 where
  fixed : (contents_of e).columns ≡ false → eval_of row e ≡ eval_of other e
  shaped : (contents_of e).sums ≡ false → shape (eval_of row e) ≡ shape (eval_of other e)

module _ (row other : List Cell) where
  -- the same by what an expression holds and is worth
  steady : (e : Expr) (c : Contents) (x y : Evaluated) → contents_of e ≡ c → eval_of row e ≡ x → eval_of other e ≡ y → (c.columns ≡ false → x ≡ y) → (c.sums ≡ false → shape x ≡ shape y) → IsSteady row other e
  steady e c x y holds here there fixed shaped = record {
    fixed = λ none. here ∙ fixed (sym (ap (λ (k : Contents). k.columns) holds) ∙ none) ∙ sym there;
    shaped = λ none. ap shape here ∙ shaped (sym (ap (λ (k : Contents). k.sums) holds) ∙ none) ∙ ap shape (sym there);
  }

  literal_case : (v : Cell) → IsSteady row other (exprs.Literal v)
  literal_case v = steady (exprs.Literal v) _ _ _ (fold-Literal contents_part v) (fold-Literal (part_of row) v) (fold-Literal (part_of other) v) (λ none. refl) (λ none. refl)

  column_case : (place : ℕ) → IsSteady row other (exprs.Column place)
  column_case place = steady (exprs.Column place) _ _ _ (fold-Column contents_part place) (fold-Column (part_of row) place) (fold-Column (part_of other) place) (λ none. absurd (true≢false none)) (λ none. refl)

  negate_case : (a : Expr) → IsSteady row other a → IsSteady row other (exprs.Negate a)
  negate_case a pa =
      steady (exprs.Negate a) _ _ _ (fold-Negate contents_part a) (fold-Negate (part_of row) a) (fold-Negate (part_of other) a)
      (λ none. ap negated (pa.fixed none))
      (λ none. ap (λ (x : Evaluated). shape (negated x)) (pa.fixed (neither (contents_of a).columns (contents_of a).sums none).0))

  arith_case : (op : ArithOp) (a b : Expr) → IsSteady row other a → IsSteady row other b → IsSteady row other (exprs.Arith op a b)
  arith_case op a b pa pb =
      let parts = neither (contents_of a).columns (contents_of b).columns in
      steady (exprs.Arith op a b) _ _ _ (fold-Arith contents_part op a b) (fold-Arith (part_of row) op a b) (fold-Arith (part_of other) op a b)
      (λ none. ap₂ (combined op) (pa.fixed (parts none).0) (pb.fixed (parts none).1))
      (λ none. let columns = parts (neither ((contents_of a).columns || (contents_of b).columns) ((contents_of a).sums || (contents_of b).sums) none).0 in
      ap₂ (λ (x y : Evaluated). shape (combined op x y)) (pa.fixed columns.0) (pb.fixed columns.1))

  -- a part of two operands whose shape theirs settle
  joined_case : (e : Expr) (f : Evaluated → Evaluated → Evaluated) (a b : Expr) → contents_of e ≡ joined (contents_of a) (contents_of b) → eval_of row e ≡ f (eval_of row a) (eval_of row b) → eval_of other e ≡ f (eval_of other a) (eval_of other b)
      → ((x y : Evaluated) → shape (f x y) ≡ shape (f (shape x) (shape y))) → IsSteady row other a → IsSteady row other b → IsSteady row other e
  joined_case e f a b holds here there settled pa pb =
      steady e _ _ _ holds here there
      (λ none. let parts = neither (contents_of a).columns (contents_of b).columns none in ap₂ f (pa.fixed parts.0) (pb.fixed parts.1))
      (λ none. let parts = neither (contents_of a).sums (contents_of b).sums none in
      two_shapes f settled (eval_of row a) (eval_of row b) (eval_of other a) (eval_of other b) (pa.shaped parts.0) (pb.shaped parts.1))

  -- and one of one operand
  alone_case : (e : Expr) (f : Evaluated → Evaluated) (a : Expr) → contents_of e ≡ contents_of a → eval_of row e ≡ f (eval_of row a) → eval_of other e ≡ f (eval_of other a) → ((x : Evaluated) → shape (f x) ≡ shape (f (shape x))) → IsSteady row other a → IsSteady row other e
  alone_case e f a holds here there settled pa =
      steady e _ _ _ holds here there (λ none. ap f (pa.fixed none)) (λ none. one_shape f settled (eval_of row a) (eval_of other a) (pa.shaped none))

  -- An expression, and that it is steady.
  abbrev Steady : Type 0
  Steady = (e : Expr) × IsSteady row other e

  abbrev exprs_in : List Steady → List Expr
  exprs_in all = map (λ (s : Steady). s.0) all

  columns_none : (c : Contents) (all : List Steady) → (fold joined c (map contents_of (exprs_in all))).columns ≡ false → (c.columns ≡ false) × AllByRecursion (λ (s : Steady). (contents_of s.0).columns ≡ false) all
  columns_none c [] none = (none, tt)
  columns_none c (s ∷ all) none =
      let rest = columns_none (joined c (contents_of s.0)) all none in
      let here = neither c.columns (contents_of s.0).columns rest.0 in
      (here.0, (here.1, rest.1))

  sums_none : (c : Contents) (all : List Steady) → (fold joined c (map contents_of (exprs_in all))).sums ≡ false → (c.sums ≡ false) × AllByRecursion (λ (s : Steady). (contents_of s.0).sums ≡ false) all
  sums_none c [] none = (none, tt)
  sums_none c (s ∷ all) none =
      let rest = sums_none (joined c (contents_of s.0)) all none in
      let here = neither c.sums (contents_of s.0).sums rest.0 in
      (here.0, (here.1, rest.1))

  fixed_list : (all : List Steady) → AllByRecursion (λ (s : Steady). (contents_of s.0).columns ≡ false) all → map (eval_of row) (exprs_in all) ≡ map (eval_of other) (exprs_in all)
  fixed_list [] none = refl
  fixed_list (s ∷ all) none = ap₂ (λ (x : Evaluated) (xs : List Evaluated). x ∷ xs) (s.1.fixed none.0) (fixed_list all none.1)

  shaped_list : (x y found elsewhere : Evaluated) (all : List Steady) → shape x ≡ shape y → shape found ≡ shape elsewhere → AllByRecursion (λ (s : Steady). (contents_of s.0).sums ≡ false) all
      → shape (fold (λ f a. either f (compared ops.Equal x a)) found (map (eval_of row) (exprs_in all))) ≡ shape (fold (λ f a. either f (compared ops.Equal y a)) elsewhere (map (eval_of other) (exprs_in all)))
  shaped_list x y found elsewhere [] same begun none = begun
  shaped_list x y found elsewhere (s ∷ all) same begun none =
      let a = eval_of row s.0 in
      let b = eval_of other s.0 in
      shaped_list x y (either found (compared ops.Equal x a)) (either elsewhere (compared ops.Equal y b)) all same
      (two_shapes either either_shape found (compared ops.Equal x a) elsewhere (compared ops.Equal y b) begun (two_shapes (compared ops.Equal) (compared_shape ops.Equal) x a y b same (s.1.shaped none.0))) none.1

  list_case : (a : Expr) → IsSteady row other a → (all : List Steady) → IsSteady row other (exprs.InList a (exprs_in all))
  list_case a pa all =
      steady (exprs.InList a (exprs_in all)) _ _ _ (fold-InList contents_part a (exprs_in all)) (fold-InList (part_of row) a (exprs_in all)) (fold-InList (part_of other) a (exprs_in all))
      (λ none. let parts = columns_none (contents_of a) all none in ap₂ is_among (pa.fixed parts.0) (fixed_list all parts.1))
      (λ none. let parts = sums_none (contents_of a) all none in shaped_list (eval_of row a) (eval_of other a) (Truth No) (Truth No) all (pa.shaped parts.0) refl parts.1)

  by_part : (y : Expr-F Steady) → IsSteady row other (roll-Expr (map-Expr Steady Expr (λ s. s.0) y))
  by_part (Expr-F.Literal v) = subst (IsSteady row other) (sym (exprs.rolls-Literal v)) (literal_case v)
  by_part (Expr-F.Column place) = subst (IsSteady row other) (sym (exprs.rolls-Column place)) (column_case place)
  by_part (Expr-F.Negate a) = subst (IsSteady row other) (sym (exprs.rolls-Negate a.0)) (negate_case a.0 a.1)
  by_part (Expr-F.Arith op a b) = subst (IsSteady row other) (sym (exprs.rolls-Arith op a.0 b.0)) (arith_case op a.0 b.0 a.1 b.1)
  by_part (Expr-F.Compare op a b) =
      subst (IsSteady row other) (sym (exprs.rolls-Compare op a.0 b.0))
      (joined_case (exprs.Compare op a.0 b.0) (compared op) a.0 b.0 (fold-Compare contents_part op a.0 b.0) (fold-Compare (part_of row) op a.0 b.0) (fold-Compare (part_of other) op a.0 b.0) (compared_shape op) a.1 b.1)
  by_part (Expr-F.IsNull a) =
      subst (IsSteady row other) (sym (exprs.rolls-IsNull a.0))
      (alone_case (exprs.IsNull a.0) null_test a.0 (fold-IsNull contents_part a.0) (fold-IsNull (part_of row) a.0) (fold-IsNull (part_of other) a.0) null_shape a.1)
  by_part (Expr-F.InList a all) = subst (IsSteady row other) (sym (exprs.rolls-InList a.0 (exprs_in all))) (list_case a.0 a.1 all)
  by_part (Expr-F.Not a) =
      subst (IsSteady row other) (sym (exprs.rolls-Not a.0))
      (alone_case (exprs.Not a.0) opposite a.0 (fold-Not contents_part a.0) (fold-Not (part_of row) a.0) (fold-Not (part_of other) a.0) opposite_shape a.1)
  by_part (Expr-F.And a b) =
      subst (IsSteady row other) (sym (exprs.rolls-And a.0 b.0))
      (joined_case (exprs.And a.0 b.0) both a.0 b.0 (fold-And contents_part a.0 b.0) (fold-And (part_of row) a.0 b.0) (fold-And (part_of other) a.0 b.0) both_shape a.1 b.1)
  by_part (Expr-F.Or a b) =
      subst (IsSteady row other) (sym (exprs.rolls-Or a.0 b.0))
      (joined_case (exprs.Or a.0 b.0) either a.0 b.0 (fold-Or contents_part a.0 b.0) (fold-Or (part_of row) a.0 b.0) (fold-Or (part_of other) a.0 b.0) either_shape a.1 b.1)

  all_steady : (e : Expr) → IsSteady row other e
  all_steady = ind-Expr (IsSteady row other) (λ x y is. subst (λ z. IsSteady row other (roll-Expr z)) is (by_part y))

overflow_shape : (x : Evaluated) → is_overflow x ≡ is_overflow (shape x)
overflow_shape (Truth t) = refl
overflow_shape (Value v) = refl
overflow_shape Overflow = refl

pub unvarying : (condition : Option Expr) → calculates condition ≡ false → (a b : Entry) → overflows condition a ≡ overflows condition b
unvarying None plain a b = refl
unvarying (Some e) plain a b =
    overflow_shape (eval_of a.0 e) ∙ ap is_overflow ((all_steady a.0 b.0 e).shaped plain) ∙ sym (overflow_shape (eval_of b.0 e))
