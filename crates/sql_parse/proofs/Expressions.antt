-- Every expression, as it is spelled, is read.
use Rattle.std.proofs.Common.{◌≡◌, ℕ, ◌+◌, ◌<◌, ◌≤◌, max, true, false, List, [], ◌∷◌, length, map, Option, Some, None, refl, ap, sym, subst, ◌∙◌, arith}
use Rattle.std.specs.Prelude.{codes, fold, slice_get}
use Rattle.std.specs.List.{AllByRecursion}
use Rattle.request_types.specs.declared.filters.FilterOp.{FilterOp}
use Rattle.request_types.specs.declared.filters.FilterOp.TheVariants as ops
use Rattle.row_types.specs.declared.columns.Column.{Column}
use Rattle.row_types.specs.declared.columns.Kind.{Kind}
use Rattle.row_types.specs.declared.columns.Kind.TheVariants as kinds
use Rattle.row_types.specs.declared.values.Value.{Value}
use Rattle.row_types.specs.Valid.{is_name}
use Rattle.sql_value.specs.declared.exprs.ArithOp.{ArithOp}
use Rattle.sql_value.specs.declared.exprs.ArithOp.TheVariants.{Sum, Difference, Product}
use Rattle.sql_value.specs.declared.exprs.Expr.{Expr, roll-Expr, map-Expr}
use Rattle.sql_value.specs.declared.exprs.Expr.TheOpen.{Expr-F}
use Rattle.sql_value.specs.declared.exprs.Expr.TheFolds.{ind-Expr}
use Rattle.sql_value.specs.declared.exprs.Expr.TheVariants as exprs
use Rattle.sql_value.specs.declared.kinds.ExprKind.{ExprKind}
use Rattle.sql_value.specs.declared.kinds.ExprKind.TheVariants.{Condition, Number, Text, Null}
use Rattle.sql_value.specs.Kinds.{kind_of_cells, kind_of_value, kind_at, alike, logical, part_kind, kind_of}
use Rattle.sql_parse.specs.declared.token_kinds.TokenKind.TheVariants as k
use Rattle.sql_parse.specs.Names.{column_place}
use Rattle.sql_parse.specs.Standing.{are_all}
use Rattle.sql_parse.specs.Spelling.{Front, ◌<+>◌, parens, sign, comparison, part, expression, name_in, part_depth, depth, part_nesting, nesting, part_written, is_written}
use Rattle.sql_parse.proofs.Cases.{and_true, some_same, get_within}
use Rattle.sql_parse.proofs.Parts.{fold-Literal, fold-Column, fold-Negate, fold-Arith, fold-Compare, fold-IsNull, fold-InList, fold-Not, fold-And, fold-Or}
use Rattle.sql_parse.proofs.Fixed.{plus_token, minus_token, equal_token, not_equal_token, less_token, less_equal_token, greater_token, greater_equal_token}
use Rattle.sql_parse.proofs.Sorts.{is_condition, of_numeric, of_alike, of_logical}
use Rattle.sql_parse.proofs.Told.{IsTold, told_sum, told_product, told_comparison, told_and, told_or, told_null, told_not, told_negation}
use Rattle.sql_parse.proofs.Listed.{IsSaid, told_list}
use Rattle.sql_parse.proofs.Leaves.{told_literal, told_column}

sort_of_cells : (kind : Kind) → is_condition (kind_of_cells kind) ≡ false
sort_of_cells kinds.Int = refl
sort_of_cells (kinds.Bytes most) = refl

only_condition : (gives : ExprKind) → is_condition gives ≡ true → gives ≡ Condition
only_condition Condition e = refl
only_condition Number e = absurd cc
only_condition Text e = absurd cc
only_condition Null e = absurd cc

-- What the list of an IN gives: each value goes with the one before IN.
pub record Lists (a first : Option ExprKind) (ks : List (Option ExprKind)) (gives : ExprKind) : Type 0 where
  pub begins : ExprKind
  pub begins_is : first ≡ Some begins
  pub each : AllByRecursion (λ b. (g : ExprKind) × (alike a b ≡ Some g)) ks
  pub ends : is_condition begins ≡ true → gives ≡ Condition

pub lists_on : (a first : Option ExprKind) (ks : List (Option ExprKind)) (gives : ExprKind) → fold (λ kind b. logical kind (alike a b)) first ks ≡ Some gives → Lists a first ks gives
lists_on a first [] gives is = record { begins = gives; begins_is = is; each = tt; ends = only_condition gives }
lists_on a first (b ∷ bs) gives is =
    let rest = lists_on a (logical first (alike a b)) bs gives is in
    let m = of_logical first (alike a b) rest.begins rest.begins_is in
    record {
      begins = m.left;
      begins_is = m.left_is;
      each = ((m.right, m.right_is), rest.each);
      ends = λ _. rest.ends (ap is_condition m.kind_is);
    }

-- A column of the one list is one of the other.
pub column_within : (named : List Column) (place : ℕ) (gives : ExprKind) → kind_at named place ≡ Some gives → (place < length named) × (is_condition gives ≡ false)
column_within named place gives is = go (slice_get named place) refl where
  go : (at : Option Column) → slice_get named place ≡ at → (place < length named) × (is_condition gives ≡ false)
  go None at = absurd (let e : kind_at named place ≡ None = rw at refl in cc)
  go (Some c) at =
      let e : kind_at named place ≡ Some (kind_of_cells c.kind) = rw at refl in
      let same : gives ≡ kind_of_cells c.kind = some_same gives (kind_of_cells c.kind) (sym is ∙ e) in
      (get_within named place c at, ap is_condition same ∙ sort_of_cells c.kind)

module _ (named columns : List Column) where
  abbrev pub IsReadable : Expr → Type 0
  IsReadable e = (gives : ExprKind) → kind_of named e ≡ Some gives → is_written e ≡ true → IsTold columns (expression columns e) e (depth e) (nesting e) gives

  -- The same by equal texts, depths and nestings.
  moved : (e : Expr) (gives made : ExprKind) (text : Front) (deep nests : ℕ) → expression columns e ≡ text → depth e ≡ deep → nesting e ≡ nests → gives ≡ made → IsTold columns text e deep nests made → IsTold columns (expression columns e) e (depth e) (nesting e) gives
  moved e gives made text deep nests te de ne ge told =
      subst (λ t. IsTold columns t e (depth e) (nesting e) gives) (sym te)
      (subst (λ d. IsTold columns text e d (nesting e) gives) (sym de)
      (subst (λ m. IsTold columns text e deep m gives) (sym ne)
      (subst (λ g. IsTold columns text e deep nests g) (sym ge) told)))

  literal_case : (v : Value) → IsReadable (exprs.Literal v)
  literal_case v gives kind written =
      moved (exprs.Literal v) gives (kind_of_value v) _ _ _ (fold-Literal (part columns) v) (fold-Literal part_depth v) (fold-Literal part_nesting v)
      (some_same gives (kind_of_value v) (sym kind ∙ fold-Literal (part_kind named) v))
      (told_literal columns v (sym (fold-Literal part_written v) ∙ written))

  negate_case : (a : Expr) → IsReadable a → IsReadable (exprs.Negate a)
  negate_case a pa gives kind written =
      let m = of_numeric (kind_of named a) (kind_of named a) gives (sym (fold-Negate (part_kind named) a) ∙ kind) in
      moved (exprs.Negate a) gives Number _ _ _ (fold-Negate (part columns) a) (fold-Negate part_depth a) (fold-Negate part_nesting a) m.kind_is
      (told_negation columns (expression columns a) a (depth a) (nesting a) m.left (pa m.left m.left_is (sym (fold-Negate part_written a) ∙ written)) m.left_sort)

  arith_told : (op : ArithOp) (a b : Expr) (ka kb : ExprKind) → IsTold columns (expression columns a) a (depth a) (nesting a) ka → IsTold columns (expression columns b) b (depth b) (nesting b) kb → is_condition ka ≡ false → is_condition kb ≡ false
      → IsTold columns (parens (expression columns a) <+> sign op <+> parens (expression columns b)) (exprs.Arith op a b) (max (depth a) (depth b) + 1) (max (nesting a) (nesting b) + 1) Number
  arith_told Sum a b ka kb ta tb = told_sum columns (expression columns a) (expression columns b) a b (depth a) (depth b) (nesting a) (nesting b) ka kb ta tb Sum k.Plus (codes "+") plus_token (λ schema more i. refl) refl refl
  arith_told Difference a b ka kb ta tb = told_sum columns (expression columns a) (expression columns b) a b (depth a) (depth b) (nesting a) (nesting b) ka kb ta tb Difference k.Minus (codes "-") minus_token (λ schema more i. refl) refl refl
  arith_told Product a b ka kb ta tb = told_product columns (expression columns a) (expression columns b) a b (depth a) (depth b) (nesting a) (nesting b) ka kb ta tb

  arith_case : (op : ArithOp) (a b : Expr) → IsReadable a → IsReadable b → IsReadable (exprs.Arith op a b)
  arith_case op a b pa pb gives kind written =
      let m = of_numeric (kind_of named a) (kind_of named b) gives (sym (fold-Arith (part_kind named) op a b) ∙ kind) in
      let w = and_true (is_written a) (is_written b) (sym (fold-Arith part_written op a b) ∙ written) in
      moved (exprs.Arith op a b) gives Number _ _ _ (fold-Arith (part columns) op a b) (fold-Arith part_depth op a b) (fold-Arith part_nesting op a b) m.kind_is
      (arith_told op a b m.left m.right (pa m.left m.left_is w.0) (pb m.right m.right_is w.1) m.left_sort m.right_sort)

  compare_told : (op : FilterOp) (a b : Expr) (ka kb : ExprKind) → IsTold columns (expression columns a) a (depth a) (nesting a) ka → IsTold columns (expression columns b) b (depth b) (nesting b) kb → is_condition ka ≡ false → is_condition kb ≡ false
      → IsTold columns (parens (expression columns a) <+> comparison op <+> parens (expression columns b)) (exprs.Compare op a b) (max (depth a) (depth b) + 1) (max (nesting a) (nesting b) + 1) Condition
  compare_told ops.Equal a b ka kb ta tb = told_comparison columns (expression columns a) (expression columns b) a b (depth a) (depth b) (nesting a) (nesting b) ka kb ta tb ops.Equal k.Equal (codes "=") equal_token (λ schema more i. refl) refl refl (λ inner t i. refl)
  compare_told ops.NotEqual a b ka kb ta tb = told_comparison columns (expression columns a) (expression columns b) a b (depth a) (depth b) (nesting a) (nesting b) ka kb ta tb ops.NotEqual k.NotEqual (codes "<>") not_equal_token (λ schema more i. refl) refl refl (λ inner t i. refl)
  compare_told ops.Less a b ka kb ta tb = told_comparison columns (expression columns a) (expression columns b) a b (depth a) (depth b) (nesting a) (nesting b) ka kb ta tb ops.Less k.Less (codes "<") less_token (λ schema more i. refl) refl refl (λ inner t i. refl)
  compare_told ops.LessEqual a b ka kb ta tb = told_comparison columns (expression columns a) (expression columns b) a b (depth a) (depth b) (nesting a) (nesting b) ka kb ta tb ops.LessEqual k.LessEqual (codes "<=") less_equal_token (λ schema more i. refl) refl refl (λ inner t i. refl)
  compare_told ops.Greater a b ka kb ta tb = told_comparison columns (expression columns a) (expression columns b) a b (depth a) (depth b) (nesting a) (nesting b) ka kb ta tb ops.Greater k.Greater (codes ">") greater_token (λ schema more i. refl) refl refl (λ inner t i. refl)
  compare_told ops.GreaterEqual a b ka kb ta tb = told_comparison columns (expression columns a) (expression columns b) a b (depth a) (depth b) (nesting a) (nesting b) ka kb ta tb ops.GreaterEqual k.GreaterEqual (codes ">=") greater_equal_token (λ schema more i. refl) refl refl (λ inner t i. refl)

  compare_case : (op : FilterOp) (a b : Expr) → IsReadable a → IsReadable b → IsReadable (exprs.Compare op a b)
  compare_case op a b pa pb gives kind written =
      let m = of_alike (kind_of named a) (kind_of named b) gives (sym (fold-Compare (part_kind named) op a b) ∙ kind) in
      let w = and_true (is_written a) (is_written b) (sym (fold-Compare part_written op a b) ∙ written) in
      moved (exprs.Compare op a b) gives Condition _ _ _ (fold-Compare (part columns) op a b) (fold-Compare part_depth op a b) (fold-Compare part_nesting op a b) m.kind_is
      (compare_told op a b m.left m.right (pa m.left m.left_is w.0) (pb m.right m.right_is w.1) m.left_sort m.right_sort)

  null_case : (a : Expr) → IsReadable a → IsReadable (exprs.IsNull a)
  null_case a pa gives kind written =
      let m = of_alike (kind_of named a) (kind_of named a) gives (sym (fold-IsNull (part_kind named) a) ∙ kind) in
      moved (exprs.IsNull a) gives Condition _ _ _ (fold-IsNull (part columns) a) (fold-IsNull part_depth a) (fold-IsNull part_nesting a) m.kind_is
      (told_null columns (expression columns a) a (depth a) (nesting a) m.left (pa m.left m.left_is (sym (fold-IsNull part_written a) ∙ written)) m.left_sort)

  not_case : (a : Expr) → IsReadable a → IsReadable (exprs.Not a)
  not_case a pa gives kind written =
      let m = of_logical (kind_of named a) (kind_of named a) gives (sym (fold-Not (part_kind named) a) ∙ kind) in
      moved (exprs.Not a) gives Condition _ _ _ (fold-Not (part columns) a) (fold-Not part_depth a) (fold-Not part_nesting a) m.kind_is
      (told_not columns (expression columns a) a (depth a) (nesting a) m.left (pa m.left m.left_is (sym (fold-Not part_written a) ∙ written)) m.left_sort)

  and_case : (a b : Expr) → IsReadable a → IsReadable b → IsReadable (exprs.And a b)
  and_case a b pa pb gives kind written =
      let m = of_logical (kind_of named a) (kind_of named b) gives (sym (fold-And (part_kind named) a b) ∙ kind) in
      let w = and_true (is_written a) (is_written b) (sym (fold-And part_written a b) ∙ written) in
      moved (exprs.And a b) gives Condition _ _ _ (fold-And (part columns) a b) (fold-And part_depth a b) (fold-And part_nesting a b) m.kind_is
      (told_and columns (expression columns a) (expression columns b) a b (depth a) (depth b) (nesting a) (nesting b) m.left m.right (pa m.left m.left_is w.0) (pb m.right m.right_is w.1) m.left_sort m.right_sort)

  or_case : (a b : Expr) → IsReadable a → IsReadable b → IsReadable (exprs.Or a b)
  or_case a b pa pb gives kind written =
      let m = of_logical (kind_of named a) (kind_of named b) gives (sym (fold-Or (part_kind named) a b) ∙ kind) in
      let w = and_true (is_written a) (is_written b) (sym (fold-Or part_written a b) ∙ written) in
      moved (exprs.Or a b) gives Condition _ _ _ (fold-Or (part columns) a b) (fold-Or part_depth a b) (fold-Or part_nesting a b) m.kind_is
      (told_or columns (expression columns a) (expression columns b) a b (depth a) (depth b) (nesting a) (nesting b) m.left m.right (pa m.left m.left_is w.0) (pb m.right m.right_is w.1) m.left_sort m.right_sort)

  -- An expression, and that it can be read.
  abbrev Readable : Type 0
  Readable = (e : Expr) × IsReadable e

  said : (ka : Option ExprKind) (all : List Readable) → AllByRecursion (λ b. (g : ExprKind) × (alike ka b ≡ Some g)) (map (kind_of named) (map (λ r. r.0) all)) → are_all (map is_written (map (λ r. r.0) all)) ≡ true → AllByRecursion (IsSaid columns) (map (λ r. r.0) all)
  said ka [] each written = tt
  said ka (r ∷ rs) each written =
      let m = of_alike ka (kind_of named r.0) each.0.0 each.0.1 in
      let w = and_true (is_written r.0) (are_all (map is_written (map (λ r. r.0) rs))) written in
      (record { gives = m.right; told = r.1 m.right m.right_is w.0; sort = m.right_sort }, said ka rs each.1 w.1)

  list_case : (a : Expr) → IsReadable a → (all : List Readable) → IsReadable (exprs.InList a (map (λ r. r.0) all))
  list_case a pa [] gives kind written = absurd (let w = and_true (is_written a) false (sym (fold-InList part_written a []) ∙ written) in let e = w.1 in cc)
  list_case a pa (r ∷ rs) gives kind written =
      let xs = map (λ (r : Readable). r.0) (r ∷ rs) in
      let ka = kind_of named a in
      let lists = lists_on ka (alike ka ka) (map (kind_of named) xs) gives (sym (fold-InList (part_kind named) a xs) ∙ kind) in
      let m = of_alike ka ka lists.begins lists.begins_is in
      let w = and_true (is_written a) (are_all (map is_written xs)) (sym (fold-InList part_written a xs) ∙ written) in
      moved (exprs.InList a xs) gives Condition _ _ _ (fold-InList (part columns) a xs) (fold-InList part_depth a xs) (fold-InList part_nesting a xs) (lists.ends (ap is_condition m.kind_is))
      (told_list columns (expression columns a) a (depth a) (nesting a) m.left (pa m.left m.left_is w.0) r.0 (map (λ r. r.0) rs) (said ka (r ∷ rs) lists.each w.1) m.left_sort)

  module _ (some : length named ≤ length columns)
      (is_named : (place : ℕ) → place < length columns → is_name (name_in (slice_get columns place)) ≡ true)
      (found : (place : ℕ) → place < length columns → column_place columns (name_in (slice_get columns place)) ≡ place) where
    column_case : (place : ℕ) → IsReadable (exprs.Column place)
    column_case place gives kind written =
        let is = column_within named place gives (sym (fold-Column (part_kind named) place) ∙ kind) in
        let within : place < length columns = omega (arith, is.0, some) in
        moved (exprs.Column place) gives gives _ _ _ (fold-Column (part columns) place) (fold-Column part_depth place) (fold-Column part_nesting place) refl
        (told_column columns place gives is.1 (is_named place within) (found place within))

    by_part : (y : Expr-F Readable) → IsReadable (roll-Expr (map-Expr Readable Expr (λ r. r.0) y))
    by_part (Expr-F.Literal v) = subst IsReadable (sym (exprs.rolls-Literal v)) (literal_case v)
    by_part (Expr-F.Column place) = subst IsReadable (sym (exprs.rolls-Column place)) (column_case place)
    by_part (Expr-F.Negate a) = subst IsReadable (sym (exprs.rolls-Negate a.0)) (negate_case a.0 a.1)
    by_part (Expr-F.Arith op a b) = subst IsReadable (sym (exprs.rolls-Arith op a.0 b.0)) (arith_case op a.0 b.0 a.1 b.1)
    by_part (Expr-F.Compare op a b) = subst IsReadable (sym (exprs.rolls-Compare op a.0 b.0)) (compare_case op a.0 b.0 a.1 b.1)
    by_part (Expr-F.IsNull a) = subst IsReadable (sym (exprs.rolls-IsNull a.0)) (null_case a.0 a.1)
    by_part (Expr-F.InList a all) = subst IsReadable (sym (exprs.rolls-InList a.0 (map (λ r. r.0) all))) (list_case a.0 a.1 all)
    by_part (Expr-F.Not a) = subst IsReadable (sym (exprs.rolls-Not a.0)) (not_case a.0 a.1)
    by_part (Expr-F.And a b) = subst IsReadable (sym (exprs.rolls-And a.0 b.0)) (and_case a.0 b.0 a.1 b.1)
    by_part (Expr-F.Or a b) = subst IsReadable (sym (exprs.rolls-Or a.0 b.0)) (or_case a.0 b.0 a.1 b.1)

    pub readable : (e : Expr) → IsReadable e
    readable = ind-Expr IsReadable (λ x y is. subst (λ z. IsReadable (roll-Expr z)) is (by_part y))
