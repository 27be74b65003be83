-- A statement that fits the schema names what is there, and is of the kinds that are asked for.
use Rattle.std.proofs.Common.{◌≡◌, ℕ, suc, ◌<◌, ◌≤◌, Bool, true, ◌&&◌, List, [], ◌∷◌, length, map, Option, Some, None, refl, ap, sym, subst, ◌∙◌, arith}
use Rattle.std.specs.Prelude.{nat_lt, slice_get, IfSome, IsSomeAnd}
use Rattle.std.specs.List.{list_all, All, AllByRecursion}
use Rattle.std.proofs.lemmas.Bool.{lt-ltb}
use Rattle.row_types.specs.declared.columns.Kind.{Kind}
use Rattle.row_types.specs.declared.columns.Kind.TheVariants as kinds
use Rattle.row_types.specs.declared.columns.Column.{Column}
use Rattle.sql_value.specs.declared.exprs.Expr.{Expr, roll-Expr, map-Expr}
use Rattle.sql_value.specs.declared.exprs.Expr.TheOpen.{Expr-F}
use Rattle.sql_value.specs.declared.exprs.Expr.TheFolds.{ind-Expr}
use Rattle.sql_value.specs.declared.exprs.Expr.TheVariants as exprs
use Rattle.sql_value.specs.declared.kinds.ExprKind.{ExprKind}
use Rattle.sql_value.specs.declared.kinds.ExprKind.TheVariants.{Condition, Number, Text, Null}
use Rattle.sql_value.specs.declared.orders.OrderKey.{OrderKey}
use Rattle.sql_value.specs.declared.changes.Cell.{Cell}
use Rattle.sql_value.specs.declared.changes.Cell.TheVariants.{Preset, Of}
use Rattle.sql_value.specs.Kinds.{kind_of_cells, alike, part_kind, kind_of}
use Rattle.sql_value.specs.Fits.{IsValue, IsOf, CellFits, GroupFits}
use Rattle.sql_parse.specs.Standing.{are_all, part_within, is_within, cell_within, condition_within, keys_within, rows_within}
use Rattle.sql_parse.specs.Fitting.{is_value, is_truth, goes_into, condition_fits, cell_into, cell_fits, group_fits}
use Rattle.sql_parse.proofs.Cases.{both_true}
use Rattle.sql_parse.proofs.Parts.{fold-Literal, fold-Column, fold-Negate, fold-Arith, fold-Compare, fold-IsNull, fold-InList, fold-Not, fold-And, fold-Or}
use Rattle.sql_parse.proofs.Sorts.{of_numeric, of_alike, of_logical}
use Rattle.sql_parse.proofs.Expressions.{lists_on, column_within}
use Rattle.sql_parse.proofs.Again.{get_some}
use Rattle.sql_parse.proofs.CellsAgain.{cell_gives}

-- Each item, one by one.
pub each_of : {A : Type 0} (P : A → Type 0) (xs : List A) → All P xs → AllByRecursion P xs
each_of P [] all = tt
each_of P (x ∷ xs) all = (all 0 x (omega arith), each_of P xs (λ n d lt. all (suc n) d (omega (arith, lt))))

-- What each item passes.
pub all_pass : {A : Type 0} (P : A → Type 0) (test : A → Bool) → ((x : A) → P x → test x ≡ true) → (xs : List A) → AllByRecursion P xs → list_all test xs ≡ true
all_pass P test f [] each = refl
all_pass P test f (x ∷ xs) each = both_true (test x) (list_all test xs) (f x each.0) (all_pass P test f xs each.1)

-- ---- what gives something names columns that are there

module _ (named : List Column) (most : ℕ) (some : length named ≤ most) where
  abbrev IsInside : Expr → Type 0
  IsInside e = (gives : ExprKind) → kind_of named e ≡ Some gives → is_within most e ≡ true

  abbrev Inside : Type 0
  Inside = (e : Expr) × IsInside e

  all_inside : (a : Option ExprKind) (all : List Inside) → AllByRecursion (λ b. (g : ExprKind) × (alike a b ≡ Some g)) (map (kind_of named) (map (λ r. r.0) all)) → are_all (map (is_within most) (map (λ r. r.0) all)) ≡ true
  all_inside a [] each = refl
  all_inside a (r ∷ rs) each =
      let m = of_alike a (kind_of named r.0) each.0.0 each.0.1 in
      both_true (is_within most r.0) (are_all (map (is_within most) (map (λ r. r.0) rs))) (r.1 m.right m.right_is) (all_inside a rs each.1)

  two_inside : (a b : Inside) (ka kb : ExprKind) → kind_of named a.0 ≡ Some ka → kind_of named b.0 ≡ Some kb → (is_within most a.0 && is_within most b.0) ≡ true
  two_inside a b ka kb is_a is_b = both_true (is_within most a.0) (is_within most b.0) (a.1 ka is_a) (b.1 kb is_b)

  inside_part : (y : Expr-F Inside) → IsInside (roll-Expr (map-Expr Inside Expr (λ r. r.0) y))
  inside_part (Expr-F.Literal v) = subst IsInside (sym (exprs.rolls-Literal v)) (λ gives kind. fold-Literal (part_within most) v)
  inside_part (Expr-F.Column place) = subst IsInside (sym (exprs.rolls-Column place)) (λ gives kind.
      let is = column_within named place gives (sym (fold-Column (part_kind named) place) ∙ kind) in
      fold-Column (part_within most) place ∙ lt-ltb place most (omega (arith, is.0, some)))
  inside_part (Expr-F.Negate a) = subst IsInside (sym (exprs.rolls-Negate a.0)) (λ gives kind.
      let m = of_numeric (kind_of named a.0) (kind_of named a.0) gives (sym (fold-Negate (part_kind named) a.0) ∙ kind) in
      fold-Negate (part_within most) a.0 ∙ a.1 m.left m.left_is)
  inside_part (Expr-F.Arith op a b) = subst IsInside (sym (exprs.rolls-Arith op a.0 b.0)) (λ gives kind.
      let m = of_numeric (kind_of named a.0) (kind_of named b.0) gives (sym (fold-Arith (part_kind named) op a.0 b.0) ∙ kind) in
      fold-Arith (part_within most) op a.0 b.0 ∙ two_inside a b m.left m.right m.left_is m.right_is)
  inside_part (Expr-F.Compare op a b) = subst IsInside (sym (exprs.rolls-Compare op a.0 b.0)) (λ gives kind.
      let m = of_alike (kind_of named a.0) (kind_of named b.0) gives (sym (fold-Compare (part_kind named) op a.0 b.0) ∙ kind) in
      fold-Compare (part_within most) op a.0 b.0 ∙ two_inside a b m.left m.right m.left_is m.right_is)
  inside_part (Expr-F.IsNull a) = subst IsInside (sym (exprs.rolls-IsNull a.0)) (λ gives kind.
      let m = of_alike (kind_of named a.0) (kind_of named a.0) gives (sym (fold-IsNull (part_kind named) a.0) ∙ kind) in
      fold-IsNull (part_within most) a.0 ∙ a.1 m.left m.left_is)
  inside_part (Expr-F.InList a all) = subst IsInside (sym (exprs.rolls-InList a.0 (map (λ r. r.0) all))) (λ gives kind.
      let ka = kind_of named a.0 in
      let xs = map (λ (r : Inside). r.0) all in
      let lists = lists_on ka (alike ka ka) (map (kind_of named) xs) gives (sym (fold-InList (part_kind named) a.0 xs) ∙ kind) in
      let m = of_alike ka ka lists.begins lists.begins_is in
      fold-InList (part_within most) a.0 xs ∙ both_true (is_within most a.0) (are_all (map (is_within most) xs)) (a.1 m.left m.left_is) (all_inside ka all lists.each))
  inside_part (Expr-F.Not a) = subst IsInside (sym (exprs.rolls-Not a.0)) (λ gives kind.
      let m = of_logical (kind_of named a.0) (kind_of named a.0) gives (sym (fold-Not (part_kind named) a.0) ∙ kind) in
      fold-Not (part_within most) a.0 ∙ a.1 m.left m.left_is)
  inside_part (Expr-F.And a b) = subst IsInside (sym (exprs.rolls-And a.0 b.0)) (λ gives kind.
      let m = of_logical (kind_of named a.0) (kind_of named b.0) gives (sym (fold-And (part_kind named) a.0 b.0) ∙ kind) in
      fold-And (part_within most) a.0 b.0 ∙ two_inside a b m.left m.right m.left_is m.right_is)
  inside_part (Expr-F.Or a b) = subst IsInside (sym (exprs.rolls-Or a.0 b.0)) (λ gives kind.
      let m = of_logical (kind_of named a.0) (kind_of named b.0) gives (sym (fold-Or (part_kind named) a.0 b.0) ∙ kind) in
      fold-Or (part_within most) a.0 b.0 ∙ two_inside a b m.left m.right m.left_is m.right_is)

  pub inside : (e : Expr) → IsInside e
  inside = ind-Expr IsInside (λ x y is. subst (λ z. IsInside (roll-Expr z)) is (inside_part y))

-- ---- the tests, by what they ask for

pub value_passes : (kind : Option ExprKind) → IsValue kind → is_value kind ≡ true
value_passes (Some Number) is = refl
value_passes (Some Text) is = refl
value_passes (Some Null) is = refl
value_passes (Some Condition) is = absurd is
value_passes None is = absurd is

into_passes : (kind : Kind) (given : Option ExprKind) → IsOf (kind_of_cells kind) given → goes_into kind given ≡ true
into_passes kind (Some Null) is = refl
into_passes kinds.Int (Some Number) is = refl
into_passes kinds.Int (Some Text) is = absurd cc
into_passes kinds.Int (Some Condition) is = absurd cc
into_passes kinds.Int None is = absurd cc
into_passes (kinds.Bytes most) (Some Text) is = refl
into_passes (kinds.Bytes most) (Some Number) is = absurd cc
into_passes (kinds.Bytes most) (Some Condition) is = absurd cc
into_passes (kinds.Bytes most) None is = absurd cc

pub condition_passes : (columns : List Column) (condition : Option Expr) → IfSome condition (λ e. kind_of columns e ≡ Some Condition) → condition_fits columns condition ≡ true
condition_passes columns None fits = refl
condition_passes columns (Some e) fits = ap is_truth fits

pub condition_inside : (columns : List Column) (condition : Option Expr) → IfSome condition (λ e. kind_of columns e ≡ Some Condition) → condition_within (length columns) condition ≡ true
condition_inside columns None fits = refl
condition_inside columns (Some e) fits = inside columns (length columns) (omega arith) e Condition fits

pub rows_inside : (columns : List Column) (condition : Option Expr) (order : List OrderKey) → IfSome condition (λ e. kind_of columns e ≡ Some Condition) → AllByRecursion (λ (key : OrderKey). key.column < length columns) order → rows_within (length columns) condition order ≡ true
rows_inside columns condition order fits sorted =
    both_true (keys_within (length columns) order) (condition_within (length columns) condition)
    (all_pass (λ (key : OrderKey). key.column < length columns) (λ (key : OrderKey). nat_lt key.column (length columns)) (λ key lt. lt-ltb key.column (length columns) lt) order sorted)
    (condition_inside columns condition fits)

pub cell_passes : (named columns : List Column) (place : ℕ) (c : Cell) → CellFits named columns place c → cell_fits named columns place c ≡ true
cell_passes named columns place Preset fits = let at = get_some columns place fits in ap (cell_into named Preset) at.1
cell_passes named columns place (Of e) fits = go (slice_get columns place) fits where
  go : (at : Option Column) → IsSomeAnd at (λ c. IsOf (kind_of_cells c.kind) (kind_of named e)) → cell_into named (Of e) at ≡ true
  go None is = absurd is
  go (Some c) is = into_passes c.kind (kind_of named e) is

pub group_passes : (columns : List Column) (places : List ℕ) (cells : List Cell) → GroupFits columns places cells → group_fits columns places cells ≡ true
group_passes columns [] [] fits = refl
group_passes columns [] (c ∷ cs) fits = absurd fits
group_passes columns (p ∷ ps) [] fits = absurd fits
group_passes columns (p ∷ ps) (c ∷ cs) fits =
    both_true (cell_fits [] columns p c) (group_fits columns ps cs) (cell_passes [] columns p c fits.0) (group_passes columns ps cs fits.1)

pub cell_inside : (named columns : List Column) (place : ℕ) (c : Cell) → CellFits named columns place c → cell_within (length named) c ≡ true
cell_inside named columns place Preset fits = refl
cell_inside named columns place (Of e) fits =
    let worth = cell_gives named columns place e fits in
    inside named (length named) (omega arith) e worth.gives worth.is

pub group_inside : (columns : List Column) (places : List ℕ) (cells : List Cell) → GroupFits columns places cells → list_all (cell_within 0) cells ≡ true
group_inside columns [] [] fits = refl
group_inside columns [] (c ∷ cs) fits = absurd fits
group_inside columns (p ∷ ps) [] fits = absurd fits
group_inside columns (p ∷ ps) (c ∷ cs) fits =
    both_true (cell_within 0 c) (list_all (cell_within 0) cs) (cell_inside [] columns p c fits.0) (group_inside columns ps cs fits.1)
