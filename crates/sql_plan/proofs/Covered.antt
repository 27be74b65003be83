-- Where a condition is true each of its tests holds, and so the row lies in the range that they make.
use Rattle.std.proofs.Common.{◌≡◌, ℕ, Bool, true, false, cond, not, ◌&&◌, ◌==◌, List, [], ◌∷◌, ◌++◌, map, find, Option, Some, None, refl, sym, ap, ap₂, subst, ◌∙◌, eqb-true}
use Rattle.std.specs.Prelude.{Result, Ok, Err, IfOk}
use Rattle.std.specs.List.{AllByRecursion}
use Rattle.std.specs.declared.cmp.Ordering.{Ordering}
use Rattle.std.specs.declared.cmp.Ordering.TheVariants.{Less, Equal, Greater}
use Rattle.std.specs.Ordering.{ordering_then, ordering_reverse, is_lt, is_gt}
use Rattle.std.proofs.lemmas.Bool.{true≢false}
use Rattle.std.proofs.lemmas.Option.{same_Some, none-some}
use Rattle.index_tree.proofs.Ascending.{equal_is}
use Rattle.index_tree.proofs.Elements.{all_append}
use Rattle.row_types.specs.declared.values.Value.{Value as Cell}
use Rattle.row_types.specs.declared.values.Value.TheVariants.{Null, Int, Text}
use Rattle.row_types.specs.Order.{value_cmp, prefix_cmp}
use Rattle.row_types.specs.declared.indexes.IndexDef.{IndexDef}
use Rattle.row_types.proofs.Orders.{value_cmp_total}
use Rattle.request_types.specs.declared.filters.FilterOp.{FilterOp}
use Rattle.request_types.specs.declared.filters.FilterOp.TheVariants as ops
use Rattle.table_rows.specs.Entries.{Entry, cells}
use Rattle.table_rows.specs.StoreWalks.{is_from, is_to}
use Rattle.table_rows.specs.Indexes.{primary_of, parts_of, parts_at}
use Rattle.sql_value.specs.declared.exprs.Expr.{Expr, roll-Expr, map-Expr}
use Rattle.sql_value.specs.declared.exprs.Expr.TheOpen.{Expr-F}
use Rattle.sql_value.specs.declared.exprs.Expr.TheFolds.{ind-Expr}
use Rattle.sql_value.specs.declared.exprs.Expr.TheVariants as exprs
use Rattle.sql_value.specs.declared.truths.Truth.TheVariants.{Yes, No, Unknown}
use Rattle.sql_value.specs.declared.worth.Evaluated.{Evaluated}
use Rattle.sql_value.specs.declared.worth.Evaluated.TheVariants.{Truth, Value, Overflow}
use Rattle.sql_value.specs.Logic.{truth_of, meets}
use Rattle.sql_value.specs.Worth.{comparison, compared, both, cell_at}
use Rattle.sql_value.specs.Eval.{part_of, eval_of}
use Rattle.sql_plan.specs.declared.column_tests.Wanted.{Wanted}
use Rattle.sql_plan.specs.declared.column_tests.Wanted.TheVariants as wanted
use Rattle.sql_plan.specs.Tests.{Test, Piece, turned, beside, piece_part, piece_of, tests_of, is_wanted, is_test_on, first_test, calculates}
use Rattle.sql_plan.specs.Plans.{key_from, key_of, bound_from, bound_of, edge_at, low_of, high_of, best_of, plan_by, plan_of}
use Rattle.sql_plan.specs.declared.plans.Plan.{Plan}
use Rattle.sql_plan.specs.Ranges.{is_true, is_between, lies_in, IsCovered, MayServe, Serves}
use Rattle.sql_plan.proofs.Parts.{fold-Literal, fold-Column, fold-Negate, fold-Arith, fold-Compare, fold-IsNull, fold-InList, fold-Not, fold-And, fold-Or}

both_true : (x y : Evaluated) → is_true (both x y) ≡ true → (is_true x ≡ true) × (is_true y ≡ true)
both_true (Truth Yes) (Truth Yes) e = (refl, refl)
both_true (Truth Yes) (Truth No) e = absurd (true≢false (sym e))
both_true (Truth Yes) (Truth Unknown) e = absurd (true≢false (sym e))
both_true (Truth No) (Truth t) e = absurd (true≢false (sym e))
both_true (Truth Unknown) (Truth Yes) e = absurd (true≢false (sym e))
both_true (Truth Unknown) (Truth No) e = absurd (true≢false (sym e))
both_true (Truth Unknown) (Truth Unknown) e = absurd (true≢false (sym e))
both_true (Truth s) (Value b) e = absurd (true≢false (sym e))
both_true (Truth s) Overflow e = absurd (true≢false (sym e))
both_true (Value a) (Truth t) e = absurd (true≢false (sym e))
both_true (Value a) (Value b) e = absurd (true≢false (sym e))
both_true (Value a) Overflow e = absurd (true≢false (sym e))
both_true Overflow (Truth t) e = absurd (true≢false (sym e))
both_true Overflow (Value b) e = absurd (true≢false (sym e))
both_true Overflow Overflow e = absurd (true≢false (sym e))

known_true : (b : Bool) → is_true (Truth (truth_of b)) ≡ true → b ≡ true
known_true true e = refl
known_true false e = e

-- a true comparison is one of values that stand so
stands_so : (op : FilterOp) (a b : Cell) → is_true (Truth (comparison op a b)) ≡ true → meets op (value_cmp a b) ≡ true
stands_so op Null b e = absurd (true≢false (sym e))
stands_so op (Int m) Null e = absurd (true≢false (sym e))
stands_so op (Int m) (Int n) e = known_true (meets op (value_cmp (Int m) (Int n))) e
stands_so op (Int m) (Text t) e = known_true (meets op (value_cmp (Int m) (Text t))) e
stands_so op (Text s) Null e = absurd (true≢false (sym e))
stands_so op (Text s) (Int n) e = known_true (meets op (value_cmp (Text s) (Int n))) e
stands_so op (Text s) (Text t) e = known_true (meets op (value_cmp (Text s) (Text t))) e

meets_turned : (op : FilterOp) (o : Ordering) → meets op (ordering_reverse o) ≡ meets (turned op) o
meets_turned ops.Equal Less = refl
meets_turned ops.Equal Equal = refl
meets_turned ops.Equal Greater = refl
meets_turned ops.NotEqual Less = refl
meets_turned ops.NotEqual Equal = refl
meets_turned ops.NotEqual Greater = refl
meets_turned ops.Greater Less = refl
meets_turned ops.Greater Equal = refl
meets_turned ops.Greater Greater = refl
meets_turned ops.GreaterEqual Less = refl
meets_turned ops.GreaterEqual Equal = refl
meets_turned ops.GreaterEqual Greater = refl
meets_turned ops.Less Less = refl
meets_turned ops.Less Equal = refl
meets_turned ops.Less Greater = refl
meets_turned ops.LessEqual Less = refl
meets_turned ops.LessEqual Equal = refl
meets_turned ops.LessEqual Greater = refl

module _ (row : List Cell) where
  -- A test holds on the row.
  abbrev Holds : Test → Type 0
  Holds test = meets test.op (value_cmp (cell_at row test.column) test.value) ≡ true

  -- What an expression is worth where it is a column or a literal, and that its tests hold where it is true.
  record IsSound (e : Expr) : Type 0 where
    column : (place : ℕ) → (piece_of e).column ≡ Some place → eval_of row e ≡ Value (cell_at row place)
    literal : (value : Cell) → (piece_of e).literal ≡ Some value → eval_of row e ≡ Value value
    tests : is_true (eval_of row e) ≡ true → AllByRecursion Holds (tests_of e)

  -- the same by what the expression is and is worth
  sound : (e : Expr) (p : Piece) (x : Evaluated) → piece_of e ≡ p → eval_of row e ≡ x
      → ((place : ℕ) → p.column ≡ Some place → x ≡ Value (cell_at row place)) → ((value : Cell) → p.literal ≡ Some value → x ≡ Value value) → (is_true x ≡ true → AllByRecursion Holds p.tests) → IsSound e
  sound e p x is worth column literal tests = record {
    column = λ place at. worth ∙ column place (sym (ap (λ (q : Piece). q.column) is) ∙ at);
    literal = λ value at. worth ∙ literal value (sym (ap (λ (q : Piece). q.literal) is) ∙ at);
    tests = λ holds. subst (λ (q : Piece). AllByRecursion Holds q.tests) (sym is) (tests (sym (ap is_true worth) ∙ holds));
  }

  -- an expression that is neither, with these tests
  sound_tests : (e : Expr) (tests : List Test) (x : Evaluated) → piece_of e ≡ record { column = None; literal = None; tests = tests } → eval_of row e ≡ x → (is_true x ≡ true → AllByRecursion Holds tests) → IsSound e
  sound_tests e tests x is worth holds = sound e _ x is worth (λ place at. absurd (none-some place at)) (λ value at. absurd (none-some value at)) holds

  literal_case : (v : Cell) → IsSound (exprs.Literal v)
  literal_case v = by_value v (fold-Literal piece_part v) (fold-Literal (part_of row) v)
    where
      by_value : (w : Cell) → piece_of (exprs.Literal w) ≡ piece_part (Expr-F.Literal w) → eval_of row (exprs.Literal w) ≡ Value w → IsSound (exprs.Literal w)
      by_value Null is worth = sound_tests (exprs.Literal Null) [] (Value Null) is worth (λ holds. tt)
      by_value (Int n) is worth = sound (exprs.Literal (Int n)) _ (Value (Int n)) is worth (λ place at. absurd (none-some place at)) (λ value at. ap Value (same_Some (Int n) value at)) (λ holds. tt)
      by_value (Text t) is worth = sound (exprs.Literal (Text t)) _ (Value (Text t)) is worth (λ place at. absurd (none-some place at)) (λ value at. ap Value (same_Some (Text t) value at)) (λ holds. tt)

  column_case : (place : ℕ) → IsSound (exprs.Column place)
  column_case place =
      sound (exprs.Column place) _ (Value (cell_at row place)) (fold-Column piece_part place) (fold-Column (part_of row) place)
      (λ other at. ap (λ (c : ℕ). Value (cell_at row c)) (same_Some place other at)) (λ value at. absurd (none-some value at)) (λ holds. tt)

  -- a column beside a literal
  beside_holds : (op : FilterOp) (column : Option ℕ) (literal : Option Cell) (x y : Evaluated) → ((place : ℕ) → column ≡ Some place → x ≡ Value (cell_at row place)) → ((value : Cell) → literal ≡ Some value → y ≡ Value value)
      → ((a b : Cell) → x ≡ Value a → y ≡ Value b → meets op (value_cmp a b) ≡ true) → AllByRecursion Holds (beside op column literal)
  beside_holds op None literal x y column_is literal_is true_so = tt
  beside_holds op (Some place) None x y column_is literal_is true_so = tt
  beside_holds op (Some place) (Some value) x y column_is literal_is true_so = (true_so (cell_at row place) value (column_is place refl) (literal_is value refl), tt)

  compare_case : (op : FilterOp) (a b : Expr) → IsSound a → IsSound b → IsSound (exprs.Compare op a b)
  compare_case op a b pa pb =
      let x = eval_of row a in
      let y = eval_of row b in
      sound_tests (exprs.Compare op a b) _ (compared op x y) (fold-Compare piece_part op a b) (fold-Compare (part_of row) op a b)
      (λ holds.
      let so : (v w : Cell) → x ≡ Value v → y ≡ Value w → meets op (value_cmp v w) ≡ true = λ v w first second. stands_so op v w (sym (ap₂ (λ (s t : Evaluated). is_true (compared op s t)) first second) ∙ holds) in
      all_append Holds (beside op (piece_of a).column (piece_of b).literal) (beside (turned op) (piece_of b).column (piece_of a).literal)
      (beside_holds op (piece_of a).column (piece_of b).literal x y pa.column pb.literal so)
      (beside_holds (turned op) (piece_of b).column (piece_of a).literal y x pb.column pa.literal
      (λ w v second first. sym (meets_turned op (value_cmp w v)) ∙ ap (meets op) (sym (value_cmp_total.antisymm v w)) ∙ so v w first second)))

  and_case : (a b : Expr) → IsSound a → IsSound b → IsSound (exprs.And a b)
  and_case a b pa pb =
      sound_tests (exprs.And a b) _ (both (eval_of row a) (eval_of row b)) (fold-And piece_part a b) (fold-And (part_of row) a b)
      (λ holds. let each = both_true (eval_of row a) (eval_of row b) holds in all_append Holds (tests_of a) (tests_of b) (pa.tests each.0) (pb.tests each.1))

  -- An expression, and that it is sound.
  abbrev Sound : Type 0
  Sound = (e : Expr) × IsSound e

  by_part : (y : Expr-F Sound) → IsSound (roll-Expr (map-Expr Sound Expr (λ s. s.0) y))
  by_part (Expr-F.Literal v) = subst IsSound (sym (exprs.rolls-Literal v)) (literal_case v)
  by_part (Expr-F.Column place) = subst IsSound (sym (exprs.rolls-Column place)) (column_case place)
  by_part (Expr-F.Negate a) = subst IsSound (sym (exprs.rolls-Negate a.0)) (sound_tests (exprs.Negate a.0) [] _ (fold-Negate piece_part a.0) refl (λ holds. tt))
  by_part (Expr-F.Arith op a b) = subst IsSound (sym (exprs.rolls-Arith op a.0 b.0)) (sound_tests (exprs.Arith op a.0 b.0) [] _ (fold-Arith piece_part op a.0 b.0) refl (λ holds. tt))
  by_part (Expr-F.Compare op a b) = subst IsSound (sym (exprs.rolls-Compare op a.0 b.0)) (compare_case op a.0 b.0 a.1 b.1)
  by_part (Expr-F.IsNull a) = subst IsSound (sym (exprs.rolls-IsNull a.0)) (sound_tests (exprs.IsNull a.0) [] _ (fold-IsNull piece_part a.0) refl (λ holds. tt))
  by_part (Expr-F.InList a all) =
      subst IsSound (sym (exprs.rolls-InList a.0 (map (λ (s : Sound). s.0) all)))
      (sound_tests (exprs.InList a.0 (map (λ (s : Sound). s.0) all)) [] _ (fold-InList piece_part a.0 (map (λ (s : Sound). s.0) all)) refl (λ holds. tt))
  by_part (Expr-F.Not a) = subst IsSound (sym (exprs.rolls-Not a.0)) (sound_tests (exprs.Not a.0) [] _ (fold-Not piece_part a.0) refl (λ holds. tt))
  by_part (Expr-F.And a b) = subst IsSound (sym (exprs.rolls-And a.0 b.0)) (and_case a.0 b.0 a.1 b.1)
  by_part (Expr-F.Or a b) = subst IsSound (sym (exprs.rolls-Or a.0 b.0)) (sound_tests (exprs.Or a.0 b.0) [] _ (fold-Or piece_part a.0 b.0) refl (λ holds. tt))

  all_sound : (e : Expr) → IsSound e
  all_sound = ind-Expr IsSound (λ x y is. subst (λ z. IsSound (roll-Expr z)) is (by_part y))

  -- a test that is found holds, and is of the sort that was looked for
  found_holds : (test : Test → Bool) (ts : List Test) → AllByRecursion Holds ts → (t : Test) → find test ts ≡ Some t → Holds t × (test t ≡ true)
  found_holds test [] all t found = absurd (none-some t found)
  found_holds test (s ∷ ts) all t found = by_test (found_holds test ts all.1 t) (test s) refl found
    where
      by_test : (find test ts ≡ Some t → Holds t × (test t ≡ true)) → (b : Bool) → test s ≡ b → cond b (Some s) (find test ts) ≡ Some t → Holds t × (test t ≡ true)
      by_test rest true is found =
          let same : s ≡ t = same_Some s t found in
          (subst Holds same all.0, subst (λ (u : Test). test u ≡ true) same is)
      by_test rest false is found = rest found

  both_parts : (a b : Bool) → (a && b) ≡ true → (a ≡ true) × (b ≡ true)
  both_parts true b e = (refl, e)
  both_parts false b e = absurd (true≢false (sym e))

  -- the first test of a column is one of the row's cell there
  record IsTestAt (what : Wanted) (part : ℕ) (t : Test) : Type 0 where
    wanted_op : is_wanted what t.op ≡ true
    so : meets t.op (value_cmp (cell_at row part) t.value) ≡ true

  first_holds : (what : Wanted) (part : ℕ) (ts : List Test) → AllByRecursion Holds ts → (t : Test) → first_test what part ts ≡ Some t → IsTestAt what part t
  first_holds what part ts all t found =
      let at = found_holds (is_test_on what part) ts all t found in
      let parts = both_parts (t.column == part) (is_wanted what t.op) at.1 in
      record {
        wanted_op = parts.1;
        so = subst (λ (c : ℕ). meets t.op (value_cmp (cell_at row c) t.value) ≡ true) (eqb-true t.column part parts.0) at.0;
      }

  equal_so : (part : ℕ) (t : Test) → IsTestAt wanted.Equal part t → value_cmp (cell_at row part) t.value ≡ Equal
  equal_so part t at = by_op t.op at.wanted_op at.so
    where
      by_op : (op : FilterOp) → is_wanted wanted.Equal op ≡ true → meets op (value_cmp (cell_at row part) t.value) ≡ true → value_cmp (cell_at row part) t.value ≡ Equal
      by_op ops.Equal is so = equal_is (value_cmp (cell_at row part) t.value) so
      by_op ops.NotEqual is so = absurd (true≢false (sym is))
      by_op ops.Greater is so = absurd (true≢false (sym is))
      by_op ops.GreaterEqual is so = absurd (true≢false (sym is))
      by_op ops.Less is so = absurd (true≢false (sym is))
      by_op ops.LessEqual is so = absurd (true≢false (sym is))

  module _ (ts : List Test) (all : AllByRecursion Holds ts) (more : List ℕ) where
    -- the row begins with the key
    key_equal : (parts : List ℕ) → prefix_cmp (cells (parts ++ more) row) (key_of ts parts) ≡ Equal
    key_equal [] = refl
    key_equal (part ∷ parts) = by_test (key_equal parts) (first_test wanted.Equal part ts) refl
      where
        by_test : prefix_cmp (cells (parts ++ more) row) (key_of ts parts) ≡ Equal → (found : Option Test) → first_test wanted.Equal part ts ≡ found → prefix_cmp (cells ((part ∷ parts) ++ more) row) (key_from found (key_of ts parts)) ≡ Equal
        by_test rest None is = refl
        by_test rest (Some t) is =
            ap (λ (o : Ordering). ordering_then o (prefix_cmp (cells (parts ++ more) row) (key_of ts parts))) (equal_so part t (first_holds wanted.Equal part ts all t is)) ∙ rest

    -- The row stands to the key with the bound behind it as the bound says.
    record IsBounded (parts : List ℕ) (t : Test) : Type 0 where
      wanted_op : is_wanted wanted.Bound t.op ≡ true
      so : meets t.op (prefix_cmp (cells (parts ++ more) row) (key_of ts parts ++ t.value ∷ [])) ≡ true

    then_equal : (o : Ordering) → ordering_then o Equal ≡ o
    then_equal Less = refl
    then_equal Equal = refl
    then_equal Greater = refl

    bounded : (parts : List ℕ) (t : Test) → bound_of ts parts ≡ Some t → IsBounded parts t
    bounded [] t found = absurd (none-some t found)
    bounded (part ∷ parts) t found = by_test (bounded parts t) (first_test wanted.Equal part ts) refl found
      where
        by_test : (bound_of ts parts ≡ Some t → IsBounded parts t) → (equal : Option Test) → first_test wanted.Equal part ts ≡ equal → bound_from equal (first_test wanted.Bound part ts) (bound_of ts parts) ≡ Some t → IsBounded (part ∷ parts) t
        by_test later None is found =
            let at = first_holds wanted.Bound part ts all t found in
            record {
              wanted_op = at.wanted_op;
              so = subst (λ (e : Option Test). meets t.op (prefix_cmp (cells ((part ∷ parts) ++ more) row) (key_from e (key_of ts parts) ++ t.value ∷ [])) ≡ true) (sym is)
                  (subst (λ (o : Ordering). meets t.op o ≡ true) (sym (then_equal (value_cmp (cell_at row part) t.value))) at.so);
            }
        by_test behind (Some s) is found =
            let rest = behind found in
            let same = equal_so part s (first_holds wanted.Equal part ts all s is) in
            let later = prefix_cmp (cells (parts ++ more) row) (key_of ts parts ++ t.value ∷ []) in
            record {
              wanted_op = rest.wanted_op;
              so = subst (λ (e : Option Test). meets t.op (prefix_cmp (cells ((part ∷ parts) ++ more) row) (key_from e (key_of ts parts) ++ t.value ∷ [])) ≡ true) (sym is)
                  (subst (λ (o : Ordering). meets t.op (ordering_then o later) ≡ true) (sym same) rest.so);
            }

    module _ (parts : List ℕ) (slot : ℕ) where
      from_key : (key : List Cell) → prefix_cmp (cells (parts ++ more) row) key ≡ Equal → is_from (parts ++ more) (edge_at key) (row, slot) ≡ true
      from_key [] equal = refl
      from_key (v ∷ vs) equal = ap (λ (o : Ordering). not (is_lt o)) equal

      to_key : (key : List Cell) → prefix_cmp (cells (parts ++ more) row) key ≡ Equal → is_to (parts ++ more) (edge_at key) (row, slot) ≡ true
      to_key [] equal = refl
      to_key (v ∷ vs) equal = ap (λ (o : Ordering). not (is_gt o)) equal

      -- the row stands between the edges
      from_low : (bound : Option Test) → bound_of ts parts ≡ bound → is_from (parts ++ more) (low_of (key_of ts parts) bound) (row, slot) ≡ true
      from_low None is = from_key (key_of ts parts) (key_equal parts)
      from_low (Some t) is = by_op t.op (bounded parts t is).wanted_op (bounded parts t is).so
        where
          by_op : (op : FilterOp) → is_wanted wanted.Bound op ≡ true → meets op (prefix_cmp (cells (parts ++ more) row) (key_of ts parts ++ t.value ∷ [])) ≡ true
              → is_from (parts ++ more) (low_of (key_of ts parts) (Some (record { column = t.column; op = op; value = t.value }))) (row, slot) ≡ true
          by_op ops.Equal wanted_op so = absurd (true≢false (sym wanted_op))
          by_op ops.NotEqual wanted_op so = absurd (true≢false (sym wanted_op))
          by_op ops.Greater wanted_op so = so
          by_op ops.GreaterEqual wanted_op so = so
          by_op ops.Less wanted_op so = from_key (key_of ts parts) (key_equal parts)
          by_op ops.LessEqual wanted_op so = from_key (key_of ts parts) (key_equal parts)

      to_high : (bound : Option Test) → bound_of ts parts ≡ bound → is_to (parts ++ more) (high_of (key_of ts parts) bound) (row, slot) ≡ true
      to_high None is = to_key (key_of ts parts) (key_equal parts)
      to_high (Some t) is = by_op t.op (bounded parts t is).wanted_op (bounded parts t is).so
        where
          by_op : (op : FilterOp) → is_wanted wanted.Bound op ≡ true → meets op (prefix_cmp (cells (parts ++ more) row) (key_of ts parts ++ t.value ∷ [])) ≡ true
              → is_to (parts ++ more) (high_of (key_of ts parts) (Some (record { column = t.column; op = op; value = t.value }))) (row, slot) ≡ true
          by_op ops.Equal wanted_op so = absurd (true≢false (sym wanted_op))
          by_op ops.NotEqual wanted_op so = absurd (true≢false (sym wanted_op))
          by_op ops.Greater wanted_op so = to_key (key_of ts parts) (key_equal parts)
          by_op ops.GreaterEqual wanted_op so = to_key (key_of ts parts) (key_equal parts)
          by_op ops.Less wanted_op so = so
          by_op ops.LessEqual wanted_op so = so

      between : is_between (parts ++ more) (low_of (key_of ts parts) (bound_of ts parts)) (high_of (key_of ts parts) (bound_of ts parts)) (row, slot) ≡ true
      between = ap₂ (λ (a b : Bool). a && b) (from_low (bound_of ts parts) refl) (to_high (bound_of ts parts) refl)

-- A row on which a condition is true lies in its plan's range.
pub covered : (condition : Option Expr) (indexes : List IndexDef) (entry : Entry) → IsCovered condition indexes (plan_of condition indexes) entry
covered None indexes entry met = refl
covered (Some e) indexes entry met = by_contents (calculates (Some e)) refl
  where
    by_index : (best : Option ℕ) → lies_in indexes (plan_by (tests_of e) indexes best) entry ≡ true
    by_index None = refl
    by_index (Some index) = between entry.0 (tests_of e) ((all_sound entry.0 e).tests met) (primary_of indexes) (parts_at indexes index) entry.1

    by_contents : (b : Bool) → calculates (Some e) ≡ b → lies_in indexes (plan_of (Some e) indexes) entry ≡ true
    by_contents true is = rw is refl
    by_contents false is = rw is (by_index (best_of (tests_of e) (parts_of indexes)))

each : {X : Type 0} → (P : X → Type 0) → ((x : X) → P x) → (xs : List X) → AllByRecursion P xs
each P all [] = tt
each P all (x ∷ xs) = (all x, each P all xs)

-- A plan finds all rows of its condition, whichever there are.
pub plan_serves : (condition : Option Expr) (indexes : List IndexDef) (plan : Plan) → plan ≡ plan_of condition indexes → MayServe condition indexes plan → (entries : List Entry) → Serves condition indexes entries plan
plan_serves condition indexes plan is may entries = record {
  lookup = may;
  covers = each (IsCovered condition indexes plan) (λ e. subst (λ (p : Plan). IsCovered condition indexes p e) (sym is) (covered condition indexes e)) entries;
}

-- what follows from two clauses of a call
pub both_ok : {T E : Type 0} {P Q R : T → Type 0} (r : Result T E) → ((x : T) → P x → Q x → R x) → IfOk r P → IfOk r Q → IfOk r R
both_ok (Ok x) then p q = then x p q
both_ok (Err e) then p q = tt
