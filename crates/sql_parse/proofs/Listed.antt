-- Listed values as they are spelled are read.
use Rattle.std.proofs.Common.{◌≡◌, ℕ, zero, suc, ◌+◌, ◌≤◌, max, Bool, true, false, List, [], ◌∷◌, ◌++◌, length, map, Some, None, refl, ap, sym, subst, ◌∙◌, arith, append_assoc}
use Rattle.std.specs.Prelude.{not, if◌then◌else◌, codes, fold}
use Rattle.std.specs.List.{AllByRecursion}
use Rattle.row_types.specs.declared.columns.Column.{Column}
use Rattle.sql_value.specs.declared.exprs.Expr.{Expr}
use Rattle.sql_value.specs.declared.exprs.Expr.TheVariants as exprs
use Rattle.sql_value.specs.declared.kinds.ExprKind.{ExprKind}
use Rattle.sql_value.specs.declared.kinds.ExprKind.TheVariants.{Condition}
use Rattle.sql_parse.specs.declared.token_kinds.TokenKind.TheVariants as k
use Rattle.sql_parse.specs.declared.trees.Tree.{Tree}
use Rattle.sql_parse.specs.declared.grammar.Level.TheVariants as level
use Rattle.sql_parse.specs.Lex.{same_kind}
use Rattle.sql_parse.specs.Trees.{is_worth, must, in_list}
use Rattle.sql_parse.specs.Input.{Input, Parser, ◌>>=◌, ◌>>◌, pure, lift, eat, kind, expect}
use Rattle.sql_parse.specs.Grammar.{value, worth, members_from, members, membership, at, expr, condition}
use Rattle.sql_parse.specs.Spelling.{Front, ◌<+>◌, spell, parens, commas, expression, most, depth, nesting}
use Rattle.sql_parse.proofs.Pieces.{Bare, kind_of_word, eats_word, eats_none, expects_word, sees_other}
use Rattle.sql_parse.proofs.Fixed.{open_token, close_token, comma_token, in_token}
use Rattle.sql_parse.proofs.Grouping.{bind, IsEnd, at_close, at_comma, tested_by, one_test}
use Rattle.sql_parse.proofs.Fronts.{AreFronts, length_word, front_word, front_both, front_parens, front_commas}
use Rattle.sql_parse.proofs.Sorts.{is_condition}
use Rattle.sql_parse.proofs.Told.{IsTold, tree, lifted, above_is, turned, by_condition, only_value, parens_starts, parens_plain, parens_unturned}

-- The greatest of numbers is within a bound, so each of them is.
pub most_within : (b d : ℕ) (xs : List ℕ) → fold max d xs ≤ b → (d ≤ b) × AllByRecursion (λ x. x ≤ b) xs
most_within b d [] le = (le, tt)
most_within b d (x ∷ xs) le =
    let rest = most_within b (max d x) xs le in
    (omega (arith, rest.0), (omega (arith, rest.0), rest.1))

module _ (columns : List Column) where
  -- A value, as it is spelled, is read.
  pub record IsSaid (e : Expr) : Type 0 where
    pub gives : ExprKind
    pub told : IsTold columns (expression columns e) e (depth e) (nesting e) gives
    pub sort : is_condition gives ≡ false

  pub said_fronts : (es : List Expr) → AllByRecursion IsSaid es → AreFronts (map (expression columns) es)
  said_fronts [] each = tt
  said_fronts (e ∷ es) each = (each.0.told.front, said_fronts es each.1)

  pub worth_read : (e : Expr) (said : IsSaid e) → depth e ≤ 1000 → (n : ℕ) → nesting e ≤ n → (z : Input) → Bare z → IsEnd (kind z) → expr columns (suc n) level.Worth (expression columns e z) ≡ Some (tree e (depth e) said.gives, z)
  unfolding expr at worth
  worth_read e said deep n flat z bare is =
      bind (λ a. lift (must is_worth a)) {o = value columns (expr columns n) (expression columns e z)} (said.told.as_value deep n flat z bare is said.sort)
      (ap (λ b. lift (if not b then Some (tree e (depth e) said.gives) else None) z) said.sort)

  -- Values up to the closing parenthesis, behind those that were found.
  listed_read : (e : Expr) (es : List Expr) → AllByRecursion IsSaid (e ∷ es) → AllByRecursion (λ x. x ≤ 1000) (map depth (e ∷ es)) → (n : ℕ) → AllByRecursion (λ x. x ≤ n) (map nesting (e ∷ es)) → (m : ℕ) (found : List Expr) (deepest : ℕ) (z : Input) → Bare z
      → length (commas (map (expression columns) (e ∷ es)) (spell ")" z)) ≤ m
      → members_from columns (expr columns (suc n)) m found deepest (commas (map (expression columns) (e ∷ es)) (spell ")" z)) ≡ Some ((found ++ e ∷ es, fold max deepest (map depth (e ∷ es))), spell ")" z)
  unfolding members_from same_kind
  listed_read e [] each deep n flat zero found deepest z bare le =
      absurd (omega (arith, le, each.0.told.front.longer (spell ")" z), length_word (codes ")") z))
  listed_read e [] each deep n flat (suc m) found deepest z bare le =
      let inner = expr columns (suc n) in
      let y = spell ")" z in
      let chosen : Tree → Bool → Parser (List Expr × ℕ) = λ x b. if b then members_from columns inner m (found ++ x.expr ∷ []) (max deepest x.depth) else pure (found ++ x.expr ∷ [], max deepest x.depth) in
      bind (λ x. eat k.Comma >>= chosen x) (worth_read e each.0 deep.0 n flat.0 y (close_token.bare z) (subst IsEnd (sym (kind_of_word k.Close (codes ")") close_token z)) at_close))
      (bind (chosen (tree e (depth e) each.0.gives)) {o = eat k.Comma y} (eats_none k.Comma y (sees_other k.Close k.Comma (codes ")") close_token refl z)) refl)
  listed_read e (d ∷ ds) each deep n flat zero found deepest z bare le =
      absurd (omega (arith, le, each.0.told.front.longer (spell "," (commas (map (expression columns) (d ∷ ds)) (spell ")" z))), length_word (codes ",") (commas (map (expression columns) (d ∷ ds)) (spell ")" z))))
  listed_read e (d ∷ ds) each deep n flat (suc m) found deepest z bare le =
      let inner = expr columns (suc n) in
      let rest = commas (map (expression columns) (d ∷ ds)) (spell ")" z) in
      let y = spell "," rest in
      let bare_rest : Bare rest = (front_commas (expression columns d) (map (expression columns) ds) (said_fronts (d ∷ ds) each.1)).bare (spell ")" z) (close_token.bare z) in
      let chosen : Tree → Bool → Parser (List Expr × ℕ) = λ x b. if b then members_from columns inner m (found ++ x.expr ∷ []) (max deepest x.depth) else pure (found ++ x.expr ∷ [], max deepest x.depth) in
      bind (λ x. eat k.Comma >>= chosen x) (worth_read e each.0 deep.0 n flat.0 y (comma_token.bare rest) (subst IsEnd (sym (kind_of_word k.Comma (codes ",") comma_token rest)) at_comma))
      (bind (chosen (tree e (depth e) each.0.gives)) {o = eat k.Comma y} (eats_word k.Comma (codes ",") comma_token rest bare_rest)
      (listed_read d ds each.1 deep.1 n flat.1 m (found ++ e ∷ []) (max deepest (depth e)) z bare (omega (arith, le, each.0.told.front.longer y, length_word (codes ",") rest))
      ∙ ap (λ (xs : List Expr). Some ((xs, fold max (max deepest (depth e)) (map depth (d ∷ ds))), spell ")" z)) (append_assoc found (e ∷ []) (d ∷ ds))))

  module _ (ta : Front) (a : Expr) (da na : ℕ) (ka : ExprKind) (only : IsTold columns ta a da na ka) (x : Expr) (xs : List Expr) (each : AllByRecursion IsSaid (x ∷ xs)) where
    in_read : is_condition ka ≡ false → max da (most (map depth (x ∷ xs))) + 1 ≤ 1000 → (n : ℕ) → max na (most (map nesting (x ∷ xs))) + 1 ≤ n → (z : Input) → Bare z → IsEnd (kind z)
        → condition columns (expr columns n) ((parens ta <+> spell "IN" <+> parens (commas (map (expression columns) (x ∷ xs)))) z) ≡ Some (tree (exprs.InList a (x ∷ xs)) (max da (most (map depth (x ∷ xs))) + 1) Condition, z)
    unfolding membership members
    in_read sa deep zero le z bare is = absurd (omega (arith, le))
    in_read sa deep (suc m) le z bare is =
        let inner = expr columns (suc m) in
        let texts = map (expression columns) (x ∷ xs) in
        let shut = spell ")" z in
        let y = commas texts shut in
        let i = parens ta (spell "IN" (spell "(" y)) in
        let c = tree (exprs.InList a (x ∷ xs)) (max da (most (map depth (x ∷ xs))) + 1) Condition in
        let bare_y : Bare y = (front_commas (expression columns x) (map (expression columns) xs) (said_fronts (x ∷ xs) each)).bare shut (close_token.bare z) in
        let deep_each = (most_within 1000 0 (map depth (x ∷ xs)) (omega (arith, deep))).1 in
        let flat_each = (most_within m 0 (map nesting (x ∷ xs)) (omega (arith, le))).1 in
        let made : (List Expr × ℕ) → Parser Tree = λ all. expect k.Close >> lift (in_list (tree a da ka) all.0 all.1) in
        one_test columns inner i z c (parens_unturned columns ta (spell "IN" <+> parens (commas texts)) z)
        (tested_by columns inner k.In i (spell "IN" (spell "(" y)) (tree a da ka) (Some (c, z)) (only_value columns ta a da na ka only k.In (codes "IN") in_token refl refl (omega (arith, deep)) m (omega (arith, le)) (spell "(" y)) (kind_of_word k.In (codes "IN") in_token (spell "(" y))
        (bind (λ _. expect k.Open >> (members columns inner >>= made)) (expects_word k.In (codes "IN") in_token (spell "(" y) (open_token.bare y))
        (bind (λ _. members columns inner >>= made) (expects_word k.Open (codes "(") open_token y bare_y)
        (bind made {o = members columns inner y} (listed_read x xs each deep_each m flat_each (length y) [] 0 z bare (omega arith))
        (bind (λ _. lift (in_list (tree a da ka) (x ∷ xs) (most (map depth (x ∷ xs))))) (expects_word k.Close (codes ")") close_token z bare)
        (lifted (in_list (tree a da ka) (x ∷ xs) (most (map depth (x ∷ xs)))) c z
        (above_is true (not (is_condition ka)) (exprs.InList a (x ∷ xs)) (max da (most (map depth (x ∷ xs)))) (turned (is_condition ka) sa) deep)))))))
        is

    pub told_list : is_condition ka ≡ false → IsTold columns (parens ta <+> spell "IN" <+> parens (commas (map (expression columns) (x ∷ xs)))) (exprs.InList a (x ∷ xs)) (max da (most (map depth (x ∷ xs))) + 1) (max na (most (map nesting (x ∷ xs))) + 1) Condition
    told_list sa =
        let all = commas (map (expression columns) (x ∷ xs)) in
        by_condition columns (parens ta <+> spell "IN" <+> parens all) (exprs.InList a (x ∷ xs)) (max da (most (map depth (x ∷ xs))) + 1) (max na (most (map nesting (x ∷ xs))) + 1)
        (front_both (parens ta) (spell "IN" <+> parens all) (front_parens ta only.front) (front_both (spell "IN") (parens all) (front_word k.In (codes "IN") in_token (λ schema more i. refl)) (front_parens all (front_commas (expression columns x) (map (expression columns) xs) (said_fronts (x ∷ xs) each)))))
        (parens_starts columns ta (spell "IN" <+> parens all)) (parens_plain columns ta (spell "IN" <+> parens all)) (in_read sa)
