-- Expressions as they are spelled are read.
use Rattle.std.proofs.Common.{◌≡◌, ℕ, zero, suc, ◌+◌, ◌<◌, ◌≤◌, max, Bool, true, false, ◌&&◌, List, Option, Some, None, refl, ap, sym, subst, ◌∙◌, arith}
use Rattle.std.specs.Prelude.{not, if◌then◌else◌, codes}
use Rattle.std.proofs.lemmas.Bool.{lt-ltb}
use Rattle.row_types.specs.declared.columns.Column.{Column}
use Rattle.request_types.specs.declared.filters.FilterOp.{FilterOp}
use Rattle.sql_value.specs.declared.exprs.ArithOp.{ArithOp}
use Rattle.sql_value.specs.declared.exprs.ArithOp.TheVariants.{Product}
use Rattle.sql_value.specs.declared.exprs.Expr.{Expr}
use Rattle.sql_value.specs.declared.exprs.Expr.TheVariants as exprs
use Rattle.sql_value.specs.declared.kinds.ExprKind.{ExprKind}
use Rattle.sql_value.specs.declared.kinds.ExprKind.TheVariants.{Condition, Number}
use Rattle.sql_parse.specs.declared.token_kinds.TokenKind.{TokenKind}
use Rattle.sql_parse.specs.declared.token_kinds.TokenKind.TheVariants as k
use Rattle.sql_parse.specs.declared.trees.Tree.{Tree}
use Rattle.sql_parse.specs.declared.grammar.Level.{Level}
use Rattle.sql_parse.specs.declared.grammar.Level.TheVariants as level
use Rattle.sql_parse.specs.Lex.{same_kind}
use Rattle.sql_parse.specs.Trees.{above, negate, arith as operation, compare, is_null, opposite, both, either}
use Rattle.sql_parse.specs.Input.{Input, Parser, ◌>>=◌, ◌>>◌, pure, lift, eat, kind, sees, after, expect}
use Rattle.sql_parse.specs.Grammar.{sign_of, times_of, and_of, or_of, atom, unary, signed, term, value, null_test, against, test_by, test, negation, conjunction, condition, at, expr}
use Rattle.sql_parse.specs.Spelling.{Front, ◌<+>◌, word, spell, parens, sign, most}
use Rattle.sql_parse.proofs.Pieces.{Bare, IsToken, kind_of_word, next_of_word, sees_word, after_word, eats_none, expects_word, sees_other}
use Rattle.sql_parse.proofs.Fixed.{open_token, close_token, minus_token, star_token, and_token, or_token, not_token, is_token, null_token}
use Rattle.sql_parse.proofs.Grouping.{bind, alone, two, enclosed, one_operand, untimed, IsTested, IsEnd, at_close, at_and, at_or, untested, tested_by, unturned, one_negation, one_test, one_value}
use Rattle.sql_parse.proofs.Fronts.{IsFront, IsPlain, GoesBy, front_word, front_both, front_parens, plain_word}
use Rattle.sql_parse.proofs.Sorts.{is_condition}

-- The tree of an expression that is so deep and gives this kind.
abbrev pub tree : Expr → ℕ → ExprKind → Tree
tree e deep kind = record { expr = e; depth = deep; is_condition = is_condition kind }

-- A part above operands of the sort that it asks for.
pub above_is : (sort stand : Bool) (e : Expr) (deepest : ℕ) → stand ≡ true → deepest + 1 ≤ 1000 → above sort stand e deepest ≡ Some (record { expr = e; depth = deepest + 1; is_condition = sort })
above_is sort true e deepest is most =
    let below : deepest < 1000 = omega (arith, most) in
    ap (λ b. if b then Some (record { expr = e; depth = deepest + 1; is_condition = sort }) else None) (lt-ltb deepest 1000 below)
above_is sort false e deepest is most = absurd cc

pub no_condition : (a b : Bool) → a ≡ false → b ≡ false → (not a && not b) ≡ true
no_condition false false _ _ = refl
no_condition true b e _ = absurd cc
no_condition false true _ e = absurd cc

pub conditions : (a b : Bool) → a ≡ true → b ≡ true → (a && b) ≡ true
conditions true true _ _ = refl
conditions false b e _ = absurd cc
conditions true false _ e = absurd cc

pub turned : (a : Bool) → a ≡ false → not a ≡ true
turned false _ = refl
turned true e = absurd cc

-- What is there is read.
pub lifted : {A : Type 0} (o : Option A) (a : A) (z : Input) → o ≡ Some a → lift o z ≡ Some (a, z)
lifted o a z is = ap (λ (x : Option _). lift x z) is

module _ (columns : List Column) where
  -- This text is read as the expression, where a token stands behind it that goes on with nothing.
  pub record IsTold (text : Front) (e : Expr) (deep nests : ℕ) (gives : ExprKind) : Type 0 where
    pub front : IsFront text
    pub starts : (z : Input) → Bare (text z)
    pub plain : (z : Input) → IsPlain (text z)
    pub as_value : deep ≤ 1000 → (n : ℕ) → nests ≤ n → (z : Input) → Bare z → IsEnd (kind z) → is_condition gives ≡ false → value columns (expr columns n) (text z) ≡ Some (tree e deep gives, z)
    pub as_condition : deep ≤ 1000 → (n : ℕ) → nests ≤ n → (z : Input) → Bare z → IsEnd (kind z) → condition columns (expr columns n) (text z) ≡ Some (tree e deep gives, z)

  pub by_value : (text : Front) (e : Expr) (deep nests : ℕ) (gives : ExprKind) → IsFront text → ((z : Input) → Bare (text z)) → ((z : Input) → IsPlain (text z)) → ((z : Input) → sees k.Not (text z) ≡ false)
      → (deep ≤ 1000 → (n : ℕ) → nests ≤ n → (z : Input) → Bare z → IsEnd (kind z) → value columns (expr columns n) (text z) ≡ Some (tree e deep gives, z))
      → IsTold text e deep nests gives
  by_value text e deep nests gives front starts plain unturned read = record {
    front = front;
    starts = starts;
    plain = plain;
    as_value = λ most n le z bare is _. read most n le z bare is;
    as_condition = λ most n le z bare is. one_value columns (expr columns n) (text z) z (tree e deep gives) (unturned z) (read most n le z bare is) is;
  }

  pub by_condition : (text : Front) (e : Expr) (deep nests : ℕ) → IsFront text → ((z : Input) → Bare (text z)) → ((z : Input) → IsPlain (text z))
      → (deep ≤ 1000 → (n : ℕ) → nests ≤ n → (z : Input) → Bare z → IsEnd (kind z) → condition columns (expr columns n) (text z) ≡ Some (tree e deep Condition, z))
      → IsTold text e deep nests Condition
  by_condition text e deep nests front starts plain read = record {
    front = front;
    starts = starts;
    plain = plain;
    as_value = λ most n le z bare is no. absurd cc;
    as_condition = read;
  }

  -- In parentheses it is an operand, whatever stands behind it.
  pub in_parens : (text : Front) (e : Expr) (deep nests : ℕ) (gives : ExprKind) → IsTold text e deep nests gives → deep ≤ 1000 → (n : ℕ) → nests ≤ n → (z : Input) → Bare z → unary columns (expr columns (suc n)) (parens text z) ≡ Some (tree e deep gives, z)
  unfolding expr at
  in_parens text e deep nests gives told most n le z bare =
      enclosed columns (expr columns (suc n)) text (tree e deep gives) z (told.starts (spell ")" z)) bare
      (told.as_condition most n le (spell ")" z) (close_token.bare z) (subst IsEnd (sym (kind_of_word k.Close (codes ")") close_token z)) at_close))

  -- The same as a value, where neither a sign nor `*` stands behind it.
  pub parens_value : (text : Front) (e : Expr) (deep nests : ℕ) (gives : ExprKind) → IsTold text e deep nests gives → deep ≤ 1000 → (n : ℕ) → nests ≤ n → (z : Input) → Bare z → times_of (kind z) ≡ None → sign_of (kind z) ≡ None → value columns (expr columns (suc n)) (parens text z) ≡ Some (tree e deep gives, z)
  parens_value text e deep nests gives told most n le z bare times sign =
      one_operand columns (expr columns (suc n)) (parens text z) z (tree e deep gives) (in_parens text e deep nests gives told most n le z bare) times sign

  pub parens_starts : (text rest : Front) (z : Input) → Bare ((parens text <+> rest) z)
  parens_starts text rest z = open_token.bare (text (spell ")" (rest z)))

  pub parens_plain : (text rest : Front) (z : Input) → IsPlain ((parens text <+> rest) z)
  unfolding same_kind
  parens_plain text rest z = plain_word k.Open (codes "(") open_token refl refl (text (spell ")" (rest z)))

  pub parens_unturned : (text rest : Front) (z : Input) → sees k.Not ((parens text <+> rest) z) ≡ false
  unfolding same_kind
  parens_unturned text rest z = sees_other k.Open k.Not (codes "(") open_token refl (text (spell ")" (rest z)))

  front_between : (a b : Front) (k : TokenKind) (p : List ℕ) → IsToken k p → GoesBy k → IsFront a → IsFront b → IsFront (parens a <+> word p <+> parens b)
  front_between a b k p t by fa fb =
      front_both (parens a) (word p <+> parens b) (front_parens a fa) (front_both (word p) (parens b) (front_word k p t by) (front_parens b fb))

  -- Two operands and what stands between them.
  module _ (ta tb : Front) (a b : Expr) (da db na nb : ℕ) (ka kb : ExprKind) (left : IsTold ta a da na ka) (right : IsTold tb b db nb kb) where
    -- The left one, before what is no sign.
    left_value : (k : TokenKind) (p : List ℕ) → IsToken k p → times_of k ≡ None → sign_of k ≡ None → max da db + 1 ≤ 1000 → (m : ℕ) → max na nb + 1 ≤ suc m → (y : Input) → value columns (expr columns (suc m)) (parens ta (word p y)) ≡ Some (tree a da ka, word p y)
    left_value k p t times sign most m le y =
        parens_value ta a da na ka left (omega (arith, most)) m (omega (arith, le)) (word p y) (t.bare y)
        (ap times_of (kind_of_word k p t y) ∙ times) (ap sign_of (kind_of_word k p t y) ∙ sign)

    right_value : max da db + 1 ≤ 1000 → (m : ℕ) → max na nb + 1 ≤ suc m → (z : Input) → Bare z → IsEnd (kind z) → value columns (expr columns (suc m)) (parens tb z) ≡ Some (tree b db kb, z)
    right_value most m le z bare is =
        parens_value tb b db nb kb right (omega (arith, most)) m (omega (arith, le)) z bare is.test.times is.test.sign

    sum_read : (op : ArithOp) (k : TokenKind) (p : List ℕ) → IsToken k p → sign_of k ≡ Some op → times_of k ≡ None → is_condition ka ≡ false → is_condition kb ≡ false → max da db + 1 ≤ 1000 → (n : ℕ) → max na nb + 1 ≤ n → (z : Input) → Bare z → IsEnd (kind z)
        → value columns (expr columns n) ((parens ta <+> word p <+> parens tb) z) ≡ Some (tree (exprs.Arith op a b) (max da db + 1) Number, z)
    unfolding value
    sum_read op k p t sign times sa sb most zero le z bare is = absurd (omega (arith, le))
    sum_read op k p t sign times sa sb most (suc m) le z bare is =
        let inner = expr columns (suc m) in
        let y = parens tb z in
        two sign_of operation (term columns inner) op k p (parens ta (word p y)) y z (tree a da ka) (tree b db kb) (tree (exprs.Arith op a b) (max da db + 1) Number) t sign (parens_starts tb (λ r. r) z)
        (untimed columns inner (parens ta (word p y)) (word p y) (tree a da ka) (in_parens ta a da na ka left (omega (arith, most)) m (omega (arith, le)) (word p y) (t.bare y)) (ap times_of (kind_of_word k p t y) ∙ times))
        (untimed columns inner y z (tree b db kb) (in_parens tb b db nb kb right (omega (arith, most)) m (omega (arith, le)) z bare) is.test.times)
        (above_is false (not (is_condition ka) && not (is_condition kb)) (exprs.Arith op a b) (max da db) (no_condition (is_condition ka) (is_condition kb) sa sb) most)
        is.test.sign

    pub told_sum : (op : ArithOp) (k : TokenKind) (p : List ℕ) → IsToken k p → GoesBy k → sign_of k ≡ Some op → times_of k ≡ None → is_condition ka ≡ false → is_condition kb ≡ false → IsTold (parens ta <+> word p <+> parens tb) (exprs.Arith op a b) (max da db + 1) (max na nb + 1) Number
    told_sum op k p t by sign times sa sb =
        by_value (parens ta <+> word p <+> parens tb) (exprs.Arith op a b) (max da db + 1) (max na nb + 1) Number (front_between ta tb k p t by left.front right.front)
        (parens_starts ta (word p <+> parens tb)) (parens_plain ta (word p <+> parens tb)) (parens_unturned ta (word p <+> parens tb))
        (sum_read op k p t sign times sa sb)

    product_read : is_condition ka ≡ false → is_condition kb ≡ false → max da db + 1 ≤ 1000 → (n : ℕ) → max na nb + 1 ≤ n → (z : Input) → Bare z → IsEnd (kind z)
        → value columns (expr columns n) ((parens ta <+> spell "*" <+> parens tb) z) ≡ Some (tree (exprs.Arith Product a b) (max da db + 1) Number, z)
    unfolding value term
    product_read sa sb most zero le z bare is = absurd (omega (arith, le))
    product_read sa sb most (suc m) le z bare is =
        let inner = expr columns (suc m) in
        let y = parens tb z in
        let i = parens ta (spell "*" y) in
        let c = tree (exprs.Arith Product a b) (max da db + 1) Number in
        alone sign_of operation (term columns inner) i z c
        (two times_of operation (unary columns inner) Product k.Star (codes "*") i y z (tree a da ka) (tree b db kb) c star_token refl (parens_starts tb (λ r. r) z)
        (in_parens ta a da na ka left (omega (arith, most)) m (omega (arith, le)) (spell "*" y) (star_token.bare y))
        (in_parens tb b db nb kb right (omega (arith, most)) m (omega (arith, le)) z bare)
        (above_is false (not (is_condition ka) && not (is_condition kb)) (exprs.Arith Product a b) (max da db) (no_condition (is_condition ka) (is_condition kb) sa sb) most)
        is.test.times)
        is.test.sign

    pub told_product : is_condition ka ≡ false → is_condition kb ≡ false → IsTold (parens ta <+> spell "*" <+> parens tb) (exprs.Arith Product a b) (max da db + 1) (max na nb + 1) Number
    told_product sa sb =
        by_value (parens ta <+> spell "*" <+> parens tb) (exprs.Arith Product a b) (max da db + 1) (max na nb + 1) Number
        (front_between ta tb k.Star (codes "*") star_token (λ schema more i. refl) left.front right.front)
        (parens_starts ta (spell "*" <+> parens tb)) (parens_plain ta (spell "*" <+> parens tb)) (parens_unturned ta (spell "*" <+> parens tb))
        (product_read sa sb)

    compare_read : (op : FilterOp) (k : TokenKind) (p : List ℕ) → IsToken k p → times_of k ≡ None → sign_of k ≡ None → ((inner : Level → Parser Tree) (t : Tree) (i : Input) → test_by columns inner t k i ≡ against columns inner t (Some op) i) → is_condition ka ≡ false → is_condition kb ≡ false → max da db + 1 ≤ 1000 → (n : ℕ) → max na nb + 1 ≤ n → (z : Input) → Bare z → IsEnd (kind z)
        → condition columns (expr columns n) ((parens ta <+> word p <+> parens tb) z) ≡ Some (tree (exprs.Compare op a b) (max da db + 1) Condition, z)
    unfolding against
    compare_read op k p t times sign by sa sb most zero le z bare is = absurd (omega (arith, le))
    compare_read op k p t times sign by sa sb most (suc m) le z bare is =
        let inner = expr columns (suc m) in
        let y = parens tb z in
        let i = parens ta (word p y) in
        let c = tree (exprs.Compare op a b) (max da db + 1) Condition in
        let behind : Parser Tree = value columns inner >>= λ t. lift (compare op (tree a da ka) t) in
        one_test columns inner i z c (parens_unturned ta (word p <+> parens tb) z)
        (tested_by columns inner k i (word p y) (tree a da ka) (Some (c, z)) (left_value k p t times sign most m le y) (kind_of_word k p t y)
        (by inner (tree a da ka) (word p y)
        ∙ ap behind (next_of_word k p t y (parens_starts tb (λ r. r) z))
        ∙ bind (λ t. lift (compare op (tree a da ka) t)) (right_value most m le z bare is)
        (lifted (compare op (tree a da ka) (tree b db kb)) c z
        (above_is true (not (is_condition ka) && not (is_condition kb)) (exprs.Compare op a b) (max da db) (no_condition (is_condition ka) (is_condition kb) sa sb) most))))
        is

    pub told_comparison : (op : FilterOp) (k : TokenKind) (p : List ℕ) → IsToken k p → GoesBy k → times_of k ≡ None → sign_of k ≡ None → ((inner : Level → Parser Tree) (t : Tree) (i : Input) → test_by columns inner t k i ≡ against columns inner t (Some op) i) → is_condition ka ≡ false → is_condition kb ≡ false → IsTold (parens ta <+> word p <+> parens tb) (exprs.Compare op a b) (max da db + 1) (max na nb + 1) Condition
    told_comparison op k p t goes times sign by sa sb =
        by_condition (parens ta <+> word p <+> parens tb) (exprs.Compare op a b) (max da db + 1) (max na nb + 1) (front_between ta tb k p t goes left.front right.front)
        (parens_starts ta (word p <+> parens tb)) (parens_plain ta (word p <+> parens tb)) (compare_read op k p t times sign by sa sb)

    -- A condition in parentheses, before AND or OR or what ends it.
    left_negation : (k : TokenKind) (p : List ℕ) → IsToken k p → IsTested k → max da db + 1 ≤ 1000 → (m : ℕ) → max na nb + 1 ≤ suc m → (y : Input) → negation columns (expr columns (suc m)) (parens ta (word p y)) ≡ Some (tree a da ka, word p y)
    left_negation k p t is most m le y =
        let inner = expr columns (suc m) in
        let i = parens ta (word p y) in
        unturned columns inner i (parens_unturned ta (word p) y)
        ∙ untested columns inner i (word p y) (tree a da ka) (left_value k p t is.times is.sign most m le y) (subst IsTested (sym (kind_of_word k p t y)) is)

    right_negation : max da db + 1 ≤ 1000 → (m : ℕ) → max na nb + 1 ≤ suc m → (z : Input) → Bare z → IsEnd (kind z) → negation columns (expr columns (suc m)) (parens tb z) ≡ Some (tree b db kb, z)
    right_negation most m le z bare is =
        let inner = expr columns (suc m) in
        unturned columns inner (parens tb z) (parens_unturned tb (λ r. r) z)
        ∙ untested columns inner (parens tb z) z (tree b db kb) (right_value most m le z bare is) is.test

    and_read : is_condition ka ≡ true → is_condition kb ≡ true → max da db + 1 ≤ 1000 → (n : ℕ) → max na nb + 1 ≤ n → (z : Input) → Bare z → IsEnd (kind z)
        → condition columns (expr columns n) ((parens ta <+> spell "AND" <+> parens tb) z) ≡ Some (tree (exprs.And a b) (max da db + 1) Condition, z)
    unfolding condition conjunction
    and_read sa sb most zero le z bare is = absurd (omega (arith, le))
    and_read sa sb most (suc m) le z bare is =
        let inner = expr columns (suc m) in
        let y = parens tb z in
        let i = parens ta (spell "AND" y) in
        let c = tree (exprs.And a b) (max da db + 1) Condition in
        alone or_of (λ _. either) (conjunction columns inner) i z c
        (two and_of (λ _. both) (negation columns inner) tt k.And (codes "AND") i y z (tree a da ka) (tree b db kb) c and_token refl (parens_starts tb (λ r. r) z)
        (left_negation k.And (codes "AND") and_token at_and most m le y) (right_negation most m le z bare is)
        (above_is true (is_condition ka && is_condition kb) (exprs.And a b) (max da db) (conditions (is_condition ka) (is_condition kb) sa sb) most)
        is.conjoined)
        is.disjoined

    pub told_and : is_condition ka ≡ true → is_condition kb ≡ true → IsTold (parens ta <+> spell "AND" <+> parens tb) (exprs.And a b) (max da db + 1) (max na nb + 1) Condition
    told_and sa sb =
        by_condition (parens ta <+> spell "AND" <+> parens tb) (exprs.And a b) (max da db + 1) (max na nb + 1)
        (front_between ta tb k.And (codes "AND") and_token (λ schema more i. refl) left.front right.front)
        (parens_starts ta (spell "AND" <+> parens tb)) (parens_plain ta (spell "AND" <+> parens tb)) (and_read sa sb)

    or_read : is_condition ka ≡ true → is_condition kb ≡ true → max da db + 1 ≤ 1000 → (n : ℕ) → max na nb + 1 ≤ n → (z : Input) → Bare z → IsEnd (kind z)
        → condition columns (expr columns n) ((parens ta <+> spell "OR" <+> parens tb) z) ≡ Some (tree (exprs.Or a b) (max da db + 1) Condition, z)
    unfolding condition conjunction
    or_read sa sb most zero le z bare is = absurd (omega (arith, le))
    or_read sa sb most (suc m) le z bare is =
        let inner = expr columns (suc m) in
        let y = parens tb z in
        let i = parens ta (spell "OR" y) in
        let c = tree (exprs.Or a b) (max da db + 1) Condition in
        two or_of (λ _. either) (conjunction columns inner) tt k.Or (codes "OR") i y z (tree a da ka) (tree b db kb) c or_token refl (parens_starts tb (λ r. r) z)
        (alone and_of (λ _. both) (negation columns inner) i (spell "OR" y) (tree a da ka) (left_negation k.Or (codes "OR") or_token at_or most m le y) (ap and_of (kind_of_word k.Or (codes "OR") or_token y)))
        (alone and_of (λ _. both) (negation columns inner) y z (tree b db kb) (right_negation most m le z bare is) is.conjoined)
        (above_is true (is_condition ka && is_condition kb) (exprs.Or a b) (max da db) (conditions (is_condition ka) (is_condition kb) sa sb) most)
        is.disjoined

    pub told_or : is_condition ka ≡ true → is_condition kb ≡ true → IsTold (parens ta <+> spell "OR" <+> parens tb) (exprs.Or a b) (max da db + 1) (max na nb + 1) Condition
    told_or sa sb =
        by_condition (parens ta <+> spell "OR" <+> parens tb) (exprs.Or a b) (max da db + 1) (max na nb + 1)
        (front_between ta tb k.Or (codes "OR") or_token (λ schema more i. refl) left.front right.front)
        (parens_starts ta (spell "OR" <+> parens tb)) (parens_plain ta (spell "OR" <+> parens tb)) (or_read sa sb)

  -- One operand.
  module _ (ta : Front) (a : Expr) (da na : ℕ) (ka : ExprKind) (only : IsTold ta a da na ka) where
    pub only_value : (k : TokenKind) (p : List ℕ) → IsToken k p → times_of k ≡ None → sign_of k ≡ None → da + 1 ≤ 1000 → (m : ℕ) → na ≤ m → (y : Input) → value columns (expr columns (suc m)) (parens ta (word p y)) ≡ Some (tree a da ka, word p y)
    only_value k p t times sign most m le y =
        parens_value ta a da na ka only (omega (arith, most)) m le (word p y) (t.bare y)
        (ap times_of (kind_of_word k p t y) ∙ times) (ap sign_of (kind_of_word k p t y) ∙ sign)

    last_value : da + 1 ≤ 1000 → (m : ℕ) → na ≤ m → (z : Input) → Bare z → IsEnd (kind z) → value columns (expr columns (suc m)) (parens ta z) ≡ Some (tree a da ka, z)
    last_value most m le z bare is = parens_value ta a da na ka only (omega (arith, most)) m le z bare is.test.times is.test.sign

    -- IS NULL behind it.
    null_read : is_condition ka ≡ false → da + 1 ≤ 1000 → (n : ℕ) → na + 1 ≤ n → (z : Input) → Bare z → IsEnd (kind z)
        → condition columns (expr columns n) ((parens ta <+> spell "IS" <+> spell "NULL") z) ≡ Some (tree (exprs.IsNull a) (da + 1) Condition, z)
    unfolding null_test same_kind
    null_read sa most zero le z bare is = absurd (omega (arith, le))
    null_read sa most (suc m) le z bare is =
        let inner = expr columns (suc m) in
        let y = spell "NULL" z in
        let i = parens ta (spell "IS" y) in
        let c = tree (exprs.IsNull a) (da + 1) Condition in
        let chosen : Bool → Tree → Parser Tree = λ b t. if b then lift (opposite t) else pure t in
        let behind : Bool → Parser Tree = λ b. expect k.Null >> (lift (is_null (tree a da ka)) >>= chosen b) in
        one_test columns inner i z c (parens_unturned ta (spell "IS" <+> spell "NULL") z)
        (tested_by columns inner k.Is i (spell "IS" y) (tree a da ka) (Some (c, z)) (only_value k.Is (codes "IS") is_token refl refl most m (omega (arith, le)) y) (kind_of_word k.Is (codes "IS") is_token y)
        (ap (eat k.Not >>= behind) (next_of_word k.Is (codes "IS") is_token y (null_token.bare z))
        ∙ bind behind {o = eat k.Not y} (eats_none k.Not y (sees_other k.Null k.Not (codes "NULL") null_token refl z))
        (bind (λ _. lift (is_null (tree a da ka)) >>= chosen false) (expects_word k.Null (codes "NULL") null_token z bare)
        (bind (chosen false) (lifted (is_null (tree a da ka)) c z (above_is true (not (is_condition ka)) (exprs.IsNull a) da (turned (is_condition ka) sa) most)) refl))))
        is

    pub told_null : is_condition ka ≡ false → IsTold (parens ta <+> spell "IS" <+> spell "NULL") (exprs.IsNull a) (da + 1) (na + 1) Condition
    told_null sa =
        by_condition (parens ta <+> spell "IS" <+> spell "NULL") (exprs.IsNull a) (da + 1) (na + 1)
        (front_both (parens ta) (spell "IS" <+> spell "NULL") (front_parens ta only.front) (front_both (spell "IS") (spell "NULL") (front_word k.Is (codes "IS") is_token (λ schema more i. refl)) (front_word k.Null (codes "NULL") null_token (λ schema more i. refl))))
        (parens_starts ta (spell "IS" <+> spell "NULL")) (parens_plain ta (spell "IS" <+> spell "NULL")) (null_read sa)

    -- NOT before it.
    not_read : is_condition ka ≡ true → da + 1 ≤ 1000 → (n : ℕ) → na + 2 ≤ n → (z : Input) → Bare z → IsEnd (kind z)
        → condition columns (expr columns n) ((spell "NOT" <+> parens ta) z) ≡ Some (tree (exprs.Not a) (da + 1) Condition, z)
    unfolding expr at negation
    not_read sa most zero le z bare is = absurd (omega (arith, le))
    not_read sa most (suc zero) le z bare is = absurd (omega (arith, le))
    not_read sa most (suc (suc m)) le z bare is =
        let inner = expr columns (suc (suc m)) in
        let y = parens ta z in
        let i = spell "NOT" y in
        let c = tree (exprs.Not a) (da + 1) Condition in
        one_negation columns inner i z c
        (ap (λ b. (if b then inner level.Turned else test columns inner) (after k.Not i)) (sees_word k.Not (codes "NOT") not_token y)
        ∙ ap (inner level.Turned) (after_word k.Not (codes "NOT") not_token y (parens_starts ta (λ r. r) z))
        ∙ bind (λ t. lift (opposite t)) {o = negation columns (expr columns (suc m)) y}
        (unturned columns (expr columns (suc m)) y (parens_unturned ta (λ r. r) z)
        ∙ untested columns (expr columns (suc m)) y z (tree a da ka) (last_value most m (omega (arith, le)) z bare is) is.test)
        (lifted (opposite (tree a da ka)) c z (above_is true (is_condition ka) (exprs.Not a) da sa most)))
        is

    pub told_not : is_condition ka ≡ true → IsTold (spell "NOT" <+> parens ta) (exprs.Not a) (da + 1) (na + 2) Condition
    unfolding same_kind
    told_not sa =
        by_condition (spell "NOT" <+> parens ta) (exprs.Not a) (da + 1) (na + 2)
        (front_both (spell "NOT") (parens ta) (front_word k.Not (codes "NOT") not_token (λ schema more i. refl)) (front_parens ta only.front))
        (λ z. not_token.bare (parens ta z)) (λ z. plain_word k.Not (codes "NOT") not_token refl refl (parens ta z)) (not_read sa)

    -- A sign before it.
    negate_read : is_condition ka ≡ false → da + 1 ≤ 1000 → (n : ℕ) → na + 2 ≤ n → (z : Input) → Bare z → IsEnd (kind z)
        → value columns (expr columns n) ((spell "-" <+> parens ta) z) ≡ Some (tree (exprs.Negate a) (da + 1) Number, z)
    unfolding expr at unary signed
    negate_read sa most zero le z bare is = absurd (omega (arith, le))
    negate_read sa most (suc zero) le z bare is = absurd (omega (arith, le))
    negate_read sa most (suc (suc m)) le z bare is =
        let inner = expr columns (suc (suc m)) in
        let y = parens ta z in
        let i = spell "-" y in
        let c = tree (exprs.Negate a) (da + 1) Number in
        one_operand columns inner i z c
        (ap (λ b. (if b then inner level.Signed else atom columns inner) (after k.Minus i)) (sees_word k.Minus (codes "-") minus_token y)
        ∙ ap (inner level.Signed) (after_word k.Minus (codes "-") minus_token y (parens_starts ta (λ r. r) z))
        ∙ rw (kind_of_word k.Open (codes "(") open_token (ta (spell ")" z)))
        (bind (λ t. lift (negate t)) {o = unary columns (expr columns (suc m)) y} (in_parens ta a da na ka only (omega (arith, most)) m (omega (arith, le)) z bare)
        (lifted (negate (tree a da ka)) c z (above_is false (not (is_condition ka)) (exprs.Negate a) da (turned (is_condition ka) sa) most))))
        is.test.times is.test.sign

    pub told_negation : is_condition ka ≡ false → IsTold (spell "-" <+> parens ta) (exprs.Negate a) (da + 1) (na + 2) Number
    unfolding same_kind
    told_negation sa =
        by_value (spell "-" <+> parens ta) (exprs.Negate a) (da + 1) (na + 2) Number
        (front_both (spell "-") (parens ta) (front_word k.Minus (codes "-") minus_token (λ schema more i. refl)) (front_parens ta only.front))
        (λ z. minus_token.bare (parens ta z)) (λ z. plain_word k.Minus (codes "-") minus_token refl refl (parens ta z)) (λ z. sees_other k.Minus k.Not (codes "-") minus_token refl (parens ta z)) (negate_read sa)
