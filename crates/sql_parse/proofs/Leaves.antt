-- Literals and columns as they are spelled are read.
use Rattle.std.proofs.Common.{◌≡◌, ℕ, zero, suc, ◌<◌, ◌≤◌, Bool, true, false, List, ◌∷◌, [], ◌++◌, Some, None, refl, ap, sym, ◌∙◌, arith}
use Rattle.std.specs.Prelude.{pos, negsuc, neg_ℤ, if◌then◌else◌, codes, decimal, slice_get, option_and_then}
use Rattle.std.proofs.lemmas.Bool.{lt-ltb, ltb-true}
use Rattle.row_types.specs.declared.columns.Column.{Column}
use Rattle.row_types.specs.declared.values.Value.{Value}
use Rattle.row_types.specs.declared.values.Value.TheVariants as values
use Rattle.row_types.specs.Valid.{is_name}
use Rattle.sql_value.specs.declared.exprs.Expr.{Expr}
use Rattle.sql_value.specs.declared.exprs.Expr.TheVariants as exprs
use Rattle.sql_value.specs.declared.kinds.ExprKind.{ExprKind}
use Rattle.sql_value.specs.Kinds.{kind_of_value}
use Rattle.sql_parse.specs.declared.token_kinds.TokenKind.{TokenKind}
use Rattle.sql_parse.specs.declared.token_kinds.TokenKind.TheVariants as k
use Rattle.sql_parse.specs.declared.quotes.Within.TheVariants.{Bytes}
use Rattle.sql_parse.specs.declared.trees.Tree.{Tree}
use Rattle.sql_parse.specs.declared.grammar.Level.{Level}
use Rattle.sql_parse.specs.declared.grammar.Level.TheVariants as level
use Rattle.sql_parse.specs.Lex.{same_kind}
use Rattle.sql_parse.specs.Strings.{inside, unquoted}
use Rattle.sql_parse.specs.Numbers.{number_of, positive, negative}
use Rattle.sql_parse.specs.Names.{column_place, name, name_by}
use Rattle.sql_parse.specs.Trees.{leaf}
use Rattle.sql_parse.specs.Input.{Input, Parser, pure, lift, take_token, next, after}
use Rattle.sql_parse.specs.Grammar.{literal_of, text_literal, atom_by, atom, unary, signed, at, expr}
use Rattle.sql_parse.specs.Spelling.{◌<+>◌, word, spell, quoted, number, doubled, literal, name_in, column, signs, has_bits}
use Rattle.sql_parse.proofs.Pieces.{Bare, IsToken, kind_of_word, spelling_of_word, next_of_word, sees_word, after_word, takes_word, sees_other}
use Rattle.sql_parse.proofs.Fixed.{minus_token, null_token}
use Rattle.sql_parse.proofs.Literals.{quoted_token, number_token, number_of_decimal, string_token, text_of_token, inside_ends}
use Rattle.sql_parse.proofs.Grouping.{bind, one_operand, unsigned, atom_as}
use Rattle.sql_parse.proofs.Fronts.{GoesBy, front_word, front_both, plain_word}
use Rattle.sql_parse.proofs.Sorts.{is_condition}
use Rattle.sql_parse.proofs.Told.{IsTold, tree, lifted, by_value}

-- A name between backquotes is read.
pub name_word : (t : List ℕ) → is_name t ≡ true → (z : Input) → Bare z → name (quoted t z) ≡ Some (t, z)
unfolding name
name_word t is z bare =
    let p = 96 ∷ (t ++ 96 ∷ []) in
    let i = word p z in
    ap (λ x. name_by x i) (kind_of_word k.Quoted p (quoted_token t is) z)
    ∙ ap (λ s. Some (inside 1 s, next i)) (spelling_of_word k.Quoted p (quoted_token t is) z)
    ∙ ap (λ s. Some (s, next i)) (inside_ends 96 96 t)
    ∙ ap (λ j. Some (t, j)) (next_of_word k.Quoted p (quoted_token t is) z bare)

-- The literal of a number that the bits hold.
positive_is : (n : ℕ) → n < 9223372036854775808 → literal_of (option_and_then positive (number_of (decimal n))) ≡ Some (leaf (exprs.Literal (values.Int (pos n))))
positive_is n lt =
    ap (λ o. literal_of (option_and_then positive o)) (number_of_decimal n (omega (arith, lt)))
    ∙ ap (λ b. literal_of (if b then Some (pos n) else None)) (lt-ltb n 9223372036854775808 lt)

negative_is : (n : ℕ) → n < 9223372036854775808 → literal_of (option_and_then negative (number_of (decimal (suc n)))) ≡ Some (leaf (exprs.Literal (values.Int (negsuc n))))
negative_is n lt =
    ap (λ o. literal_of (option_and_then negative o)) (number_of_decimal (suc n) (omega (arith, lt)))
    ∙ ap (λ b. literal_of (if b then Some (neg_ℤ (pos (suc n))) else None)) (lt-ltb (suc n) 9223372036854775809 (omega (arith, lt)))

module _ (columns : List Column) where
  -- A part that is one token.
  told_word : (its : TokenKind) (p : List ℕ) → IsToken its p → GoesBy its → same_kind its k.Star ≡ false → same_kind its k.Default ≡ false → same_kind its k.Not ≡ false → same_kind its k.Minus ≡ false
      → (e : Expr) (gives : ExprKind) → ((inner : Level → Parser Tree) (z : Input) → Bare z → atom_by columns inner its (word p z) ≡ Some (tree e 1 gives, z))
      → IsTold columns (word p) e 1 0 gives
  told_word its p t by star preset turn sign e gives read =
      by_value columns (word p) e 1 0 gives (front_word its p t by) t.bare (λ z. plain_word its p t star preset z) (λ z. sees_other its k.Not p t turn z)
      (λ most n le z bare is.
      one_operand columns (expr columns n) (word p z) z (tree e 1 gives)
      (unsigned columns (expr columns n) (word p z) (sees_other its k.Minus p t sign z)
      ∙ atom_as columns (expr columns n) its (word p z) (kind_of_word its p t z)
      ∙ read (expr columns n) z bare)
      is.test.times is.test.sign)

  told_nothing : IsTold columns (spell "NULL") (exprs.Literal values.Null) 1 0 (kind_of_value values.Null)
  unfolding same_kind
  told_nothing =
      told_word k.Null (codes "NULL") null_token (λ schema more i. refl) refl refl refl refl (exprs.Literal values.Null) (kind_of_value values.Null)
      (λ inner z bare. ap (λ j. Some (leaf (exprs.Literal values.Null), j)) (next_of_word k.Null (codes "NULL") null_token z bare))

  told_positive : (n : ℕ) → n < 9223372036854775808 → IsTold columns (number n) (exprs.Literal (values.Int (pos n))) 1 0 (kind_of_value (values.Int (pos n)))
  unfolding same_kind
  told_positive n lt =
      let t = number_token n (omega (arith, lt)) in
      told_word k.Number (decimal n) t (λ schema more i. refl) refl refl refl refl (exprs.Literal (values.Int (pos n))) (kind_of_value (values.Int (pos n)))
      (λ inner z bare. bind (λ digits. lift (literal_of (option_and_then positive (number_of digits)))) {o = take_token (word (decimal n) z)} (takes_word k.Number (decimal n) t z bare)
      (lifted (literal_of (option_and_then positive (number_of (decimal n)))) (leaf (exprs.Literal (values.Int (pos n)))) z (positive_is n lt)))

  told_text : (s : List ℕ) → IsTold columns (word (39 ∷ (doubled s ++ 39 ∷ []))) (exprs.Literal (values.Text s)) 1 0 (kind_of_value (values.Text s))
  unfolding same_kind
  told_text s =
      let p = 39 ∷ (doubled s ++ 39 ∷ []) in
      told_word k.Text p (string_token s) (λ schema more i. refl) refl refl refl refl (exprs.Literal (values.Text s)) (kind_of_value (values.Text s))
      (λ inner z bare. bind (λ spelled. pure (text_literal (unquoted Bytes (inside 1 spelled)))) {o = take_token (word p z)} (takes_word k.Text p (string_token s) z bare)
      (ap (λ x. Some (text_literal x, z)) (text_of_token s)))

  negative_read : (n : ℕ) → n < 9223372036854775808 → (m : ℕ) → 1 ≤ m → (z : Input) → Bare z → unary columns (expr columns m) ((spell "-" <+> number (suc n)) z) ≡ Some (tree (exprs.Literal (values.Int (negsuc n))) 1 (kind_of_value (values.Int (negsuc n))), z)
  unfolding expr at unary signed
  negative_read n lt zero le z bare = absurd (omega (arith, le))
  negative_read n lt (suc m) le z bare =
      let inner = expr columns (suc m) in
      let t = number_token (suc n) (omega (arith, lt)) in
      let y = number (suc n) z in
      let i = spell "-" y in
      ap (λ b. (if b then inner level.Signed else atom columns inner) (after k.Minus i)) (sees_word k.Minus (codes "-") minus_token y)
      ∙ ap (inner level.Signed) (after_word k.Minus (codes "-") minus_token y (t.bare z))
      ∙ rw (kind_of_word k.Number (decimal (suc n)) t z)
      (bind (λ digits. lift (literal_of (option_and_then negative (number_of digits)))) {o = take_token y} (takes_word k.Number (decimal (suc n)) t z bare)
      (lifted (literal_of (option_and_then negative (number_of (decimal (suc n))))) (leaf (exprs.Literal (values.Int (negsuc n)))) z (negative_is n lt)))

  told_negative : (n : ℕ) → n < 9223372036854775808 → IsTold columns (spell "-" <+> number (suc n)) (exprs.Literal (values.Int (negsuc n))) 1 1 (kind_of_value (values.Int (negsuc n)))
  unfolding same_kind
  told_negative n lt =
      let t = number_token (suc n) (omega (arith, lt)) in
      by_value columns (spell "-" <+> number (suc n)) (exprs.Literal (values.Int (negsuc n))) 1 1 (kind_of_value (values.Int (negsuc n)))
      (front_both (spell "-") (number (suc n)) (front_word k.Minus (codes "-") minus_token (λ schema more i. refl)) (front_word k.Number (decimal (suc n)) t (λ schema more i. refl)))
      (λ z. minus_token.bare (number (suc n) z)) (λ z. plain_word k.Minus (codes "-") minus_token refl refl (number (suc n) z)) (λ z. sees_other k.Minus k.Not (codes "-") minus_token refl (number (suc n) z))
      (λ most m le z bare is. one_operand columns (expr columns m) ((spell "-" <+> number (suc n)) z) z (tree (exprs.Literal (values.Int (negsuc n))) 1 (kind_of_value (values.Int (negsuc n)))) (negative_read n lt m le z bare) is.test.times is.test.sign)

  pub told_literal : (v : Value) → has_bits v ≡ true → IsTold columns (literal v) (exprs.Literal v) 1 (signs v) (kind_of_value v)
  told_literal values.Null held = told_nothing
  told_literal (values.Int (pos n)) held = told_positive n (ltb-true n 9223372036854775808 held)
  told_literal (values.Int (negsuc n)) held = told_negative n (ltb-true n 9223372036854775808 held)
  told_literal (values.Text s) held = told_text s

  pub told_column : (place : ℕ) (gives : ExprKind) → is_condition gives ≡ false → is_name (name_in (slice_get columns place)) ≡ true → column_place columns (name_in (slice_get columns place)) ≡ place → IsTold columns (column columns place) (exprs.Column place) 1 0 gives
  unfolding same_kind
  told_column place gives sort is found =
      let t = name_in (slice_get columns place) in
      let p = 96 ∷ (t ++ 96 ∷ []) in
      told_word k.Quoted p (quoted_token t is) (λ schema more i. refl) refl refl refl refl (exprs.Column place) gives
      (λ inner z bare. bind (λ called. pure (leaf (exprs.Column (column_place columns called)))) {o = name (word p z)} (name_word t is z bare)
      (ap (λ x. Some (leaf (exprs.Column x), z)) found
      ∙ ap (λ (b : Bool). Some (record { expr = exprs.Column place; depth = 1; is_condition = b }, z)) (sym sort)))
