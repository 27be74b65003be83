-- Rules of reading by the rules that they are made of.
use Rattle.std.proofs.Common.{◌≡◌, ℕ, zero, suc, ◌+◌, false, List, ◌∷◌, length, Option, Some, None, refl, ap, ◌∙◌, arith, length-append}
use Rattle.std.specs.Prelude.{if◌then◌else◌}
use Rattle.row_types.specs.declared.columns.Column.{Column}
use Rattle.sql_parse.specs.declared.token_kinds.TokenKind.{TokenKind}
use Rattle.sql_parse.specs.declared.token_kinds.TokenKind.TheVariants as k
use Rattle.sql_parse.specs.declared.trees.Tree.{Tree}
use Rattle.sql_parse.specs.declared.grammar.Level.{Level}
use Rattle.sql_parse.specs.declared.grammar.Level.TheVariants as level
use Rattle.sql_parse.specs.Lex.{token, same_kind}
use Rattle.sql_parse.specs.Trees.{arith as operation, both, either}
use Rattle.sql_parse.specs.Input.{Input, Outcome, Parser, and_then, ◌>>=◌, ◌>>◌, pure, lift, peek, kind, next, sees, after, expect}
use Rattle.sql_parse.specs.Grammar.{goes_on, grouped_from, grouped_rest, grouped, sign_of, times_of, and_of, or_of, group, atom_by, atom, unary, term, value, against, test_by, test, negation, conjunction, condition}
use Rattle.sql_parse.specs.Spelling.{Front, word, spell, parens}
use Rattle.sql_parse.proofs.Pieces.{Bare, IsToken, kind_of_word, next_of_word, expects_word}
use Rattle.sql_parse.proofs.Fixed.{open_token, close_token}

-- What is read first, and then what is read behind it.
pub bind : {A B : Type 0} (f : A → Parser B) {o : Outcome A} {a : A} {j : Input} {r : Outcome B} → o ≡ Some (a, j) → f a j ≡ r → and_then o f ≡ r
bind f e rest = ap (λ o. and_then o f) e ∙ rest

-- Nothing goes on where no operator stands.
pub stops : {O : Type 0} (operator : TokenKind → Option O) (join : O → Tree → Tree → Option Tree) (operand : Parser Tree) (n : ℕ) (a : Tree) (i : Input) → operator (kind i) ≡ None → grouped_from operator join operand n a i ≡ Some (a, i)
unfolding grouped_from
stops operator join operand zero a i none = refl
stops operator join operand (suc n) a i none = ap (λ o. goes_on join operand (grouped_from operator join operand n) a o i) none

-- An operand alone.
pub alone : {O : Type 0} (operator : TokenKind → Option O) (join : O → Tree → Tree → Option Tree) (operand : Parser Tree) (i j : Input) (a : Tree) → operand i ≡ Some (a, j) → operator (kind j) ≡ None → grouped operator join operand i ≡ Some (a, j)
alone operator join operand i j a read none = bind (grouped_rest operator join operand) read (stops operator join operand (length j) a j none)

-- Two operands, and the operator between them.
pub two : {O : Type 0} (operator : TokenKind → Option O) (join : O → Tree → Tree → Option Tree) (operand : Parser Tree) (o : O) (k : TokenKind) (p : List ℕ) (i y z : Input) (a b c : Tree) → IsToken k p → operator k ≡ Some o → Bare y → operand i ≡ Some (a, word p y) → operand y ≡ Some (b, z) → join o a b ≡ Some c → operator (kind z) ≡ None → grouped operator join operand i ≡ Some (c, z)
unfolding grouped_from
two operator join operand o k p i y z a b c t is bare first second made none =
    let turns : length (word p y) ≡ suc (length p + length y) = omega (arith, length-append p (32 ∷ y)) in
    let again = grouped_from operator join operand (length p + length y) in
    let behind : Parser Tree = operand >>= λ b. lift (join o a b) >>= again in
    bind (grouped_rest operator join operand) first
    (ap (λ n. grouped_from operator join operand n a (word p y)) turns
    ∙ ap (λ x. goes_on join operand again a (operator x) (word p y)) (kind_of_word k p t y)
    ∙ ap (λ x. goes_on join operand again a x (word p y)) is
    ∙ ap behind (next_of_word k p t y bare)
    ∙ bind (λ b. lift (join o a b) >>= again) second
    (ap (λ (x : Option Tree). and_then (lift x z) again) made ∙ stops operator join operand (length p + length y) c z none))

module _ (columns : List Column) (inner : Level → Parser Tree) where
  -- What stands in parentheses is an operand.
  pub enclosed : (a : Front) (t : Tree) (z : Input) → Bare (a (spell ")" z)) → Bare z → inner level.Condition (a (spell ")" z)) ≡ Some (t, spell ")" z) → unary columns inner (parens a z) ≡ Some (t, z)
  unfolding unary atom group sees after kind token same_kind
  enclosed a t z starts bare read =
      let inside : Parser Tree = inner level.Condition >>= λ t. expect k.Close >> pure t in
      ap inside (next_of_word k.Open _ open_token (a (spell ")" z)) starts)
      ∙ bind (λ t. expect k.Close >> pure t) read
      (bind (λ _. pure t) (expects_word k.Close _ close_token z bare) refl)

  -- An operand, which no sign goes before.
  pub unsigned : (i : Input) → sees k.Minus i ≡ false → unary columns inner i ≡ atom columns inner i
  unfolding unary after
  unsigned i none = ap (λ b. (if b then inner level.Signed else atom columns inner) (if b then next i else i)) none

  pub atom_as : (k : TokenKind) (i : Input) → kind i ≡ k → atom columns inner i ≡ atom_by columns inner k i
  unfolding atom
  atom_as k i is = ap (λ x. atom_by columns inner x i) is

  -- A value of one operand.
  pub one_operand : (i z : Input) (a : Tree) → unary columns inner i ≡ Some (a, z) → times_of (kind z) ≡ None → sign_of (kind z) ≡ None → value columns inner i ≡ Some (a, z)
  unfolding term value
  one_operand i z a read no_times no_sign =
      alone sign_of operation (term columns inner) i z a (alone times_of operation (unary columns inner) i z a read no_times) no_sign

  pub untimed : (i z : Input) (a : Tree) → unary columns inner i ≡ Some (a, z) → times_of (kind z) ≡ None → term columns inner i ≡ Some (a, z)
  unfolding term
  untimed i z a read none = alone times_of operation (unary columns inner) i z a read none

-- What no test, no AND and no OR goes on with.
pub record IsTested (k : TokenKind) : Type 0 where
  pub times : times_of k ≡ None
  pub sign : sign_of k ≡ None
  pub tested : (columns : List Column) (inner : Level → Parser Tree) (a : Tree) (i : Input) → test_by columns inner a k i ≡ Some (a, i)

pub record IsEnd (k : TokenKind) : Type 0 where
  pub test : IsTested k
  pub conjoined : and_of k ≡ None
  pub disjoined : or_of k ≡ None

end : (k : TokenKind) → times_of k ≡ None → sign_of k ≡ None → ((columns : List Column) (inner : Level → Parser Tree) (a : Tree) (i : Input) → test_by columns inner a k i ≡ Some (a, i)) → and_of k ≡ None → or_of k ≡ None → IsEnd k
end k t s u a o = record { test = record { times = t; sign = s; tested = u }; conjoined = a; disjoined = o }

pub at_close : IsEnd k.Close
unfolding against
at_close = end k.Close refl refl (λ columns inner a i. refl) refl refl

pub at_comma : IsEnd k.Comma
unfolding against
at_comma = end k.Comma refl refl (λ columns inner a i. refl) refl refl

pub at_from : IsEnd k.From
unfolding against
at_from = end k.From refl refl (λ columns inner a i. refl) refl refl

pub at_where : IsEnd k.Where
unfolding against
at_where = end k.Where refl refl (λ columns inner a i. refl) refl refl

pub at_order : IsEnd k.Order
unfolding against
at_order = end k.Order refl refl (λ columns inner a i. refl) refl refl

pub at_limit : IsEnd k.Limit
unfolding against
at_limit = end k.Limit refl refl (λ columns inner a i. refl) refl refl

pub at_end : IsEnd k.End
unfolding against
at_end = end k.End refl refl (λ columns inner a i. refl) refl refl

pub at_and : IsTested k.And
unfolding against
at_and = record { times = refl; sign = refl; tested = λ columns inner a i. refl }

pub at_or : IsTested k.Or
unfolding against
at_or = record { times = refl; sign = refl; tested = λ columns inner a i. refl }

module _ (columns : List Column) (inner : Level → Parser Tree) where
  -- A value alone is what a test reads.
  pub untested : (i z : Input) (a : Tree) → value columns inner i ≡ Some (a, z) → IsTested (kind z) → test columns inner i ≡ Some (a, z)
  unfolding test
  untested i z a read is = bind (λ a. peek >>= test_by columns inner a) read (is.tested columns inner a z)

  -- A value with a test behind it, by the first token of that.
  pub tested_by : (k : TokenKind) (i y : Input) (a : Tree) (r : Outcome Tree) → value columns inner i ≡ Some (a, y) → kind y ≡ k → test_by columns inner a k y ≡ r → test columns inner i ≡ r
  unfolding test
  tested_by k i y a r read is rest = bind (λ a. peek >>= test_by columns inner a) read (ap (λ x. test_by columns inner a x y) is ∙ rest)

  -- A test, which no NOT goes before.
  pub unturned : (i : Input) → sees k.Not i ≡ false → negation columns inner i ≡ test columns inner i
  unfolding negation after
  unturned i none = ap (λ b. (if b then inner level.Turned else test columns inner) (if b then next i else i)) none

  -- Where nothing goes on, one test is the whole condition.
  pub one_negation : (i z : Input) (a : Tree) → negation columns inner i ≡ Some (a, z) → IsEnd (kind z) → condition columns inner i ≡ Some (a, z)
  unfolding conjunction condition
  one_negation i z a read is =
      alone or_of (λ _. either) (conjunction columns inner) i z a
      (alone and_of (λ _. both) (negation columns inner) i z a read is.conjoined) is.disjoined

  pub one_test : (i z : Input) (a : Tree) → sees k.Not i ≡ false → test columns inner i ≡ Some (a, z) → IsEnd (kind z) → condition columns inner i ≡ Some (a, z)
  one_test i z a none read is = one_negation i z a (unturned i none ∙ read) is

  pub one_value : (i z : Input) (a : Tree) → sees k.Not i ≡ false → value columns inner i ≡ Some (a, z) → IsEnd (kind z) → condition columns inner i ≡ Some (a, z)
  one_value i z a none read is = one_test i z a none (untested i z a read is.test) is
