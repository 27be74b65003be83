-- Texts that begin with a token, and that a look ahead for FROM passes.
use Rattle.std.proofs.Common.{◌≡◌, ℕ, zero, suc, ◌+◌, ◌≤◌, false, List, [], ◌∷◌, length, refl, ap, ◌∙◌, arith, length-append}
use Rattle.std.specs.Prelude.{codes, ⊤}
use Rattle.row_types.specs.declared.tables.Schema.{Schema}
use Rattle.sql_parse.specs.declared.token_kinds.TokenKind.{TokenKind}
use Rattle.sql_parse.specs.declared.token_kinds.TokenKind.TheVariants as k
use Rattle.sql_parse.specs.Lex.{same_kind}
use Rattle.sql_parse.specs.Input.{Input, Outcome, Parser, ◌>>◌, take_token, sees}
use Rattle.sql_parse.specs.Statements.{ahead_by, table_ahead_from}
use Rattle.sql_parse.specs.Spelling.{Front, ◌<+>◌, word, spell, parens, commas}
use Rattle.sql_parse.proofs.Pieces.{Bare, IsToken, kind_of_word, next_of_word}
use Rattle.sql_parse.proofs.Fixed.{open_token, close_token, comma_token}

-- The table of the next FROM is this, however many turns more than its bytes are left.
abbrev pub Ahead : Schema → Outcome ℕ → Input → Type 0
Ahead schema r i = (m : ℕ) → length i ≤ m → table_ahead_from schema m i ≡ r

-- A look ahead goes on behind such a token.
abbrev pub GoesBy : TokenKind → Type 0
GoesBy k = (schema : Schema) (more : Parser ℕ) (i : Input) → ahead_by schema more k i ≡ (take_token >> more) i

pub record IsFront (a : Front) : Type 0 where
  pub bare : (z : Input) → Bare z → Bare (a z)
  pub passes : (schema : Schema) (r : Outcome ℕ) (z : Input) → Bare z → Ahead schema r z → Ahead schema r (a z)
  pub longer : (z : Input) → suc (length z) ≤ length (a z)

pub length_word : (p z : List ℕ) → length (word p z) ≡ suc (length p + length z)
length_word p z = omega (arith, length-append p (32 ∷ z))

pass_word : (k : TokenKind) (p : List ℕ) → IsToken k p → GoesBy k → (schema : Schema) (r : Outcome ℕ) (z : Input) → Bare z → Ahead schema r z → Ahead schema r (word p z)
unfolding table_ahead_from
pass_word k p t by schema r z bare ahead zero le = absurd (omega (arith, le, length_word p z))
pass_word k p t by schema r z bare ahead (suc m) le =
    let left : length z ≤ m = omega (arith, le, length_word p z) in
    ap (λ x. ahead_by schema (table_ahead_from schema m) x (word p z)) (kind_of_word k p t z)
    ∙ by schema (table_ahead_from schema m) (word p z)
    ∙ ap (table_ahead_from schema m) (next_of_word k p t z bare)
    ∙ ahead m left

pub front_word : (k : TokenKind) (p : List ℕ) → IsToken k p → GoesBy k → IsFront (word p)
front_word k p t by = record {
  bare = λ z _. t.bare z;
  passes = pass_word k p t by;
  longer = λ z. omega (arith, length_word p z);
}

pub front_both : (a b : Front) → IsFront a → IsFront b → IsFront (a <+> b)
front_both a b fa fb = record {
  bare = λ z bare. fa.bare (b z) (fb.bare z bare);
  passes = λ schema r z bare ahead. fa.passes schema r (b z) (fb.bare z bare) (fb.passes schema r z bare ahead);
  longer = λ z. omega (arith, fa.longer (b z), fb.longer z);
}

pub front_open : IsFront (spell "(")
front_open = front_word k.Open (codes "(") open_token (λ schema more i. refl)

pub front_close : IsFront (spell ")")
front_close = front_word k.Close (codes ")") close_token (λ schema more i. refl)

pub front_comma : IsFront (spell ",")
front_comma = front_word k.Comma (codes ",") comma_token (λ schema more i. refl)

pub front_parens : (a : Front) → IsFront a → IsFront (parens a)
front_parens a fa = front_both (spell "(") (a <+> spell ")") front_open (front_both a (spell ")") fa front_close)

-- Each of these texts is one.
abbrev pub AreFronts : List Front → Type 0
AreFronts [] = ⊤
AreFronts (x ∷ xs) = IsFront x × AreFronts xs

pub front_commas : (x : Front) (xs : List Front) → AreFronts (x ∷ xs) → IsFront (commas (x ∷ xs))
front_commas x [] each = each.0
front_commas x (y ∷ ys) each = front_both x (spell "," <+> commas (y ∷ ys)) each.0 (front_both (spell ",") (commas (y ∷ ys)) front_comma (front_commas y ys each.1))

-- Neither `*` nor DEFAULT comes next.
pub record IsPlain (i : Input) : Type 0 where
  pub star : sees k.Star i ≡ false
  pub preset : sees k.Default i ≡ false

pub plain_word : (its : TokenKind) (p : List ℕ) → IsToken its p → same_kind its k.Star ≡ false → same_kind its k.Default ≡ false → (z : Input) → IsPlain (word p z)
unfolding sees
plain_word its p t star preset z = record {
  star = ap (λ x. same_kind x k.Star) (kind_of_word its p t z) ∙ star;
  preset = ap (λ x. same_kind x k.Default) (kind_of_word its p t z) ∙ preset;
}
