-- Tokens as a spelling writes them: what kind they are of, and what stands behind them.
use Rattle.std.proofs.Common.{◌≡◌, ℕ, suc, ◌+◌, true, false, List, [], ◌∷◌, ◌++◌, length, take, drop, refl, ap, ◌∙◌, arith}
use Rattle.std.specs.Prelude.{if◌then◌else◌, Some, None}
use Rattle.std.specs.List.{prefix_len}
use Rattle.sql_parse.specs.declared.token_kinds.TokenKind.{TokenKind}
use Rattle.sql_parse.specs.Lex.{Token, token, skip, is_blank, same_kind}
use Rattle.sql_parse.specs.Input.{Input, kind, spelling, next, sees, after, eat, expect, take_token}
use Rattle.sql_parse.specs.Spelling.{word}

-- A text with no white space in front.
abbrev pub Bare : Input → Type 0
Bare i = skip i ≡ i

-- What spells a token of this kind, whatever stands behind its blank.
pub record IsToken (k : TokenKind) (p : List ℕ) : Type 0 where
  pub read : (z : List ℕ) → token (word p z) ≡ (k, length p)
  pub bare : (z : List ℕ) → Bare (word p z)
  pub same : same_kind k k ≡ true

pub take_front : (p z : List ℕ) → take (length p) (p ++ z) ≡ p
take_front [] z = refl
take_front (b ∷ p) z = ap (λ (x : List ℕ). b ∷ x) (take_front p z)

pub drop_front : (p z : List ℕ) → drop (length p) (p ++ z) ≡ z
drop_front [] z = refl
drop_front (b ∷ p) z = drop_front p z

pub kind_of_word : (k : TokenKind) (p : List ℕ) → IsToken k p → (z : List ℕ) → kind (word p z) ≡ k
unfolding kind
kind_of_word k p t z = ap (λ (x : Token). x.0) (t.read z)

pub spelling_of_word : (k : TokenKind) (p : List ℕ) → IsToken k p → (z : List ℕ) → spelling (word p z) ≡ p
unfolding spelling
spelling_of_word k p t z = ap (λ (x : Token). take x.1 (word p z)) (t.read z) ∙ take_front p (32 ∷ z)

skip_blank : (z : List ℕ) → skip (32 ∷ z) ≡ skip z
skip_blank z =
    let e : 1 + prefix_len is_blank z ≡ suc (prefix_len is_blank z) = omega arith in
    ap (λ n. drop n (32 ∷ z)) e

pub next_of_word : (k : TokenKind) (p : List ℕ) → IsToken k p → (z : List ℕ) → Bare z → next (word p z) ≡ z
unfolding next
next_of_word k p t z bare =
    ap (λ (x : Token). skip (drop x.1 (word p z))) (t.read z) ∙ ap skip (drop_front p (32 ∷ z)) ∙ skip_blank z ∙ bare

pub sees_word : (k : TokenKind) (p : List ℕ) → IsToken k p → (z : List ℕ) → sees k (word p z) ≡ true
unfolding sees
sees_word k p t z = ap (λ x. same_kind x k) (kind_of_word k p t z) ∙ t.same

pub after_word : (k : TokenKind) (p : List ℕ) → IsToken k p → (z : List ℕ) → Bare z → after k (word p z) ≡ z
unfolding after
after_word k p t z bare = ap (λ b. if b then next (word p z) else word p z) (sees_word k p t z) ∙ next_of_word k p t z bare

pub eats_word : (k : TokenKind) (p : List ℕ) → IsToken k p → (z : List ℕ) → Bare z → eat k (word p z) ≡ Some (true, z)
eats_word k p t z bare = ap (λ b. Some (b, after k (word p z))) (sees_word k p t z) ∙ ap (λ j. Some (true, j)) (after_word k p t z bare)

-- Another token comes next.
pub eats_none : (k : TokenKind) (i : Input) → sees k i ≡ false → eat k i ≡ Some (false, i)
unfolding after
eats_none k i e = ap (λ b. Some (b, if b then next i else i)) e

pub expects_word : (k : TokenKind) (p : List ℕ) → IsToken k p → (z : List ℕ) → Bare z → expect k (word p z) ≡ Some (tt, z)
unfolding expect
expects_word k p t z bare =
    ap (λ b. if b then Some (tt, next (word p z)) else None) (sees_word k p t z) ∙ ap (λ j. Some (tt, j)) (next_of_word k p t z bare)

pub takes_word : (k : TokenKind) (p : List ℕ) → IsToken k p → (z : List ℕ) → Bare z → take_token (word p z) ≡ Some (p, z)
takes_word k p t z bare =
    ap (λ s. Some (s, next (word p z))) (spelling_of_word k p t z) ∙ ap (λ j. Some (p, j)) (next_of_word k p t z bare)

pub sees_other : (k other : TokenKind) (p : List ℕ) → IsToken k p → same_kind k other ≡ false → (z : List ℕ) → sees other (word p z) ≡ false
unfolding sees
sees_other k other p t none z = ap (λ x. same_kind x other) (kind_of_word k p t z) ∙ none
