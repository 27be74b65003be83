-- What holds of all that a rule reads.
use Rattle.std.proofs.Common.{◌≡◌, ℕ, zero, suc, ◌≤◌, Bool, true, false, List, [], ◌∷◌, ◌++◌, length, Option, Some, None, refl, arith}
use Rattle.std.specs.Prelude.{if◌then◌else◌}
use Rattle.std.proofs.lemmas.List.{length-append}
use Rattle.sql_parse.specs.declared.token_kinds.TokenKind.TheVariants.{Comma}
use Rattle.sql_parse.specs.Input.{Input, Outcome, Parser, and_then, pure, sees, after, separated_from, separated}

abbrev pub Yields : {A : Type 0} → Outcome A → (A → Type 0) → Type 0
Yields (Some p) P = P p.0
Yields None P = Unit {0}

pub then_yields : {A B : Type 0} (P : B → Type 0) (o : Outcome A) (f : A → Parser B) → ((a : A) (i : Input) → Yields (f a i) P) → Yields (and_then o f) P
then_yields P None f each = tt
then_yields P (Some p) f each = each p.0 p.1

-- The same, where something is known of what came before.
pub then_keeps : {A B : Type 0} (Q : A → Type 0) (P : B → Type 0) (o : Outcome A) (f : A → Parser B) → Yields o Q → ((a : A) (i : Input) → Q a → Yields (f a i) P) → Yields (and_then o f) P
then_keeps Q P None f is each = tt
then_keeps Q P (Some p) f is each = each p.0 p.1 is

one_more : {A : Type 0} (xs : List A) (x : A) → 1 ≤ length (xs ++ x ∷ [])
one_more [] x = omega arith
one_more (y ∷ ys) x = omega arith

-- Either of two rules.
pub either_yields : {A : Type 0} (P : A → Type 0) (b : Bool) (p q : Parser A) (i : Input) → Yields (p i) P → Yields (q i) P → Yields ((if b then p else q) i) P
either_yields P true p q i first other = first
either_yields P false p q i first other = other

some_from : {A : Type 0} (item : Parser A) (n : ℕ) (found : List A) (i : Input) → Yields (separated_from item n found i) (λ xs. 1 ≤ length xs)
unfolding separated_from
some_from item zero found i = tt
some_from item (suc n) found i =
    let P = λ (xs : List _). 1 ≤ length xs in
    then_yields P (item i) _ (λ x j.
    either_yields P (sees Comma j) (separated_from item n (found ++ x ∷ [])) (pure (found ++ x ∷ [])) (after Comma j)
    (some_from item n (found ++ x ∷ []) (after Comma j)) (one_more found x))

pub some_separated : {A : Type 0} (item : Parser A) (i : Input) → Yields (separated item i) (λ xs. 1 ≤ length xs)
some_separated item i = some_from item (length i) [] i
