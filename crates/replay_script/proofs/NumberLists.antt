-- The numbers of tokens, one token after another.
use Rattle.std.proofs.Common.{◌≡◌, ℕ, List, [], ◌∷◌, ◌++◌, Option, Some, None, refl, ap, append_assoc}
use Rattle.std.specs.Prelude.{option_map}
use Rattle.hs_token.specs.declared.tokens.Token.{Token}
use Rattle.hs_token.specs.declared.tokens.Token.TheVariants as tokens
use Rattle.hs_token.specs.Number.{u32_of}
use Rattle.replay_script.specs.Words.{numbers_of}

-- the numbers so far, before those of these tokens
abbrev pub with_numbers : List ℕ → List Token → Option (List ℕ)
with_numbers numbers tokens = option_map (λ more. numbers ++ more) (numbers_of tokens)

onto : (numbers : List ℕ) (number : ℕ) (more : Option (List ℕ)) → option_map (λ ns. (numbers ++ number ∷ []) ++ ns) more ≡ option_map (λ ns. numbers ++ ns) (option_map (λ ns. number ∷ ns) more)
onto numbers number None = refl
onto numbers number (Some ns) = ap Some (append_assoc numbers (number ∷ []) ns)

-- a text that writes a number
pub one_more : (numbers : List ℕ) (number : ℕ) (text : List ℕ) (rest : List Token) → u32_of text ≡ Some number
    → with_numbers (numbers ++ number ∷ []) rest ≡ with_numbers numbers (tokens.Text text ∷ rest)
one_more numbers number text rest is = rw is (onto numbers number (numbers_of rest))

-- a text that writes none
pub no_number : (numbers : List ℕ) (text : List ℕ) (rest : List Token) → u32_of text ≡ None → with_numbers numbers (tokens.Text text ∷ rest) ≡ None
no_number numbers text rest is = rw is refl
