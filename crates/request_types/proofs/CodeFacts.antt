-- Each refusal is found again by its number, and by its text.
use Rattle.std.proofs.Common.{◌≡◌, ◌≢◌, ◌∙◌, ℕ, List, [], Option, Some, None, refl, sym, ap}
use Rattle.std.proofs.lemmas.Option.{none-some}
use Rattle.std.specs.Prelude.{◌∷◌, if◌then◌else◌}
use Rattle.std.specs.Str.{bytes_eq}
use Rattle.request_types.specs.declared.codes.Code.{Code}
use Rattle.request_types.specs.declared.codes.Code.TheVariants.{Cmd, Args, Unauth, Token, NoIndex, Table, Index, Column, ReadOnly, Op, Vlen, In, Filter, Mod, Value, Dup, Null, Range, Full, Big, Ids, AuthKey, Syntax, Name, WrongKind}
use Rattle.request_types.specs.Code.{number, text, text_of, all_codes, code_of}

-- The first refusal with a text.
abbrev with_text : List ℕ → List Code → Option Code
with_text t [] = None
with_text t (c ∷ cs) = if bytes_eq (text c) t then Some c else with_text t cs

-- Its number finds a refusal.
by_number : (c : Code) → code_of (number c) ≡ Some c
by_number Cmd = refl
by_number Args = refl
by_number Unauth = refl
by_number Token = refl
by_number NoIndex = refl
by_number Table = refl
by_number Index = refl
by_number Column = refl
by_number ReadOnly = refl
by_number Op = refl
by_number Vlen = refl
by_number In = refl
by_number Filter = refl
by_number Mod = refl
by_number Value = refl
by_number Dup = refl
by_number Null = refl
by_number Range = refl
by_number Full = refl
by_number Big = refl
by_number Ids = refl
by_number AuthKey = refl
by_number Syntax = refl
by_number Name = refl
by_number WrongKind = refl

-- Its text finds it.
by_text : (c : Code) → with_text (text c) all_codes ≡ Some c
by_text Cmd = refl
by_text Args = refl
by_text Unauth = refl
by_text Token = refl
by_text NoIndex = refl
by_text Table = refl
by_text Index = refl
by_text Column = refl
by_text ReadOnly = refl
by_text Op = refl
by_text Vlen = refl
by_text In = refl
by_text Filter = refl
by_text Mod = refl
by_text Value = refl
by_text Dup = refl
by_text Null = refl
by_text Range = refl
by_text Full = refl
by_text Big = refl
by_text Ids = refl
by_text AuthKey = refl
by_text Syntax = refl
by_text Name = refl
by_text WrongKind = refl

some_is : (a b : Code) → Some a ≡ Some b → a ≡ b
some_is a b e = ap (λ (o : Option Code). value o) e where
  value : Option Code → Code
  value None = a
  value (Some c) = c

-- No two have one number.
pub numbers_distinct : (a b : Code) → number a ≡ number b → a ≡ b
numbers_distinct a b e = some_is a b (sym (by_number a) ∙ (ap code_of e ∙ by_number b))

-- No two have one text.
pub texts_distinct : (a b : Code) → text a ≡ text b → a ≡ b
texts_distinct a b e = some_is a b (sym (by_text a) ∙ (ap (λ (t : List ℕ). with_text t all_codes) e ∙ by_text b))

-- The text beside a refusal's number is its own.
pub text_is : (c : Code) → text_of (number c) ≡ text c
text_is Cmd = refl
text_is Args = refl
text_is Unauth = refl
text_is Token = refl
text_is NoIndex = refl
text_is Table = refl
text_is Index = refl
text_is Column = refl
text_is ReadOnly = refl
text_is Op = refl
text_is Vlen = refl
text_is In = refl
text_is Filter = refl
text_is Mod = refl
text_is Value = refl
text_is Dup = refl
text_is Null = refl
text_is Range = refl
text_is Full = refl
text_is Big = refl
text_is Ids = refl
text_is AuthKey = refl
text_is Syntax = refl
text_is Name = refl
text_is WrongKind = refl

no_code : (a : Code) → None ≡ Some a → ⊥
no_code a e = none-some a e

-- 0 is none's number.
pub not_zero : (c : Code) → number c ≢ 0
not_zero c e = no_code c (ap code_of (sym e) ∙ by_number c)

-- None's text is empty.
pub not_empty : (c : Code) → text c ≢ []
not_empty c e = no_code c (ap (λ (t : List ℕ). with_text t all_codes) (sym e) ∙ by_text c)
