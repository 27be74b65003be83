-- Words of a command line: one, or two.
use Rattle.std.proofs.Common.{◌≡◌, ◌≢◌, ℕ, zero, suc, ◌<◌, ◌≤◌, List, [], ◌∷◌, length, get_or, map, refl, sym, ap, ◌∙◌, Bool, true, false, eqb, arith}
use Rattle.std.specs.Str.{bytes_eq}
use Rattle.std.proofs.lemmas.Slice.Eq.{bytes_eq-Decides}

pub one_word : {A : Type 0} (f : A → List ℕ) (words : List A) (d : A) → 1 ≤ length words → length words < 2 → map f words ≡ f (get_or words 0 d) ∷ []
one_word f [] d least most = absurd (omega arith)
one_word f (a ∷ []) d least most = refl
one_word f (a ∷ b ∷ rest) d least most = absurd (omega arith)

pub two_words : {A : Type 0} (f : A → List ℕ) (words : List A) (d e : A) → 2 ≤ length words → length words < 3 → map f words ≡ f (get_or words 0 d) ∷ f (get_or words 1 e) ∷ []
two_words f [] d e least most = absurd (omega arith)
two_words f (a ∷ []) d e least most = absurd (omega arith)
two_words f (a ∷ b ∷ []) d e least most = refl
two_words f (a ∷ b ∷ c ∷ rest) d e least most = absurd (omega arith)

pub same_bytes : (r : Bool) (a b : List ℕ) → r ≡ bytes_eq a b → r ≡ true → a ≡ b
same_bytes r a b is equal = (bytes_eq-Decides a b).0 (sym is ∙ equal)

-- words that are one text are the other one exactly where the bytes of the two are the same
pub is_text : (r : Bool) (words : List (List ℕ)) (a b : List ℕ) → words ≡ a ∷ [] → r ≡ bytes_eq a b → (r ≡ true → words ≡ b ∷ []) × (words ≡ b ∷ [] → r ≡ true)
is_text r words a b one is = (
  λ equal. one ∙ ap (λ (s : List ℕ). s ∷ []) (same_bytes r a b is equal),
  λ same. is ∙ (bytes_eq-Decides a b).1 (ap (λ (ws : List (List ℕ)). get_or ws 0 []) (sym one ∙ same)),
)

not_none : (n : ℕ) → false ≡ eqb n 0 → n ≢ 0
not_none zero e = λ zero_is. absurd cc
not_none (suc n) e = λ zero_is. omega arith

pub not_empty : (bytes view : List ℕ) → view ≡ bytes → false ≡ eqb (length view) 0 → bytes ≢ []
not_empty bytes view same e = λ empty. not_none (length view) e (ap length (same ∙ empty))
