-- Beginnings of a list.
use Rattle.std.proofs.Common.{◌≡◌, ◌+◌, ◌<◌, ◌≤◌, Bool, true, false, List, [], ◌∷◌, ◌++◌, length, refl, sym, ap, ◌∙◌, append_assoc, append-nil, length-append, arith}
use Rattle.std.specs.Prelude.{nat_lt, if◌then◌else◌}
use mathlib.Core.List.{IsPrefix}
use Rattle.known_lists.specs.Lists.{longer}

module _ {E : Type 0} where
  pub empty_is : (xs : List E) → length xs ≡ 0 → xs ≡ []
  empty_is [] h = refl
  empty_is (x ∷ xs) h = absurd (omega arith)

  pub prefix_all : (xs : List E) → IsPrefix xs xs
  prefix_all xs = ([], append-nil xs)

  pub prefix_none : (xs : List E) → IsPrefix [] xs
  prefix_none xs = (xs, refl)

  pub prefix_snoc : (xs ys : List E) (e : E) → IsPrefix xs ys → IsPrefix xs (ys ++ e ∷ [])
  prefix_snoc xs ys e p = (p.0 ++ e ∷ [], sym (append_assoc xs p.0 (e ∷ [])) ∙ ap (λ (l : List E). l ++ e ∷ []) p.1)

  pub prefix_length : (xs ys : List E) → IsPrefix xs ys → length xs ≤ length ys
  prefix_length xs ys p = let h = ap (λ (l : List E). length l) p.1 in omega (arith, length-append xs p.0)

  -- of two beginnings of one list the shorter one begins the longer one
  pub prefix_of : (xs ys zs : List E) → IsPrefix xs zs → IsPrefix ys zs → length xs ≤ length ys → IsPrefix xs ys
  prefix_of [] ys zs p q h = (ys, refl)
  prefix_of (x ∷ xs) [] zs p q h = absurd (omega arith)
  prefix_of (x ∷ xs) (y ∷ ys) [] p q h = absurd (cons_none p.1)
    where
      cons_none : {a : E} {more : List E} → a ∷ more ≡ [] → ⊥
      cons_none e = let l = ap (λ (t : List E). length t) e in omega arith
  prefix_of (x ∷ xs) (y ∷ ys) (z ∷ zs) p q h =
      let a = heads x z (xs ++ p.0) zs p.1 in
      let b = heads y z (ys ++ q.0) zs q.1 in
      let t = prefix_of xs ys zs (p.0, a.1) (q.0, b.1) (omega arith) in
      (t.0, (λ i. (a.0 ∙ sym b.0) i ∷ t.1 i))
    where
      head_or : E → List E → E
      head_or d [] = d
      head_or d (a ∷ more) = a

      rest_of : List E → List E
      rest_of [] = []
      rest_of (a ∷ more) = more

      heads : (a b : E) (xs ys : List E) → a ∷ xs ≡ b ∷ ys → (a ≡ b) × (xs ≡ ys)
      heads a b xs ys e = (ap (head_or a) e, ap rest_of e)

  pub prefix_whole : (xs ys : List E) → IsPrefix xs ys → length ys ≤ length xs → xs ≡ ys
  prefix_whole xs ys p h =
      let l = ap (λ (t : List E). length t) p.1 in
      let none : p.0 ≡ [] = empty_is p.0 (omega (arith, length-append xs p.0)) in
      sym (append-nil xs) ∙ ap (λ (t : List E). xs ++ t) (sym none) ∙ p.1

  -- what holds of both holds of the longer one
  pub longer_case : (P : List E → Type 0) (xs ys : List E) → (length xs < length ys → P ys) → (length ys ≤ length xs → P xs) → P (longer xs ys)
  longer_case P xs ys one two = at (nat_lt (length xs) (length ys)) refl
    where
      at : (b : Bool) → nat_lt (length xs) (length ys) ≡ b → P (if b then ys else xs)
      at true e = one (grind arith)
      at false e = two (grind arith)

  pub longer_prefix : (xs ys zs : List E) → IsPrefix xs zs → IsPrefix ys zs → IsPrefix (longer xs ys) zs
  longer_prefix xs ys zs p q = longer_case (λ t. IsPrefix t zs) xs ys (λ _. q) (λ _. p)

  pub first_prefix : (xs ys zs : List E) → IsPrefix xs zs → IsPrefix ys zs → IsPrefix xs (longer xs ys)
  first_prefix xs ys zs p q = longer_case (λ t. IsPrefix xs t) xs ys (λ h. prefix_of xs ys zs p q (omega arith)) (λ _. prefix_all xs)

  pub second_prefix : (xs ys zs : List E) → IsPrefix xs zs → IsPrefix ys zs → IsPrefix ys (longer xs ys)
  second_prefix xs ys zs p q = longer_case (λ t. IsPrefix ys t) xs ys (λ _. prefix_all ys) (λ h. prefix_of ys xs zs q p h)

  pub first_whole : (xs ys zs : List E) → xs ≡ zs → IsPrefix ys zs → longer xs ys ≡ zs
  first_whole xs ys zs e q = let m = prefix_length ys zs q in let l = ap (λ (t : List E). length t) e in longer_case (λ t. t ≡ zs) xs ys (λ h. absurd (omega arith)) (λ _. e)

  pub second_whole : (xs ys zs : List E) → IsPrefix xs zs → ys ≡ zs → longer xs ys ≡ zs
  second_whole xs ys zs p e = let l = ap (λ (t : List E). length t) e in longer_case (λ t. t ≡ zs) xs ys (λ _. e) (λ h. prefix_whole xs zs p (omega arith))
