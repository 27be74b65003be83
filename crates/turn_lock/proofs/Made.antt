-- What a pass made of a history.
use Rattle.std.proofs.Common.{◌≡◌, ◌≢◌, ℕ, ◌+◌, ◌<◌, ◌≤◌, Bool, true, false, eq-eqb, ne_eqb, List, [], ◌∷◌, ◌++◌, length, refl, sym, ap, ◌∙◌, append-nil, length-append, arith}
use Rattle.std.specs.Prelude.{if◌then◌else◌, ◌==◌}
use mathlib.Core.List.{IsPrefix}
use Rattle.known_lists.proofs.Prefixes.{empty_is}
use Rattle.turn_lock.specs.Histories.{made_by, AllMadeBelow}

module _ {E : Type 0} (maker : E → ℕ) where
  pub made_by_append : (n : ℕ) (xs ys : List E) → made_by maker n (xs ++ ys) ≡ made_by maker n xs ++ made_by maker n ys
  made_by_append n [] ys = refl
  made_by_append n (x ∷ xs) ys = at (maker x == n) (made_by_append n xs ys)
    where
      at : (b : Bool) → made_by maker n (xs ++ ys) ≡ made_by maker n xs ++ made_by maker n ys
          → (if b then x ∷ made_by maker n (xs ++ ys) else made_by maker n (xs ++ ys)) ≡ (if b then x ∷ made_by maker n xs else made_by maker n xs) ++ made_by maker n ys
      at true more = ap (λ (l : List E). x ∷ l) more
      at false more = more

  pub made_here : (n : ℕ) (h : List E) (e : E) → maker e ≡ n → made_by maker n (h ++ e ∷ []) ≡ made_by maker n h ++ e ∷ []
  made_here n h e is =
      made_by_append n h (e ∷ []) ∙ ap (λ (b : Bool). made_by maker n h ++ (if b then e ∷ [] else [])) (eq-eqb (maker e) n is)

  pub made_elsewhere : (n : ℕ) (h : List E) (e : E) → maker e ≢ n → made_by maker n (h ++ e ∷ []) ≡ made_by maker n h
  made_elsewhere n h e is =
      made_by_append n h (e ∷ []) ∙ ap (λ (b : Bool). made_by maker n h ++ (if b then e ∷ [] else [])) (ne_eqb (maker e) n is) ∙ append-nil (made_by maker n h)

  pub made_not_yet : (seats n : ℕ) (h : List E) → AllMadeBelow maker seats h → seats ≤ n + 1 → made_by maker n h ≡ []
  made_not_yet seats n [] a l = refl
  made_not_yet seats n (e ∷ es) a l =
      ap (λ (b : Bool). if b then e ∷ made_by maker n es else made_by maker n es) (ne_eqb (maker e) n (let f = a.0 in λ k. omega arith)) ∙ made_not_yet seats n es a.1 l

  pub made_more : (m n : ℕ) (h : List E) → AllMadeBelow maker m h → m ≤ n → AllMadeBelow maker n h
  made_more m n [] a l = tt
  made_more m n (e ∷ es) a l = ((let f = a.0 in omega arith), made_more m n es a.1 l)

  pub made_snoc : (n : ℕ) (h : List E) (e : E) → AllMadeBelow maker n h → maker e + 1 < n → AllMadeBelow maker n (h ++ e ∷ [])
  made_snoc n [] e a l = (l, tt)
  made_snoc n (x ∷ xs) e a l = (a.0, made_snoc n xs e a.1 l)

  -- what lies between two histories with the same entries of a pass has those too
  pub between : (n : ℕ) (xs ys zs mine : List E) → IsPrefix xs ys → IsPrefix ys zs → made_by maker n xs ≡ mine → made_by maker n zs ≡ mine → made_by maker n ys ≡ mine
  between n xs ys zs mine p q a b =
      let first : made_by maker n ys ≡ mine ++ made_by maker n p.0 = ap (made_by maker n) (sym p.1) ∙ made_by_append n xs p.0 ∙ ap (λ (l : List E). l ++ made_by maker n p.0) a in
      let last : mine ≡ made_by maker n ys ++ made_by maker n q.0 = sym b ∙ ap (made_by maker n) (sym q.1) ∙ made_by_append n ys q.0 in
      let l = ap (λ (t : List E). length t) first in
      let m = ap (λ (t : List E). length t) last in
      let none : made_by maker n p.0 ≡ [] = empty_is (made_by maker n p.0) (omega (arith, length-append mine (made_by maker n p.0), length-append (made_by maker n ys) (made_by maker n q.0))) in
      first ∙ ap (λ (t : List E). mine ++ t) none ∙ append-nil mine
