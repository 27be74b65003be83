-- One step of a walk down: the last chunk is entered.
use Rattle.std.proofs.Common.{◌≡◌, ◌<◌, ◌≤◌, ℕ, zero, suc, take, List, [], ◌∷◌, ◌++◌, length, sym, refl, ap, subst, ◌∙◌, arith, append_assoc}
use Rattle.std.proofs.lemmas.List.{append-nil}
use Rattle.index_tree.specs.Chunked.{joined, chunk_at, HaveItems}
use Rattle.index_tree.proofs.Elements.{all_front, all_back}

module _ {X : Type 0} where
  joined_push : (xs : List (List X)) (x : List X) → joined (xs ++ x ∷ []) ≡ joined xs ++ x
  joined_push [] x = append-nil x
  joined_push (y ∷ ys) x = ap (λ (zs : List X). y ++ zs) (joined_push ys x) ∙ sym (append_assoc y (joined ys) x)

  pub from_last : (rest others : List (List X)) (chunk left taken : List X) → rest ≡ others ++ chunk ∷ [] → left ≡ [] → taken ≡ chunk → joined others ++ taken ≡ joined rest ++ left
  from_last rest others chunk left taken is none same =
      ap (λ (xs : List X). joined others ++ xs) same ∙ sym (joined_push others chunk) ∙ ap joined (sym is) ∙ sym (append-nil (joined rest)) ∙ ap (λ (xs : List X). joined rest ++ xs) (sym none)

  pub items_but_last : (rest others : List (List X)) (chunk : List X) → rest ≡ others ++ chunk ∷ [] → HaveItems rest → HaveItems others
  items_but_last rest others chunk is items = all_front (λ (xs : List X). 0 < length xs) others (chunk ∷ []) (subst HaveItems is items)

  pub through_last : (rest others : List (List X)) (chunk taken : List X) → rest ≡ others ++ chunk ∷ [] → HaveItems rest → taken ≡ chunk → length taken ≡ 0 → others ≡ []
  through_last rest others chunk taken is items same none =
      let last = all_back (λ (xs : List X). 0 < length xs) others (chunk ∷ []) (subst HaveItems is items) in
      let size = ap length same in
      absurd (omega (arith, last.0))

  taken_none : (k : ℕ) → take {A = X} k [] ≡ []
  taken_none zero = refl
  taken_none (suc k) = refl

  pub none_in_front : (chunks : List (List X)) (c o : ℕ) → (0 < length chunks → c < length chunks) → length chunks ≤ c → joined (take c chunks) ++ take o (chunk_at chunks c) ≡ []
  none_in_front [] zero o inside outside = taken_none o
  none_in_front [] (suc c) o inside outside = taken_none o
  none_in_front (x ∷ xs) c o inside outside = let below = inside (omega arith) in absurd (omega arith)
