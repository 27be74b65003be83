-- The first items of chunks, and what an edit of the chunks makes of them.
--     firsts_set, firsts_same, firsts_removed, firsts_inserted      one chunk is another one, is gone, is new
--     may_first, may_none, may_take, may_insert, may_remove, may_put, may_read, no_first      what a chunk begins with
--     split_firsts, without_firsts, renewed, renewed_pair      what is left after a split, a removal and a renewal
use Rattle.std.proofs.Common.{◌≡◌, ◌≢◌, ℕ, zero, suc, ◌+◌, ◌<◌, ◌≤◌, List, [], ◌∷◌, length, get_or, set, take, remove, slice_get, Some, None, sym, refl, ap, subst, ◌∙◌, arith}
use Rattle.std.specs.List.{insert}
use Rattle.std.proofs.lemmas.List.{length-set, get_or_read, get_or-set_other}
use Rattle.std.proofs.lemmas.List.Edits.{length-insert, length-remove}
use Rattle.std.proofs.lemmas.Option.{same_Some}
use Rattle.index_tree.specs.Chunked.{chunk_at, MayBeginWith, EachBeginsWith, AreFirsts}
use Rattle.index_tree.proofs.Elements.{some_is_none}
use Rattle.index_tree.proofs.Shaped.{at_set}

module _ {X : Type 0} where
  begin_set : (firsts : List X) (chunks : List (List X)) (c : ℕ) (first : X) (new : List X) → EachBeginsWith firsts chunks → MayBeginWith first new → EachBeginsWith (set firsts c first) (set chunks c new)
  begin_set [] chunks c first new begin may = tt
  begin_set (y ∷ ys) [] zero first new begin may = tt
  begin_set (y ∷ ys) [] (suc c) first new begin may = tt
  begin_set (y ∷ ys) (xs ∷ rest) zero first new begin may = (may, begin.1)
  begin_set (y ∷ ys) (xs ∷ rest) (suc c) first new begin may = (begin.0, begin_set ys rest c first new begin.1 may)

  begin_same : (firsts : List X) (chunks : List (List X)) (c : ℕ) (new : List X) → EachBeginsWith firsts chunks → ((first : X) → MayBeginWith first (chunk_at chunks c) → MayBeginWith first new) → EachBeginsWith firsts (set chunks c new)
  begin_same [] chunks c new begin same = tt
  begin_same (y ∷ ys) [] c new begin same = tt
  begin_same (y ∷ ys) (xs ∷ rest) zero new begin same = (same y begin.0, begin.1)
  begin_same (y ∷ ys) (xs ∷ rest) (suc c) new begin same = (begin.0, begin_same ys rest c new begin.1 same)

  begin_none : (firsts : List X) → EachBeginsWith firsts []
  begin_none [] = tt
  begin_none (y ∷ ys) = tt

  begin_removed : (firsts : List X) (chunks : List (List X)) (c : ℕ) → EachBeginsWith firsts chunks → EachBeginsWith (remove firsts c) (remove chunks c)
  begin_removed [] chunks zero begin = tt
  begin_removed [] chunks (suc c) begin = tt
  begin_removed (y ∷ ys) [] zero begin = begin_none ys
  begin_removed (y ∷ ys) [] (suc c) begin = tt
  begin_removed (y ∷ ys) (xs ∷ rest) zero begin = begin.1
  begin_removed (y ∷ ys) (xs ∷ rest) (suc c) begin = (begin.0, begin_removed ys rest c begin.1)

  begin_inserted : (firsts : List X) (chunks : List (List X)) (c : ℕ) (first : X) (new : List X) → c ≤ length firsts → c ≤ length chunks → EachBeginsWith firsts chunks → MayBeginWith first new → EachBeginsWith (insert firsts c first) (insert chunks c new)
  begin_inserted firsts chunks zero first new within inside begin may = (may, begin)
  begin_inserted [] chunks (suc c) first new within inside begin may = absurd (omega arith)
  begin_inserted (y ∷ ys) [] (suc c) first new within inside begin may = absurd (omega arith)
  begin_inserted (y ∷ ys) (xs ∷ rest) (suc c) first new within inside begin may = (begin.0, begin_inserted ys rest c first new (omega arith) (omega arith) begin.1 may)

  -- a chunk that is another one now
  pub firsts_set : (firsts : List X) (chunks : List (List X)) (c : ℕ) (first : X) (new : List X) → AreFirsts firsts chunks → MayBeginWith first new → AreFirsts (set firsts c first) (set chunks c new)
  firsts_set firsts chunks c first new are may = record {
    number = length-set firsts c first ∙ are.number ∙ sym (length-set chunks c new);
    begin = begin_set firsts chunks c first new are.begin may;
  }

  -- and that begins as before
  pub firsts_same : (firsts : List X) (chunks : List (List X)) (c : ℕ) (new : List X) → AreFirsts firsts chunks → ((first : X) → MayBeginWith first (chunk_at chunks c) → MayBeginWith first new) → AreFirsts firsts (set chunks c new)
  firsts_same firsts chunks c new are same = record {
    number = are.number ∙ sym (length-set chunks c new);
    begin = begin_same firsts chunks c new are.begin same;
  }

  pub firsts_removed : (firsts : List X) (chunks : List (List X)) (c : ℕ) → c < length chunks → AreFirsts firsts chunks → AreFirsts (remove firsts c) (remove chunks c)
  firsts_removed firsts chunks c inside are = record {
    number = omega (arith, are.number, length-remove firsts c (omega (arith, are.number)), length-remove chunks c inside);
    begin = begin_removed firsts chunks c are.begin;
  }

  pub firsts_inserted : (firsts : List X) (chunks : List (List X)) (c : ℕ) (first : X) (new : List X) → c ≤ length chunks → AreFirsts firsts chunks → MayBeginWith first new → AreFirsts (insert firsts c first) (insert chunks c new)
  firsts_inserted firsts chunks c first new inside are may = record {
    number = omega (arith, are.number, length-insert firsts c first (omega (arith, are.number)), length-insert chunks c new inside);
    begin = begin_inserted firsts chunks c first new (omega (arith, are.number)) inside are.begin may;
  }

  pub may_first : (xs : List X) (first : X) → slice_get xs 0 ≡ Some first → MayBeginWith first xs
  may_first [] first is = tt
  may_first (x ∷ xs) first is = sym (same_Some x first is)

  pub may_none : (xs : List X) (first : X) → xs ≡ [] → MayBeginWith first xs
  may_none [] first is = tt
  may_none (x ∷ xs) first is = cc

  pub may_take : (k : ℕ) (xs : List X) (first : X) → MayBeginWith first xs → MayBeginWith first (take k xs)
  may_take zero xs first may = tt
  may_take (suc k) [] first may = tt
  may_take (suc k) (x ∷ xs) first may = may

  -- the chunk that is read where it was set
  pub read_set : (xs : List (List X)) (c : ℕ) (new it : List X) → c < length xs → it ≡ get_or (set xs c new) c it → it ≡ new
  read_set [] c new it inside is = absurd (omega arith)
  read_set (x ∷ xs) zero new it inside is = is
  read_set (x ∷ xs) (suc c) new it inside is = read_set xs c new it (omega arith) is

  pub may_insert : (xs : List X) (k : ℕ) (x first : X) → 0 < k → k ≤ length xs → MayBeginWith first xs → MayBeginWith first (insert xs k x)
  may_insert xs zero x first some within may = absurd (omega arith)
  may_insert [] (suc k) x first some within may = absurd (omega arith)
  may_insert (y ∷ ys) (suc k) x first some within may = may

  pub may_remove : (xs : List X) (k : ℕ) (first : X) → 0 < k → MayBeginWith first xs → MayBeginWith first (remove xs k)
  may_remove xs zero first some may = absurd (omega arith)
  may_remove [] (suc k) first some may = tt
  may_remove (y ∷ ys) (suc k) first some may = may

  pub may_put : (xs : List X) (k : ℕ) (first : X) → k ≡ 0 → MayBeginWith first (insert xs k first)
  may_put xs zero first none = refl
  may_put xs (suc k) first none = absurd (omega arith)

  pub may_read : (xs : List X) (first : X) → first ≡ get_or xs 0 first → MayBeginWith first xs
  may_read [] first is = tt
  may_read (x ∷ xs) first is = is

  pub no_first : (xs : List X) → slice_get xs 0 ≡ None → xs ≡ []
  no_first [] none = refl
  no_first (x ∷ xs) none = absurd (some_is_none x none)

  -- the upper half of a chunk comes to stand behind it
  pub split_firsts : (firsts : List X) (chunks : List (List X)) (c : ℕ) (first : X) (it lower upper : List X) → AreFirsts firsts chunks → c < length chunks → it ≡ get_or chunks c it → lower ≡ take 128 it → MayBeginWith first upper → AreFirsts (insert firsts (c + 1) first) (insert (set chunks c lower) (c + 1) upper)
  split_firsts firsts chunks c first it lower upper are inside it_is lower_is may =
      let there : it ≡ chunk_at chunks c = get_or_read chunks c it inside it_is [] in
      let half : lower ≡ take 128 (chunk_at chunks c) = lower_is ∙ ap (λ (xs : List X). take 128 xs) there in
      firsts_inserted firsts (set chunks c lower) (c + 1) first upper (omega (arith, length-set chunks c lower)) (firsts_same firsts chunks c lower are (λ f old. rw half (may_take 128 (chunk_at chunks c) f old))) may

  -- a chunk is taken out
  pub without_firsts : (firsts less : List X) (chunks without : List (List X)) (c : ℕ) → AreFirsts firsts chunks → c < length chunks → less ≡ remove firsts c → without ≡ remove chunks c → AreFirsts less without
  without_firsts firsts less chunks without c are inside less_is without_is = rw (less_is, without_is) (firsts_removed firsts chunks c inside are)

  -- what a renewal says of the firsts of all chunks
  abbrev pub Renews : (firsts done : List X) (c : ℕ) (it : List X) → Type 0
  Renews firsts done c it = (chunks : List (List X)) → AreFirsts firsts chunks → AreFirsts done (set chunks c it)

  -- by a chunk that is read where it was changed
  pub renewed : (firsts done : List X) (chunks : List (List X)) (c : ℕ) (new it : List X) → AreFirsts firsts chunks → c < length chunks → it ≡ get_or (set chunks c new) c it → Renews firsts done c it → AreFirsts done (set chunks c new)
  renewed firsts done chunks c new it are inside it_is renews =
      subst (λ (xs : List X). AreFirsts done (set chunks c xs)) (read_set chunks c new it inside it_is) (renews chunks are)

  -- and by two of them
  pub renewed_pair : (firsts once twice : List X) (chunks : List (List X)) (a b : ℕ) (new_a new_b it_a it_b : List X) → AreFirsts firsts chunks → a ≢ b → a < length chunks → b < length chunks → it_a ≡ get_or (set (set chunks a new_a) b new_b) a it_a → it_b ≡ get_or (set (set chunks a new_a) b new_b) b it_b → Renews firsts once a it_a → Renews once twice b it_b → AreFirsts twice (set (set chunks a new_a) b new_b)
  renewed_pair firsts once twice chunks a b new_a new_b it_a it_b are apart inside_a inside_b a_is b_is renews_a renews_b =
      let done = set (set chunks a new_a) b new_b in
      let size = length-set chunks a new_a in
      let sizes = length-set (set chunks a new_a) b new_b in
      let same_a : it_a ≡ new_a = get_or_read done a it_a (omega arith) a_is [] ∙ get_or-set_other (set chunks a new_a) b a new_b [] apart ∙ at_set chunks a new_a inside_a in
      let same_b : it_b ≡ new_b = read_set (set chunks a new_a) b new_b it_b (omega arith) b_is in
      subst (λ (xs : List X). AreFirsts twice (set (set chunks a xs) b new_b)) same_a (subst (λ (xs : List X). AreFirsts twice (set (set chunks a it_a) b xs)) same_b (renews_b (set chunks a it_a) (renews_a chunks are)))
