-- What an edit of two neighbours leaves, by what each call of it handed back.
use Rattle.std.proofs.Common.{◌≡◌, ◌≢◌, inl, inr, ℕ, suc, ◌+◌, ◌-◌, ◌<◌, ◌≤◌, List, [], ◌∷◌, ◌++◌, length, get_or, set, remove, slice_get, Some, sym, refl, ap, subst, ◌∙◌, arith, append_assoc, length-append}
use Rattle.std.specs.List.{AllByRecursion, insert}
use Rattle.std.proofs.lemmas.List.{length-set, get_or_read, get_or-set_other, set_comm}
use Rattle.std.proofs.lemmas.List.Edits.{get_or-remove_below, length-remove, insert_end, length-insert}
use Rattle.std.proofs.lemmas.Option.{same_Some}
use Rattle.index_tree.specs.Chunked.{joined, chunk_at, AllBut, IsShaped, IsNearlyShaped}
use Rattle.index_tree.proofs.Joined.{joined_pair, joined_merged}
use Rattle.index_tree.proofs.Shaped.{shaped_pair, shaped_merged, all_but_next, all_but_prev, all_but_without_next, all_but_without_it, all_read}

module _ {X : Type 0} where
  -- the same items, in chunks that have their sizes
  pub record IsEvened (chunks done : List (List X)) : Type 0 where
    pub items : joined done ≡ joined chunks
    pub shaped : IsShaped done

  pub merged : (chunks without : List (List X)) (c : ℕ) (lower upper both : List X) → c + 1 < length chunks → AllByRecursion (λ xs. length xs ≤ 256) chunks → AllBut (λ xs. 128 ≤ length xs) (remove chunks (c + 1)) c
      → 128 ≤ length (chunk_at chunks c) + length (chunk_at chunks (c + 1)) → length (chunk_at chunks c) + length (chunk_at chunks (c + 1)) ≤ 256
      → upper ≡ get_or chunks (c + 1) upper → without ≡ remove chunks (c + 1) → lower ≡ get_or without c lower → both ≡ lower ++ upper → IsEvened chunks (set without c both)
  merged chunks without c lower upper both inside fits others half below upper_is without_is lower_is both_is =
      let next : c + 1 ≡ suc c = omega arith in
      let up : upper ≡ chunk_at chunks (c + 1) = get_or_read chunks (c + 1) upper inside upper_is [] in
      let size = length-remove chunks (c + 1) inside in
      let low_there : lower ≡ chunk_at without c = get_or_read without c lower (rw without_is (omega arith)) lower_is [] in
      let low : lower ≡ chunk_at chunks c = low_there ∙ ap (λ (xs : List (List X)). chunk_at xs c) without_is ∙ get_or-remove_below chunks (c + 1) [] c (omega arith) inside in
      let whole : both ≡ chunk_at chunks c ++ chunk_at chunks (suc c) = both_is ∙ ap (λ (xs : List X). xs ++ upper) low ∙ ap (λ (xs : List X). chunk_at chunks c ++ xs) (up ∙ ap (chunk_at chunks) next) in
      let count : length both ≡ length (chunk_at chunks c) + length (chunk_at chunks (c + 1)) = rw whole (length-append (chunk_at chunks c) (chunk_at chunks (suc c)) ∙ rw next refl) in
      let left : without ≡ remove chunks (suc c) = without_is ∙ ap (λ (k : ℕ). remove chunks k) next in
      record {
        items = rw (left, whole) (joined_merged chunks c (omega arith));
        shaped = rw left (shaped_merged chunks c both fits (rw (← next) others) (omega arith) (omega arith));
      }

  last_moves : (xs : List X) (x : X) → 0 < length xs → slice_get xs (length xs - 1) ≡ Some x → remove xs (length xs - 1) ++ x ∷ [] ≡ xs
  last_moves [] x some is = absurd (omega arith)
  last_moves (y ∷ []) x some is = ap (λ (z : X). z ∷ []) (sym (same_Some y x is))
  last_moves (y ∷ (z ∷ zs)) x some is =
      let e : length (y ∷ (z ∷ zs)) - 1 ≡ suc (length (z ∷ zs) - 1) = omega arith in
      let is_there = subst (λ (k : ℕ). slice_get (y ∷ (z ∷ zs)) k ≡ Some x) e is in
      rw e (ap (λ (ys : List X). y ∷ ys) (last_moves (z ∷ zs) x (omega arith) is_there))

  pub shifted_up : (chunks : List (List X)) (c : ℕ) (lower less upper more : List X) (item : X) → c + 1 < length chunks → IsNearlyShaped chunks (c + 1) → length (chunk_at chunks (c + 1)) < 128 → 256 < length (chunk_at chunks c) + length (chunk_at chunks (c + 1))
      → lower ≡ get_or chunks c lower → slice_get lower (length lower - 1) ≡ Some item → less ≡ remove lower (length lower - 1) → upper ≡ get_or (set chunks c less) (c + 1) upper → more ≡ insert upper 0 item → IsEvened chunks (set (set chunks c less) (c + 1) more)
  shifted_up chunks c lower less upper more item inside nearly short both lower_is item_is less_is upper_is more_is =
      let next : c + 1 ≡ suc c = omega arith in
      let other : c + 1 ≢ c = λ e. omega (arith, e) in
      let low : lower ≡ chunk_at chunks c = get_or_read chunks c lower (omega arith) lower_is [] in
      let size = length-set chunks c less in
      let up : upper ≡ chunk_at chunks (c + 1) = get_or_read (set chunks c less) (c + 1) upper (omega arith) upper_is [] ∙ get_or-set_other chunks c (c + 1) less [] other in
      let fits = all_read (λ (xs : List X). length xs ≤ 256) chunks c [] nearly.fits (omega arith) in
      let up_size = ap length up in
      let low_size = ap length low in
      let less_size = length-remove lower (length lower - 1) (omega arith) in
      let less_length = ap length less_is in
      let more_size : length more ≡ length upper + 1 = ap length more_is ∙ length-insert upper 0 item (omega arith) in
      let near = nearly.nearly (omega arith) in
      let moved : less ++ more ≡ chunk_at chunks c ++ chunk_at chunks (suc c) =
      rw (less_is, more_is) (sym (append_assoc (remove lower (length lower - 1)) (item ∷ []) upper) ∙ ap (λ (xs : List X). xs ++ upper) (last_moves lower item (omega arith) item_is ∙ low) ∙ ap (λ (xs : List X). chunk_at chunks c ++ xs) (up ∙ ap (chunk_at chunks) next))
      in
      record {
        items = rw next (joined_pair chunks c less more (omega arith) moved);
        shaped = rw next (shaped_pair chunks c (c + 1) less more nearly (inr next) (omega arith) (omega arith) (omega arith) (omega arith) (omega arith));
      }

  first_moves : (xs : List X) (x : X) → slice_get xs 0 ≡ Some x → x ∷ remove xs 0 ≡ xs
  first_moves [] x is = cc
  first_moves (y ∷ ys) x is = ap (λ (z : X). z ∷ ys) (sym (same_Some y x is))

  pub shifted_down : (chunks : List (List X)) (c : ℕ) (lower more upper less : List X) (item : X) → c + 1 < length chunks → IsNearlyShaped chunks c → length (chunk_at chunks c) < 128 → 256 < length (chunk_at chunks c) + length (chunk_at chunks (c + 1))
      → upper ≡ get_or chunks (c + 1) upper → slice_get upper 0 ≡ Some item → less ≡ remove upper 0 → lower ≡ get_or (set chunks (c + 1) less) c lower → more ≡ insert lower (length lower) item → IsEvened chunks (set (set chunks (c + 1) less) c more)
  shifted_down chunks c lower more upper less item inside nearly short both upper_is item_is less_is lower_is more_is =
      let next : c + 1 ≡ suc c = omega arith in
      let other : c ≢ c + 1 = λ e. omega (arith, e) in
      let up : upper ≡ chunk_at chunks (c + 1) = get_or_read chunks (c + 1) upper inside upper_is [] in
      let size = length-set chunks (c + 1) less in
      let low : lower ≡ chunk_at chunks c = get_or_read (set chunks (c + 1) less) c lower (omega arith) lower_is [] ∙ get_or-set_other chunks (c + 1) c less [] other in
      let fits = all_read (λ (xs : List X). length xs ≤ 256) chunks (c + 1) [] nearly.fits inside in
      let up_size = ap length up in
      let low_size = ap length low in
      let less_size = length-remove upper 0 (omega arith) in
      let less_length = ap length less_is in
      let more_size : length more ≡ length lower + 1 = ap length more_is ∙ length-insert lower (length lower) item (omega arith) in
      let near = nearly.nearly (omega arith) in
      let moved : more ++ less ≡ chunk_at chunks c ++ chunk_at chunks (suc c) =
      ap (λ (xs : List X). xs ++ less) (more_is ∙ insert_end lower item) ∙ append_assoc lower (item ∷ []) less
      ∙ ap (λ (xs : List X). lower ++ item ∷ xs) less_is ∙ ap (λ (xs : List X). lower ++ xs) (first_moves upper item item_is)
      ∙ ap (λ (xs : List X). xs ++ upper) low ∙ ap (λ (xs : List X). chunk_at chunks c ++ xs) (up ∙ ap (chunk_at chunks) next)
      in
      let turned : set (set chunks (c + 1) less) c more ≡ set (set chunks c more) (suc c) less = set_comm chunks (c + 1) c less more (λ e. omega (arith, e)) ∙ ap (λ (k : ℕ). set (set chunks c more) k less) next in
      record {
        items = rw turned (joined_pair chunks c more less (omega arith) moved);
        shaped = rw turned (shaped_pair chunks c c more less nearly (inl refl) (omega arith) (omega arith) (omega arith) (omega arith) (omega arith));
      }

  -- two neighbours, where one of them is short
  pub others_behind : (chunks : List (List X)) (c : ℕ) → IsNearlyShaped chunks c → c + 1 < length chunks → AllBut (λ xs. 128 ≤ length xs) (remove chunks (c + 1)) c
  others_behind chunks c nearly inside =
      let next : c + 1 ≡ suc c = omega arith in
      rw next (all_but_without_next (λ (xs : List X). 128 ≤ length xs) chunks c (nearly.others (omega arith)))

  pub others_front : (chunks : List (List X)) (c : ℕ) → IsNearlyShaped chunks (c + 1) → c + 1 < length chunks → AllBut (λ xs. 128 ≤ length xs) (remove chunks (c + 1)) c
  others_front chunks c nearly inside =
      let next : c + 1 ≡ suc c = omega arith in
      let others = subst (λ (k : ℕ). AllBut (λ (xs : List X). 128 ≤ length xs) chunks k) next (nearly.others (omega arith)) in
      rw next (all_but_without_it (λ (xs : List X). 128 ≤ length xs) chunks c others)

  pub half_behind : (chunks : List (List X)) (c : ℕ) → IsNearlyShaped chunks c → c + 1 < length chunks → 128 ≤ length (chunk_at chunks c) + length (chunk_at chunks (c + 1))
  half_behind chunks c nearly inside =
      let next : c + 1 ≡ suc c = omega arith in
      let here = all_but_next (λ (xs : List X). 128 ≤ length xs) chunks c [] (nearly.others (omega arith)) (omega arith) in
      rw next (omega arith)

  pub half_front : (chunks : List (List X)) (c : ℕ) → IsNearlyShaped chunks (c + 1) → c + 1 < length chunks → 128 ≤ length (chunk_at chunks c) + length (chunk_at chunks (c + 1))
  half_front chunks c nearly inside =
      let next : c + 1 ≡ suc c = omega arith in
      let others = subst (λ (k : ℕ). AllBut (λ (xs : List X). 128 ≤ length xs) chunks k) next (nearly.others (omega arith)) in
      let here = all_but_prev (λ (xs : List X). 128 ≤ length xs) chunks c [] others (omega arith) in
      omega arith
