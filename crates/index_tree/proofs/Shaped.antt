-- Chunks that keep their sizes.
--     all_set, all_read, all_inserted, all_taken, all_dropped      what holds of each
--     all_but_set, all_but_fixed, all_but_kept, all_but_without, all_but_read, all_from_but      of each but one
--     have_items, all_half, shaped_set, nearly_removed, shaped_nearly      shapes
--     least_items, full_items      how many items there are at least
use Rattle.std.proofs.Common.{◌≡◌, ◌⊎◌, inl, inr, ℕ, zero, suc, ◌+◌, ◌*◌, ◌<◌, ◌≤◌, List, [], ◌∷◌, length, get_or, set, take, drop, remove, refl, subst, arith, length-append}
use Rattle.std.specs.List.{AllByRecursion, insert}
use Rattle.std.proofs.lemmas.List.{length-set}
use Rattle.index_tree.specs.Chunked.{joined, chunk_at, AllBut, IsShaped, IsNearlyShaped, HaveItems}
use Rattle.index_tree.proofs.Elements.{all_weaker, all_append, all_removed}

module _ {X : Type 0} (P : X → Type 0) where
  pub all_set : (xs : List X) (k : ℕ) (y : X) → AllByRecursion P xs → P y → AllByRecursion P (set xs k y)
  all_set [] k y all new = tt
  all_set (x ∷ xs) zero y all new = (new, all.1)
  all_set (x ∷ xs) (suc k) y all new = (all.0, all_set xs k y all.1 new)

  pub all_read : (xs : List X) (k : ℕ) (d : X) → AllByRecursion P xs → k < length xs → P (get_or xs k d)
  all_read [] k d all below = absurd (omega arith)
  all_read (x ∷ xs) zero d all below = all.0
  all_read (x ∷ xs) (suc k) d all below = all_read xs k d all.1 (omega arith)

  pub all_taken : (xs : List X) (k : ℕ) → AllByRecursion P xs → AllByRecursion P (take k xs)
  all_taken xs zero all = tt
  all_taken [] (suc k) all = tt
  all_taken (x ∷ xs) (suc k) all = (all.0, all_taken xs k all.1)

  pub all_dropped : (xs : List X) (k : ℕ) → AllByRecursion P xs → AllByRecursion P (drop k xs)
  all_dropped xs zero all = all
  all_dropped [] (suc k) all = tt
  all_dropped (x ∷ xs) (suc k) all = all_dropped xs k all.1

  pub all_inserted : (xs : List X) (k : ℕ) (y : X) → AllByRecursion P xs → P y → AllByRecursion P (insert xs k y)
  all_inserted xs k y all new = all_append P (take k xs) (y ∷ drop k xs) (all_taken xs k all) (new, all_dropped xs k all)

  pub all_but_set : (xs : List X) (k : ℕ) (y : X) → AllByRecursion P xs → AllBut P (set xs k y) k
  all_but_set [] k y all = tt
  all_but_set (x ∷ xs) zero y all = all.1
  all_but_set (x ∷ xs) (suc k) y all = (all.0, all_but_set xs k y all.1)

  pub all_but_fixed : (xs : List X) (k : ℕ) (y : X) → AllBut P xs k → P y → AllByRecursion P (set xs k y)
  all_but_fixed [] k y all new = tt
  all_but_fixed (x ∷ xs) zero y all new = (new, all)
  all_but_fixed (x ∷ xs) (suc k) y all new = (all.0, all_but_fixed xs k y all.1 new)

  pub all_but_kept : (xs : List X) (k j : ℕ) (y : X) → AllBut P xs k → P y → AllBut P (set xs j y) k
  all_but_kept [] k j y all new = tt
  all_but_kept (x ∷ xs) zero zero y all new = all
  all_but_kept (x ∷ xs) zero (suc j) y all new = all_set xs j y all new
  all_but_kept (x ∷ xs) (suc k) zero y all new = (new, all.1)
  all_but_kept (x ∷ xs) (suc k) (suc j) y all new = (all.0, all_but_kept xs k j y all.1 new)

  -- without the one behind it, and without itself
  pub all_but_without_next : (xs : List X) (k : ℕ) → AllBut P xs k → AllBut P (remove xs (suc k)) k
  all_but_without_next [] k all = tt
  all_but_without_next (x ∷ xs) zero all = all_removed P xs 0 all
  all_but_without_next (x ∷ xs) (suc k) all = (all.0, all_but_without_next xs k all.1)

  pub all_but_without_it : (xs : List X) (k : ℕ) → AllBut P xs (suc k) → AllBut P (remove xs (suc k)) k
  all_but_without_it [] k all = tt
  all_but_without_it (x ∷ []) zero all = tt
  all_but_without_it (x ∷ (y ∷ ys)) zero all = all.1
  all_but_without_it (x ∷ xs) (suc k) all = (all.0, all_but_without_it xs k all.1)

  -- the one behind it, and the one in front
  pub all_but_next : (xs : List X) (k : ℕ) (d : X) → AllBut P xs k → suc k < length xs → P (get_or xs (suc k) d)
  all_but_next [] k d all below = absurd (omega arith)
  all_but_next (x ∷ xs) zero d all below = all_read xs 0 d all (omega arith)
  all_but_next (x ∷ xs) (suc k) d all below = all_but_next xs k d all.1 (omega arith)

  pub all_but_prev : (xs : List X) (k : ℕ) (d : X) → AllBut P xs (suc k) → k < length xs → P (get_or xs k d)
  all_but_prev [] k d all below = absurd (omega arith)
  all_but_prev (x ∷ xs) zero d all below = all.0
  all_but_prev (x ∷ xs) (suc k) d all below = all_but_prev xs k d all.1 (omega arith)

  pub all_from_but : (xs : List X) (k : ℕ) (d : X) → AllBut P xs k → P (get_or xs k d) → AllByRecursion P xs
  all_from_but [] k d all new = tt
  all_from_but (x ∷ xs) zero d all new = (new, all)
  all_from_but (x ∷ xs) (suc k) d all new = (all.0, all_from_but xs k d all.1 new)

module _ {X : Type 0} where
  pub have_items : (chunks : List (List X)) → IsShaped chunks → 1 < length chunks → HaveItems chunks
  have_items chunks shaped two = all_weaker (λ (xs : List X). 128 ≤ length xs) (λ (xs : List X). 0 < length xs) (λ xs half. omega arith) chunks (shaped.half two)

  -- where the only chunk has half each has
  pub all_half : (chunks : List (List X)) → IsShaped chunks → (c : ℕ) → 128 ≤ length (chunk_at chunks c) → AllByRecursion (λ (xs : List X). 128 ≤ length xs) chunks
  all_half [] shaped c full = tt
  all_half (x ∷ []) shaped zero full = (full, tt)
  all_half (x ∷ []) shaped (suc c) full = absurd (omega arith)
  all_half (x ∷ (y ∷ rest)) shaped c full = shaped.half (omega arith)

  -- a chunk that gets an item
  pub shaped_set : (chunks : List (List X)) (c : ℕ) (new : List X) → IsShaped chunks → c < length chunks → length (chunk_at chunks c) ≤ length new → length new ≤ 256 → IsShaped (set chunks c new)
  shaped_set chunks c new shaped inside more fits = record {
    fits = all_set (λ (xs : List X). length xs ≤ 256) chunks c new shaped.fits fits;
    half = λ two.
        let half = shaped.half (omega (arith, length-set chunks c new, two)) in
        let here = all_read (λ (xs : List X). 128 ≤ length xs) chunks c [] half inside in
        all_set (λ (xs : List X). 128 ≤ length xs) chunks c new half (omega arith);
  }

  pub at_set : (chunks : List (List X)) (c : ℕ) (new : List X) → c < length chunks → chunk_at (set chunks c new) c ≡ new
  at_set [] c new inside = absurd (omega arith)
  at_set (x ∷ xs) zero new inside = refl
  at_set (x ∷ xs) (suc c) new inside = at_set xs c new (omega arith)

  -- a chunk that loses one
  pub nearly_set : (chunks : List (List X)) (c : ℕ) (new : List X) → IsShaped chunks → c < length chunks → length new + 1 ≡ length (chunk_at chunks c) → IsNearlyShaped (set chunks c new) c
  nearly_set chunks c new shaped inside less = record {
    inside = omega (arith, length-set chunks c new);
    fits =
        let here = all_read (λ (xs : List X). length xs ≤ 256) chunks c [] shaped.fits inside in
        all_set (λ (xs : List X). length xs ≤ 256) chunks c new shaped.fits (omega arith);
    others = λ two. all_but_set (λ (xs : List X). 128 ≤ length xs) chunks c new (shaped.half (omega (arith, length-set chunks c new, two)));
    nearly = λ two.
        let here = all_read (λ (xs : List X). 128 ≤ length xs) chunks c [] (shaped.half (omega (arith, length-set chunks c new, two))) inside in
        rw (at_set chunks c new inside) (omega arith);
  }

  -- which has half all the same, or has no neighbour
  pub shaped_alone : (chunks : List (List X)) (c : ℕ) → IsNearlyShaped chunks c → length chunks ≡ 1 → IsShaped chunks
  shaped_alone chunks c nearly one = record { fits = nearly.fits; half = λ two. absurd (omega arith) }

  pub shaped_nearly : (chunks : List (List X)) (c : ℕ) → IsNearlyShaped chunks c → 128 ≤ length (chunk_at chunks c) → IsShaped chunks
  shaped_nearly chunks c nearly half = record { fits = nearly.fits; half = λ two. all_from_but (λ (xs : List X). 128 ≤ length xs) chunks c [] (nearly.others two) half }

  -- an item goes from a chunk to its neighbour, where either of them is short
  pub shaped_pair : (chunks : List (List X)) (c short : ℕ) (lower upper : List X) → IsNearlyShaped chunks short → (short ≡ c) ⊎ (short ≡ suc c) → 1 < length chunks → 128 ≤ length lower → length lower ≤ 256 → 128 ≤ length upper → length upper ≤ 256 → IsShaped (set (set chunks c lower) (suc c) upper)
  shaped_pair chunks c short lower upper nearly (inl e) two low low_fits up up_fits =
      let others = subst (λ (k : ℕ). AllBut (λ (xs : List X). 128 ≤ length xs) chunks k) e (nearly.others two) in
      let lowers = all_but_fixed (λ (xs : List X). 128 ≤ length xs) chunks c lower others low in
      record {
        fits = all_set (λ (xs : List X). length xs ≤ 256) (set chunks c lower) (suc c) upper (all_set (λ (xs : List X). length xs ≤ 256) chunks c lower nearly.fits low_fits) up_fits;
        half = λ _. all_set (λ (xs : List X). 128 ≤ length xs) (set chunks c lower) (suc c) upper lowers up;
      }
  shaped_pair chunks c short lower upper nearly (inr e) two low low_fits up up_fits =
      let others = subst (λ (k : ℕ). AllBut (λ (xs : List X). 128 ≤ length xs) chunks k) e (nearly.others two) in
      let lowers = all_but_kept (λ (xs : List X). 128 ≤ length xs) chunks (suc c) c lower others low in
      record {
        fits = all_set (λ (xs : List X). length xs ≤ 256) (set chunks c lower) (suc c) upper (all_set (λ (xs : List X). length xs ≤ 256) chunks c lower nearly.fits low_fits) up_fits;
        half = λ _. all_but_fixed (λ (xs : List X). 128 ≤ length xs) (set chunks c lower) (suc c) upper lowers up;
      }

  pub shaped_merged : (chunks : List (List X)) (c : ℕ) (both : List X) → AllByRecursion (λ (xs : List X). length xs ≤ 256) chunks → AllBut (λ (xs : List X). 128 ≤ length xs) (remove chunks (suc c)) c → 128 ≤ length both → length both ≤ 256 → IsShaped (set (remove chunks (suc c)) c both)
  shaped_merged chunks c both fits others half both_fit = record {
    fits = all_set (λ (xs : List X). length xs ≤ 256) (remove chunks (suc c)) c both (all_removed (λ (xs : List X). length xs ≤ 256) chunks (suc c) fits) both_fit;
    half = λ _. all_but_fixed (λ (xs : List X). 128 ≤ length xs) (remove chunks (suc c)) c both others half;
  }

  pub shaped_split : (chunks : List (List X)) (c : ℕ) (lower upper : List X) → IsShaped chunks → 128 ≤ length (chunk_at chunks c) → length lower ≡ 128 → length upper ≡ 128 → IsShaped (insert (set chunks c lower) (suc c) upper)
  shaped_split chunks c lower upper shaped full low up = record {
    fits = all_inserted (λ (xs : List X). length xs ≤ 256) (set chunks c lower) (suc c) upper (all_set (λ (xs : List X). length xs ≤ 256) chunks c lower shaped.fits (omega arith)) (omega arith);
    half = λ _. all_inserted (λ (xs : List X). 128 ≤ length xs) (set chunks c lower) (suc c) upper (all_set (λ (xs : List X). 128 ≤ length xs) chunks c lower (all_half chunks shaped c full) (omega arith)) (omega arith);
  }

  pub least_items : (chunks : List (List X)) → AllByRecursion (λ (xs : List X). 128 ≤ length xs) chunks → 128 * length chunks ≤ length (joined chunks)
  least_items [] half = omega arith
  least_items (x ∷ xs) half = omega (arith, half.0, least_items xs half.1, length-append x (joined xs))

  -- a full chunk has 128 items more than its share
  pub full_items : (chunks : List (List X)) (c : ℕ) → AllByRecursion (λ (xs : List X). 128 ≤ length xs) chunks → 256 ≤ length (chunk_at chunks c) → 128 * length chunks + 128 ≤ length (joined chunks)
  full_items [] c half full = absurd (omega arith)
  full_items (x ∷ xs) zero half full = omega (arith, least_items xs half.1, length-append x (joined xs))
  full_items (x ∷ xs) (suc c) half full = omega (arith, half.0, full_items xs c half.1 full, length-append x (joined xs))

  -- so where one is full the pool is not empty
  pub pool_has : (chunks : List (List X)) (c spare : ℕ) → IsShaped chunks → 256 ≤ length (chunk_at chunks c) → length (joined chunks) < 128 * (length chunks + spare) → 0 < spare
  pool_has chunks c spare shaped full covered = omega (arith, full_items chunks c (all_half chunks shaped c (omega arith)) full)
