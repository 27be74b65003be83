-- Chunks, one after the other: what an edit of one chunk, or of two neighbours, makes of all items.
--     start_next, start_end, start_none      where a chunk starts
--     joined_removed, joined_inserted, joined_read      one item of a chunk
--     joined_pair, joined_merged, joined_split      two neighbours
--     joined_front, joined_back      the items before a spot, and those behind it
use Rattle.std.proofs.Common.{◌≡◌, ℕ, zero, suc, ◌+◌, ◌-◌, ◌<◌, ◌≤◌, List, [], ◌∷◌, ◌++◌, length, set, take, drop, remove, slice_get, sym, refl, ap, ◌∙◌, arith, append_assoc, length-append}
use Rattle.std.specs.List.{insert}
use Rattle.std.proofs.lemmas.List.{drop_all, drop-append-le, take-append-le}
use Rattle.std.proofs.lemmas.List.Edits.{insert-append_left, insert-append_right, remove-append_left, remove-append_right}
use Rattle.index_tree.specs.Chunked.{joined, chunk_at, start}

module _ {X : Type 0} where
  pub start_later : (x : List X) (xs : List (List X)) (c : ℕ) → start (x ∷ xs) (suc c) ≡ length x + start xs c
  start_later x xs c = length-append x (joined (take c xs))

  -- the next chunk starts where this one ends
  pub start_next : (chunks : List (List X)) (c : ℕ) → c < length chunks → start chunks (suc c) ≡ start chunks c + length (chunk_at chunks c)
  start_next [] c below = absurd (omega arith)
  start_next (x ∷ xs) zero below = omega (arith, length-append x [])
  start_next (x ∷ xs) (suc c) below = omega (arith, start_later x xs (suc c), start_later x xs c, start_next xs c (omega arith))

  -- behind the last chunk there are all items
  pub start_end : (chunks : List (List X)) (c : ℕ) → length chunks ≤ c → start chunks c ≡ length (joined chunks)
  start_end [] zero above = refl
  start_end [] (suc c) above = refl
  start_end (x ∷ xs) zero above = absurd (omega arith)
  start_end (x ∷ xs) (suc c) above = omega (arith, start_later x xs c, start_end xs c (omega arith), length-append x (joined xs))

  pub chunk_none : (chunks : List (List X)) (c : ℕ) → length chunks ≤ c → chunk_at chunks c ≡ []
  chunk_none [] c above = refl
  chunk_none (x ∷ xs) zero above = absurd (omega arith)
  chunk_none (x ∷ xs) (suc c) above = chunk_none xs c (omega arith)

  -- a chunk ends where all items do, or before
  pub within_joined : (chunks : List (List X)) (c : ℕ) → start chunks c + length (chunk_at chunks c) ≤ length (joined chunks)
  within_joined [] c = omega (arith, start_end [] c (omega arith))
  within_joined (x ∷ xs) zero = omega (arith, length-append x (joined xs))
  within_joined (x ∷ xs) (suc c) = omega (arith, start_later x xs c, within_joined xs c, length-append x (joined xs))

  -- an item of a chunk is taken out
  pub joined_removed : (chunks : List (List X)) (c o : ℕ) → o < length (chunk_at chunks c) → joined (set chunks c (remove (chunk_at chunks c) o)) ≡ remove (joined chunks) (start chunks c + o)
  joined_removed [] c o below = absurd (omega arith)
  joined_removed (x ∷ xs) zero o below =
      let e : 0 + o ≡ o = omega arith in
      rw e (sym (remove-append_left x (joined xs) o below))
  joined_removed (x ∷ xs) (suc c) o below =
      let e : start (x ∷ xs) (suc c) + o - length x ≡ start xs c + o = omega (arith, start_later x xs c) in
      let rest = remove-append_right x (joined xs) (length x) (start (x ∷ xs) (suc c) + o) refl (omega (arith, start_later x xs c)) in
      ap (λ (ys : List X). x ++ ys) (joined_removed xs c o below ∙ ap (λ (k : ℕ). remove (joined xs) k) (sym e)) ∙ sym rest

  -- an item is put into a chunk
  pub joined_inserted : (chunks : List (List X)) (c o : ℕ) (item : X) → c < length chunks → o ≤ length (chunk_at chunks c) → joined (set chunks c (insert (chunk_at chunks c) o item)) ≡ insert (joined chunks) (start chunks c + o) item
  joined_inserted [] c o item inside below = absurd (omega arith)
  joined_inserted (x ∷ xs) zero o item inside below =
      let e : 0 + o ≡ o = omega arith in
      rw e (sym (insert-append_left x (joined xs) o item below))
  joined_inserted (x ∷ xs) (suc c) o item inside below =
      let e : start (x ∷ xs) (suc c) + o - length x ≡ start xs c + o = omega (arith, start_later x xs c) in
      let rest = insert-append_right x (joined xs) (length x) (start (x ∷ xs) (suc c) + o) item refl (omega (arith, start_later x xs c)) in
      ap (λ (ys : List X). x ++ ys) (joined_inserted xs c o item (omega arith) below ∙ ap (λ (k : ℕ). insert (joined xs) k item) (sym e)) ∙ sym rest

  pub read_front : (xs ys : List X) (k : ℕ) → k < length xs → slice_get (xs ++ ys) k ≡ slice_get xs k
  read_front [] ys k below = absurd (omega arith)
  read_front (x ∷ xs) ys zero below = refl
  read_front (x ∷ xs) ys (suc k) below = read_front xs ys k (omega arith)

  pub read_back : (xs ys : List X) (n k : ℕ) → n ≡ length xs + k → slice_get (xs ++ ys) n ≡ slice_get ys k
  read_back [] ys n k e = let same : n ≡ k = omega arith in rw same refl
  read_back (x ∷ xs) ys zero k e = absurd (omega arith)
  read_back (x ∷ xs) ys (suc n) k e = read_back xs ys n k (omega arith)

  -- an item of a chunk is one of all
  pub joined_read : (chunks : List (List X)) (c o : ℕ) → o < length (chunk_at chunks c) → slice_get (joined chunks) (start chunks c + o) ≡ slice_get (chunk_at chunks c) o
  joined_read [] c o below = absurd (omega arith)
  joined_read (x ∷ xs) zero o below =
      let e : 0 + o ≡ o = omega arith in
      rw e (read_front x (joined xs) o below)
  joined_read (x ∷ xs) (suc c) o below = read_back x (joined xs) (start (x ∷ xs) (suc c) + o) (start xs c + o) (omega (arith, start_later x xs c)) ∙ joined_read xs c o below

  -- items go from a chunk to its neighbour
  pub joined_pair : (chunks : List (List X)) (c : ℕ) (lower upper : List X) → suc c < length chunks → lower ++ upper ≡ chunk_at chunks c ++ chunk_at chunks (suc c) → joined (set (set chunks c lower) (suc c) upper) ≡ joined chunks
  joined_pair [] c lower upper inside same = absurd (omega arith)
  joined_pair (x ∷ []) c lower upper inside same = absurd (omega arith)
  joined_pair (x ∷ (y ∷ rest)) zero lower upper inside same =
      sym (append_assoc lower upper (joined rest)) ∙ ap (λ (ys : List X). ys ++ joined rest) same ∙ append_assoc x y (joined rest)
  joined_pair (x ∷ (y ∷ rest)) (suc c) lower upper inside same = ap (λ (ys : List X). x ++ ys) (joined_pair (y ∷ rest) c lower upper (omega arith) same)

  -- two neighbours become one
  pub joined_merged : (chunks : List (List X)) (c : ℕ) → suc c < length chunks → joined (set (remove chunks (suc c)) c (chunk_at chunks c ++ chunk_at chunks (suc c))) ≡ joined chunks
  joined_merged [] c inside = absurd (omega arith)
  joined_merged (x ∷ []) c inside = absurd (omega arith)
  joined_merged (x ∷ (y ∷ rest)) zero inside = append_assoc x y (joined rest)
  joined_merged (x ∷ (y ∷ rest)) (suc c) inside = ap (λ (ys : List X). x ++ ys) (joined_merged (y ∷ rest) c (omega arith))

  -- one becomes two neighbours
  pub joined_split : (chunks : List (List X)) (c : ℕ) (lower upper : List X) → c < length chunks → lower ++ upper ≡ chunk_at chunks c → joined (insert (set chunks c lower) (suc c) upper) ≡ joined chunks
  joined_split [] c lower upper inside same = absurd (omega arith)
  joined_split (x ∷ rest) zero lower upper inside same = sym (append_assoc lower upper (joined rest)) ∙ ap (λ (ys : List X). ys ++ joined rest) same
  joined_split (x ∷ rest) (suc c) lower upper inside same = ap (λ (ys : List X). x ++ ys) (joined_split rest c lower upper (omega arith) same)

  -- the two are where the one was
  pub record IsSplit (chunks divided : List (List X)) (c : ℕ) (lower upper : List X) : Type 0 where
    pub first : chunk_at divided c ≡ lower
    pub second : chunk_at divided (suc c) ≡ upper
    pub first_start : start divided c ≡ start chunks c
    pub second_start : start divided (suc c) ≡ start chunks c + length lower

  pub split_at : (chunks : List (List X)) (c : ℕ) (lower upper : List X) → c < length chunks → IsSplit chunks (insert (set chunks c lower) (suc c) upper) c lower upper
  split_at [] c lower upper inside = absurd (omega arith)
  split_at (x ∷ rest) zero lower upper inside = record { first = refl; second = refl; first_start = refl; second_start = omega (arith, length-append lower []) }
  split_at (x ∷ rest) (suc c) lower upper inside =
      let divided = insert (set rest c lower) (suc c) upper in
      let later = split_at rest c lower upper (omega arith) in
      record {
        first = later.first;
        second = later.second;
        first_start = start_later x divided c ∙ ap (λ (k : ℕ). length x + k) later.first_start ∙ sym (start_later x rest c);
        second_start = omega (arith, start_later x divided (suc c), later.second_start, start_later x rest c);
      }

  drop_past : (xs ys : List X) (n k : ℕ) → n ≡ length xs + k → drop n (xs ++ ys) ≡ drop k ys
  drop_past [] ys n k e = let same : n ≡ k = omega arith in rw same refl
  drop_past (x ∷ xs) ys zero k e = absurd (omega arith)
  drop_past (x ∷ xs) ys (suc n) k e = drop_past xs ys n k (omega arith)

  take_past : (xs ys : List X) (n k : ℕ) → n ≡ length xs + k → take n (xs ++ ys) ≡ xs ++ take k ys
  take_past [] ys n k e = let same : n ≡ k = omega arith in rw same refl
  take_past (x ∷ xs) ys zero k e = absurd (omega arith)
  take_past (x ∷ xs) ys (suc n) k e = ap (λ (zs : List X). x ∷ zs) (take_past xs ys n k (omega arith))

  -- what stands behind a spot
  pub joined_back : (chunks : List (List X)) (c o : ℕ) → o ≤ length (chunk_at chunks c) → drop o (chunk_at chunks c) ++ joined (drop (suc c) chunks) ≡ drop (start chunks c + o) (joined chunks)
  joined_back [] c o below = rw (drop_all {X = X} o [] (omega arith)) (sym (drop_all {X = X} (start [] c + o) [] (omega arith)))
  joined_back (x ∷ xs) zero o below =
      let e : 0 + o ≡ o = omega arith in
      rw e (sym (drop-append-le o x (joined xs) below))
  joined_back (x ∷ xs) (suc c) o below = joined_back xs c o below ∙ sym (drop_past x (joined xs) (start (x ∷ xs) (suc c) + o) (start xs c + o) (omega (arith, start_later x xs c)))

  take_none : (k : ℕ) → take {A = X} k [] ≡ []
  take_none zero = refl
  take_none (suc k) = refl

  -- what stands in front of it
  pub joined_front : (chunks : List (List X)) (c o : ℕ) → o ≤ length (chunk_at chunks c) → joined (take c chunks) ++ take o (chunk_at chunks c) ≡ take (start chunks c + o) (joined chunks)
  joined_front [] zero o below = take_none o ∙ sym (take_none (0 + o))
  joined_front [] (suc c) o below = take_none o ∙ sym (take_none (0 + o))
  joined_front (x ∷ xs) zero o below =
      let e : 0 + o ≡ o = omega arith in
      rw e (sym (take-append-le o x (joined xs) below))
  joined_front (x ∷ xs) (suc c) o below =
      append_assoc x (joined (take c xs)) (take o (chunk_at xs c)) ∙ ap (λ (ys : List X). x ++ ys) (joined_front xs c o below)
      ∙ sym (take_past x (joined xs) (start (x ∷ xs) (suc c) + o) (start xs c + o) (omega (arith, start_later x xs c)))
