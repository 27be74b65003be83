-- Places of items in chunks: 256 numbers for each chunk.
--     item_within, named_there, at_spot      the place of the item at a spot
--     spot_of, spot_is      the spot of an item, and of a place
--     inside_found, finds_here, finds_end, finds_in_front      what a search answers
use Rattle.std.proofs.Common.{◌≡◌, ◌⊎◌, inl, inr, ℕ, zero, suc, ◌+◌, ◌-◌, ◌*◌, ◌/◌, ◌%◌, ◌<◌, ◌≤◌, cond, nat_lt, List, [], ◌∷◌, length, slice_get, Option, Some, None, IfSome, sym, refl, ap, subst, ◌∙◌, arith, length-append}
use Rattle.std.specs.List.{range_with_len}
use Rattle.std.proofs.lemmas.Bool.{cases_lt, lt-ltb, le-ltb}
use Rattle.std.proofs.lemmas.Option.{same_Some}
use Rattle.index_tree.specs.Contents.{Contents, IsAt, IsInside, Finds, one_before}
use Rattle.index_tree.specs.Chunked.{joined, chunk_at, start, places_from, held, IsShaped}
use Rattle.index_tree.proofs.Elements.{some_is_none}
use Rattle.index_tree.proofs.Joined.{start_later, start_next, start_end, chunk_none, within_joined, read_front, read_back}
use Rattle.index_tree.proofs.Shaped.{all_read}

-- an item stands at the spot
pub record IsItem {X : Type 0} (chunks : List (List X)) (chunk offset : ℕ) : Type 0 where
  pub inside : chunk < length chunks
  pub within : offset < length (chunk_at chunks chunk)

number_at : (from n k : ℕ) → k < n → slice_get (range_with_len from n) k ≡ Some (from + k)
number_at from zero k below = absurd (omega arith)
number_at from (suc n) zero below = ap (λ (m : ℕ). Some m) (omega arith)
number_at from (suc n) (suc k) below = number_at (from + 1) n k (omega arith) ∙ ap (λ (m : ℕ). Some m) (omega arith)

length-range : (from n : ℕ) → length (range_with_len from n) ≡ n
length-range from zero = refl
length-range from (suc n) = ap suc (length-range (from + 1) n)

module _ {X : Type 0} where
  -- the place at a spot
  pub named_there : (chunks : List (List X)) (number c o : ℕ) → o < length (chunk_at chunks c) → slice_get (places_from number chunks) (start chunks c + o) ≡ Some (256 * (number + c) + o)
  named_there [] number c o below = absurd (omega arith)
  named_there (x ∷ rest) number zero o below =
      let e : 0 + o ≡ o = omega arith in
      rw e (read_front (range_with_len (256 * number) (length x)) (places_from (number + 1) rest) o (omega (arith, length-range (256 * number) (length x))) ∙ number_at (256 * number) (length x) o below ∙ ap (λ (m : ℕ). Some m) (omega arith))
  named_there (x ∷ rest) number (suc c) o below =
      read_back (range_with_len (256 * number) (length x)) (places_from (number + 1) rest) (start (x ∷ rest) (suc c) + o) (start rest c + o) (omega (arith, start_later x rest c, length-range (256 * number) (length x)))
      ∙ named_there rest (number + 1) c o below ∙ ap (λ (m : ℕ). Some m) (omega arith)

  -- each item stands at a spot
  pub spot_of : (chunks : List (List X)) (before : ℕ) → before < length (joined chunks) → (c : ℕ) × (o : ℕ) × IsItem chunks c o × (start chunks c + o ≡ before)
  spot_of [] before below = absurd (omega arith)
  spot_of (x ∷ rest) before below = by_place (spot_of rest (before - length x)) (cases_lt before (length x))
    where
      by_place : (before - length x < length (joined rest) → (c : ℕ) × (o : ℕ) × IsItem rest c o × (start rest c + o ≡ before - length x)) → (before < length x) ⊎ (length x ≤ before) → (c : ℕ) × (o : ℕ) × IsItem (x ∷ rest) c o × (start (x ∷ rest) c + o ≡ before)
      by_place later (inl here) = (0, before, record { inside = omega arith; within = here }, omega arith)
      by_place later (inr behind) =
          let there = later (omega (arith, below, length-append x (joined rest))) in
          (suc there.0, there.1, record { inside = omega (arith, there.2.inside); within = there.2.within }, omega (arith, start_later x rest there.0, there.3))

  -- an item's number is one of all
  pub item_within : (chunks : List (List X)) (c o : ℕ) → o < length (chunk_at chunks c) → start chunks c + o < length (joined chunks)
  item_within chunks c o below = omega (arith, within_joined chunks c)

  pub at_spot : (chunks pool : List (List X)) (c o : ℕ) → o < length (chunk_at chunks c) → IsAt (held chunks pool) (256 * c + o) (start chunks c + o)
  at_spot chunks pool c o below = record {
    within = item_within chunks c o below;
    named = named_there chunks 0 c o below ∙ ap (λ (m : ℕ). Some m) (omega arith);
  }

  -- the spot that a place names
  pub record IsSpotOf (chunks : List (List X)) (place before : ℕ) : Type 0 where
    pub inside : place / 256 < length chunks
    pub within : place % 256 < length (chunk_at chunks (place / 256))
    pub counted : start chunks (place / 256) + place % 256 ≡ before

  pub spot_is : (chunks pool : List (List X)) (place before : ℕ) → IsShaped chunks → IsAt (held chunks pool) place before → IsSpotOf chunks place before
  spot_is chunks pool place before shaped is_at = by_spot (spot_of chunks before is_at.within)
    where
      by_spot : (c : ℕ) × (o : ℕ) × IsItem chunks c o × (start chunks c + o ≡ before) → IsSpotOf chunks place before
      by_spot there =
          let named = named_there chunks 0 there.0 there.1 there.2.within in
          let named_before = subst (λ (k : ℕ). slice_get (places_from 0 chunks) k ≡ Some (256 * (0 + there.0) + there.1)) there.3 named in
          let same : 256 * (0 + there.0) + there.1 ≡ place = same_Some _ place (sym named_before ∙ is_at.named) in
          let fits = all_read (λ (xs : List X). length xs ≤ 256) chunks there.0 [] shaped.fits there.2.inside in
          let small = there.2.within in
          let chunk : place / 256 ≡ there.0 = omega arith in
          let offset : place % 256 ≡ there.1 = omega arith in
          record {
            inside = rw chunk there.2.inside;
            within = rw (chunk, offset) there.2.within;
            counted = rw (chunk, offset) there.3;
          }

  pub inside_found : (tree : Contents X) (found answer : Option ℕ) → Finds tree found answer → IfSome answer (IsInside tree)
  inside_found tree found None finds = tt
  inside_found tree None (Some place) finds = absurd (some_is_none place finds)
  inside_found tree (Some before) (Some place) finds = (before, finds)

  -- the item at a spot is found, or the first of the next chunk, or none
  pub finds_here : (chunks pool : List (List X)) (c o place : ℕ) → o < length (chunk_at chunks c) → place ≡ 256 * c + o → Finds (held chunks pool) (cond (nat_lt (start chunks c + o) (length (joined chunks))) (Some (start chunks c + o)) None) (Some place)
  finds_here chunks pool c o place below is = rw (lt-ltb _ _ (item_within chunks c o below), is) (at_spot chunks pool c o below)

  -- a spot behind all items of its chunk is at the end of the chunk
  at_end : (chunks : List (List X)) (c o : ℕ) → o ≤ length (chunk_at chunks c) → (c < length chunks → o < length (chunk_at chunks c) → ⊥) → o ≡ length (chunk_at chunks c)
  at_end chunks c o below past = by_chunk (cases_lt c (length chunks)) (cases_lt o (length (chunk_at chunks c)))
    where
      by_chunk : (c < length chunks) ⊎ (length chunks ≤ c) → (o < length (chunk_at chunks c)) ⊎ (length (chunk_at chunks c) ≤ o) → o ≡ length (chunk_at chunks c)
      by_chunk (inl inside) (inl less) = absurd (past inside less)
      by_chunk inside (inr more) = omega arith
      by_chunk (inr outside) (inl less) = absurd (omega (arith, ap length (chunk_none chunks c outside)))

  pub finds_next : (chunks pool : List (List X)) (c o place : ℕ) → IsShaped chunks → o ≤ length (chunk_at chunks c) → (c < length chunks → o < length (chunk_at chunks c) → ⊥) → c + 1 < length chunks → place ≡ 256 * (c + 1) → Finds (held chunks pool) (cond (nat_lt (start chunks c + o) (length (joined chunks))) (Some (start chunks c + o)) None) (Some place)
  finds_next chunks pool c o place shaped below past inside is =
      let end = at_end chunks c o below past in
      let next : c + 1 ≡ suc c = omega arith in
      let has = all_read (λ (xs : List X). 128 ≤ length xs) chunks (suc c) [] (shaped.half (omega arith)) (omega arith) in
      let there : start chunks c + o ≡ start chunks (suc c) + 0 = omega (arith, start_next chunks c (omega arith)) in
      rw there (finds_here chunks pool (suc c) 0 place (omega arith) (omega arith))

  pub finds_none : (chunks pool : List (List X)) (c o : ℕ) → o ≤ length (chunk_at chunks c) → (c < length chunks → o < length (chunk_at chunks c) → ⊥) → length chunks ≤ c + 1 → Finds (held chunks pool) (cond (nat_lt (start chunks c + o) (length (joined chunks))) (Some (start chunks c + o)) None) None
  finds_none chunks pool c o below past outside =
      let end = at_end chunks c o below past in
      let all = by_chunk end (cases_lt c (length chunks)) in
      rw (le-ltb _ _ all) refl
    where
      by_chunk : o ≡ length (chunk_at chunks c) → (c < length chunks) ⊎ (length chunks ≤ c) → length (joined chunks) ≤ start chunks c + o
      by_chunk end (inl inside) = omega (arith, start_next chunks c inside, start_end chunks (suc c) (omega arith))
      by_chunk end (inr past_all) = omega (arith, start_end chunks c past_all)

  -- the item in front of a spot
  pub finds_front : (chunks pool : List (List X)) (c o place number : ℕ) → o < length (chunk_at chunks c) → number ≡ start chunks c + o + 1 → place ≡ 256 * c + o → Finds (held chunks pool) (one_before number) (Some place)
  finds_front chunks pool c o place number below counted is =
      let e : number ≡ suc (start chunks c + o) = omega arith in
      rw (e, is) (at_spot chunks pool c o below)

  -- which is the last of the chunk in front, and that has one
  pub front_has : (chunks : List (List X)) (c : ℕ) → IsShaped chunks → c < length chunks → 0 < c → 0 < length (chunk_at chunks (c - 1))
  front_has chunks c shaped inside some = omega (arith, all_read (λ (xs : List X). 128 ≤ length xs) chunks (c - 1) [] (shaped.half (omega arith)) (omega arith))

  pub finds_front_chunk : (chunks pool : List (List X)) (c place : ℕ) → IsShaped chunks → c < length chunks → 0 < c → place ≡ 256 * (c - 1) + (length (chunk_at chunks (c - 1)) - 1) → Finds (held chunks pool) (one_before (start chunks c + 0)) (Some place)
  finds_front_chunk chunks pool c place shaped inside some is =
      let has = front_has chunks c shaped inside some in
      let prev : suc (c - 1) ≡ c = omega arith in
      let next = subst (λ (k : ℕ). start chunks k ≡ start chunks (c - 1) + length (chunk_at chunks (c - 1))) prev (start_next chunks (c - 1) (omega arith)) in
      finds_front chunks pool (c - 1) (length (chunk_at chunks (c - 1)) - 1) place (start chunks c + 0) (omega arith) (omega arith) is

  -- the same, of a tree
  pub spot_in : (tree : Contents X) (chunks pool : List (List X)) → held chunks pool ≡ tree → IsShaped chunks → (place before : ℕ) → IsAt tree place before → IsSpotOf chunks place before
  spot_in tree chunks pool view shaped place before is_at = spot_is chunks pool place before shaped (subst (λ (t : Contents X). IsAt t place before) (sym view) is_at)
