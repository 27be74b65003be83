-- Room for one item more, where a full chunk is split.
use Rattle.std.proofs.Common.{◌≡◌, ℕ, suc, ◌+◌, ◌-◌, ◌<◌, ◌≤◌, Bool, true, false, cond, nat_lt, List, [], length, get_or, set, take, drop, refl, ap, ◌∙◌, arith, length-drop}
use Rattle.std.specs.List.{insert}
use Rattle.std.proofs.lemmas.Bool.{ltb-true, ltb-false}
use Rattle.std.proofs.lemmas.List.{get_or_read, length-set, length-take-le, take-append-drop}
use Rattle.std.proofs.lemmas.List.Edits.{length-insert}
use Rattle.index_tree.specs.Chunked.{joined, chunk_at, start, IsShaped, IsFree}
use Rattle.index_tree.proofs.Joined.{IsSplit, split_at, joined_split}
use Rattle.index_tree.proofs.Shaped.{all_read, shaped_split}

module _ {X : Type 0} where
  -- the chunk that was read
  pub chunk_read : (chunks : List (List X)) (c : ℕ) (it : List X) → c < length chunks → it ≡ get_or chunks c it → it ≡ chunk_at chunks c
  chunk_read chunks c it inside is = get_or_read chunks c it inside is []

  pub split_items : (chunks done : List (List X)) (c : ℕ) → c < length chunks → done ≡ insert (set chunks c (take 128 (chunk_at chunks c))) (c + 1) (drop 128 (chunk_at chunks c)) → joined done ≡ joined chunks
  split_items chunks done c inside is =
      let next : c + 1 ≡ suc c = omega arith in
      rw (is, next) (joined_split chunks c (take 128 (chunk_at chunks c)) (drop 128 (chunk_at chunks c)) inside (take-append-drop 128 (chunk_at chunks c)))

  pub split_shaped : (chunks done : List (List X)) (c : ℕ) → IsShaped chunks → c < length chunks → 256 ≤ length (chunk_at chunks c) → done ≡ insert (set chunks c (take 128 (chunk_at chunks c))) (c + 1) (drop 128 (chunk_at chunks c)) → IsShaped done
  split_shaped chunks done c shaped inside full is =
      let next : c + 1 ≡ suc c = omega arith in
      let fits = all_read (λ (xs : List X). length xs ≤ 256) chunks c [] shaped.fits inside in
      let lower = length-take-le 128 (chunk_at chunks c) (omega arith) in
      let upper : length (drop 128 (chunk_at chunks c)) ≡ 128 = omega (arith, length-drop 128 (chunk_at chunks c)) in
      rw (is, next) (shaped_split chunks c (take 128 (chunk_at chunks c)) (drop 128 (chunk_at chunks c)) shaped (omega arith) lower upper)

  pub split_free : (chunks done : List (List X)) (c o chunk offset : ℕ) → IsShaped chunks → c < length chunks → 256 ≤ length (chunk_at chunks c) → o ≤ length (chunk_at chunks c) → done ≡ insert (set chunks c (take 128 (chunk_at chunks c))) (c + 1) (drop 128 (chunk_at chunks c))
      → chunk ≡ cond (nat_lt 128 o) (c + 1) c → offset ≡ cond (nat_lt 128 o) (o - 128) o → IsFree done chunk offset (start chunks c + o)
  split_free chunks done c o chunk offset shaped inside full within is chunk_is offset_is = by_test (nat_lt 128 o) refl chunk_is offset_is
    where
      next : c + 1 ≡ suc c
      next = omega arith

      sizes : length (set chunks c (take 128 (chunk_at chunks c))) ≡ length chunks
      sizes = length-set chunks c (take 128 (chunk_at chunks c))

      count : length done ≡ length chunks + 1
      count = ap length is ∙ length-insert (set chunks c (take 128 (chunk_at chunks c))) (c + 1) (drop 128 (chunk_at chunks c)) (omega (arith, sizes)) ∙ ap (λ (n : ℕ). n + 1) sizes

      at : IsSplit chunks done c (take 128 (chunk_at chunks c)) (drop 128 (chunk_at chunks c))
      at = rw (is, next) (split_at chunks c (take 128 (chunk_at chunks c)) (drop 128 (chunk_at chunks c)) inside)

      fits : length (chunk_at chunks c) ≤ 256
      fits = all_read (λ (xs : List X). length xs ≤ 256) chunks c [] shaped.fits inside

      lower : length (take 128 (chunk_at chunks c)) ≡ 128
      lower = length-take-le 128 (chunk_at chunks c) (omega arith)

      upper : length (drop 128 (chunk_at chunks c)) ≡ 128
      upper = omega (arith, length-drop 128 (chunk_at chunks c), fits)

      by_test : (b : Bool) → nat_lt 128 o ≡ b → chunk ≡ cond b (c + 1) c → offset ≡ cond b (o - 128) o → IsFree done chunk offset (start chunks c + o)
      by_test true above chunk_is offset_is =
          let here : chunk ≡ suc c = omega arith in
          let more = ltb-true 128 o above in
          let size = ap length at.second in
          rw here (record {
            counted = omega (arith, at.second_start, lower);
            inside = omega (arith, count);
            within = omega (arith, upper, fits);
            room = omega (arith, upper);
          })
      by_test false below chunk_is offset_is =
          let here : chunk ≡ c = chunk_is in
          let less = ltb-false 128 o below in
          let size = ap length at.first in
          rw here (record {
            counted = omega (arith, at.first_start);
            inside = omega (arith, count);
            within = omega (arith, lower);
            room = omega (arith, lower);
          })
