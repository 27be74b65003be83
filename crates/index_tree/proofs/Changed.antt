-- One item more, and one less, at a spot.
use Rattle.std.proofs.Common.{◌≡◌, ℕ, ◌+◌, ◌/◌, ◌%◌, ◌<◌, List, [], length, get_or, set, remove, slice_get, Some, sym, ap, ◌∙◌, arith}
use Rattle.std.specs.List.{insert}
use Rattle.std.proofs.lemmas.List.{length-set, get_or_read}
use Rattle.std.proofs.lemmas.List.Edits.{length-insert, length-remove}
use Rattle.index_tree.specs.Chunked.{joined, chunk_at, start, IsShaped, IsNearlyShaped, IsFree}
use Rattle.index_tree.proofs.Joined.{within_joined, joined_inserted, joined_removed, joined_read}
use Rattle.index_tree.proofs.Places.{IsSpotOf}
use Rattle.index_tree.proofs.Shaped.{shaped_set, nearly_set}

module _ {X : Type 0} where
  pub record IsInserted (chunks done : List (List X)) (before : ℕ) (item : X) : Type 0 where
    pub shaped : IsShaped done
    pub items : joined done ≡ insert (joined chunks) before item
    pub count : length (joined done) ≡ length (joined chunks) + 1
    pub size : length done ≡ length chunks

  pub inserted_at : (chunks : List (List X)) (c o before : ℕ) (it new : List X) (item : X) → IsShaped chunks → IsFree chunks c o before → it ≡ get_or chunks c it → new ≡ insert it o item → IsInserted chunks (set chunks c new) before item
  inserted_at chunks c o before it new item shaped free it_is new_is =
      let there : it ≡ chunk_at chunks c = get_or_read chunks c it free.inside it_is [] in
      let new_there : new ≡ insert (chunk_at chunks c) o item = new_is ∙ ap (λ (xs : List X). insert xs o item) there in
      let more : length new ≡ length (chunk_at chunks c) + 1 = ap length new_there ∙ length-insert (chunk_at chunks c) o item free.within in
      let full : joined (set chunks c new) ≡ insert (joined chunks) before item =
      ap (λ (xs : List X). joined (set chunks c xs)) new_there ∙ joined_inserted chunks c o item free.inside free.within ∙ ap (λ (k : ℕ). insert (joined chunks) k item) free.counted
      in
      record {
        shaped = shaped_set chunks c new shaped free.inside (omega arith) (omega (arith, free.room));
        items = full;
        count = ap length full ∙ length-insert (joined chunks) before item (omega (arith, within_joined chunks c, free.counted, free.within));
        size = length-set chunks c new;
      }

  pub record IsRemoved (chunks done : List (List X)) (c before : ℕ) (item : X) : Type 0 where
    pub nearly : IsNearlyShaped done c
    pub taken : slice_get (joined chunks) before ≡ Some item
    pub items : joined done ≡ remove (joined chunks) before
    pub count : length (joined done) + 1 ≡ length (joined chunks)
    pub size : length done ≡ length chunks

  pub removed_at : (chunks : List (List X)) (place before c o : ℕ) (it less : List X) (item : X) → IsShaped chunks → IsSpotOf chunks place before → c ≡ place / 256 → o ≡ place % 256 → it ≡ get_or chunks c it → slice_get it o ≡ Some item → less ≡ remove it o → IsRemoved chunks (set chunks c less) c before item
  removed_at chunks place before c o it less item shaped spot c_is o_is it_is item_is less_is =
      let inside : c < length chunks = rw c_is spot.inside in
      let within : o < length (chunk_at chunks c) = rw (c_is, o_is) spot.within in
      let counted : start chunks c + o ≡ before = rw (c_is, o_is) spot.counted in
      let there : it ≡ chunk_at chunks c = get_or_read chunks c it inside it_is [] in
      let less_there : less ≡ remove (chunk_at chunks c) o = less_is ∙ ap (λ (xs : List X). remove xs o) there in
      let fewer : length less + 1 ≡ length (chunk_at chunks c) = ap (λ (xs : List X). length xs + 1) less_there ∙ length-remove (chunk_at chunks c) o within in
      let rest : joined (set chunks c less) ≡ remove (joined chunks) before =
      ap (λ (xs : List X). joined (set chunks c xs)) less_there ∙ joined_removed chunks c o within ∙ ap (λ (k : ℕ). remove (joined chunks) k) counted
      in
      record {
        nearly = nearly_set chunks c less shaped inside fewer;
        taken = ap (λ (k : ℕ). slice_get (joined chunks) k) (sym counted) ∙ joined_read chunks c o within ∙ ap (λ (xs : List X). slice_get xs o) (sym there) ∙ item_is;
        items = rest;
        count = ap (λ (xs : List X). length xs + 1) rest ∙ length-remove (joined chunks) before (omega (arith, within_joined chunks c));
        size = length-set chunks c less;
      }

  -- the item that was read
  pub read_at : (chunks : List (List X)) (place before c o : ℕ) (it : List X) (item : X) → IsSpotOf chunks place before → c ≡ place / 256 → o ≡ place % 256 → it ≡ get_or chunks c it → slice_get it o ≡ Some item → slice_get (joined chunks) before ≡ Some item
  read_at chunks place before c o it item spot c_is o_is it_is item_is =
      let inside : c < length chunks = rw c_is spot.inside in
      let within : o < length (chunk_at chunks c) = rw (c_is, o_is) spot.within in
      let counted : start chunks c + o ≡ before = rw (c_is, o_is) spot.counted in
      let there : it ≡ chunk_at chunks c = get_or_read chunks c it inside it_is [] in
      ap (λ (k : ℕ). slice_get (joined chunks) k) (sym counted) ∙ joined_read chunks c o within ∙ ap (λ (xs : List X). slice_get xs o) (sym there) ∙ item_is
