-- The index that is served furthest, index by index.
--     best_step      one index more
--     best_there      it is one of them
use Rattle.std.proofs.Common.{◌≡◌, ℕ, ◌+◌, ◌<◌, ◌≤◌, max, fold, List, [], ◌∷◌, ◌++◌, length, take, get_or, Option, Some, None, IfSome, sym, ap, ◌∙◌, arith}
use Rattle.std.proofs.lemmas.List.{map_push, take_more, length-map, length-take, length-take-le}
use Rattle.row_types.specs.declared.indexes.IndexDef.{IndexDef}
use Rattle.table_rows.specs.Indexes.{parts_of}
use Rattle.sql_plan.specs.Tests.{Test}
use Rattle.sql_plan.specs.Plans.{rank_of, ranks_of, best_of}
use Rattle.sql_plan.proofs.Best.{best_in, most_push, best_more, best_same, best_within}

module _ (ts : List Test) where
  abbrev ranks_in : List IndexDef → List ℕ
  ranks_in indexes = ranks_of ts (parts_of indexes)

  length_ranks : (indexes : List IndexDef) → length (ranks_in indexes) ≡ length indexes
  length_ranks indexes = length-map (parts_of indexes) (rank_of ts) ∙ length-map indexes (λ (index : IndexDef). index.parts)

  ranks_more : (indexes : List IndexDef) (n : ℕ) (index : IndexDef) → n < length indexes → index ≡ get_or indexes n index → ranks_in (take (n + 1) indexes) ≡ ranks_in (take n indexes) ++ rank_of ts index.parts ∷ []
  ranks_more indexes n index within is =
      ap ranks_in (take_more indexes n index within ∙ ap (λ (i : IndexDef). take n indexes ++ i ∷ []) (sym is))
      ∙ ap (ranks_of ts) (map_push (λ (i : IndexDef). i.parts) (take n indexes) index) ∙ map_push (rank_of ts) (parts_of (take n indexes)) index.parts

  -- What is known of the best of some indexes.
  pub record IsBest (most : ℕ) (best : Option ℕ) (indexes : List IndexDef) : Type 0 where
    pub most_is : most ≡ fold max 0 (ranks_in indexes)
    pub best_is : best ≡ best_of ts (parts_of indexes)

  module _ (indexes : List IndexDef) (n : ℕ) (index : IndexDef) (within : n < length indexes) (is : index ≡ get_or indexes n index) where
    pub best_greater : (most rank : ℕ) → most ≡ fold max 0 (ranks_in (take n indexes)) → rank ≡ rank_of ts index.parts → most < rank → IsBest rank (Some n) (take (n + 1) indexes)
    best_greater most rank was rank_is more =
        let before = ranks_in (take n indexes) in
        let after = ranks_more indexes n index within is in
        let less : fold max 0 before < rank_of ts index.parts = omega (arith, was, rank_is, more) in
        let count : length before ≡ n = length_ranks (take n indexes) ∙ length-take-le n indexes (omega (arith, within)) in
        record {
          most_is = sym (ap (fold max 0) after ∙ most_push before (rank_of ts index.parts) ∙ omega (arith, less, rank_is));
          best_is = sym (ap best_in after ∙ best_more before (rank_of ts index.parts) less ∙ ap (λ (k : ℕ). Some k) count);
        }

    pub best_kept : (most rank : ℕ) (best : Option ℕ) → most ≡ fold max 0 (ranks_in (take n indexes)) → best ≡ best_of ts (parts_of (take n indexes)) → rank ≡ rank_of ts index.parts → rank ≤ most → IsBest most best (take (n + 1) indexes)
    best_kept most rank best was best_was rank_is less =
        let before = ranks_in (take n indexes) in
        let after = ranks_more indexes n index within is in
        let at_most : rank_of ts index.parts ≤ fold max 0 before = omega (arith, was, rank_is, less) in
        record {
          most_is = was ∙ sym (ap (fold max 0) after ∙ most_push before (rank_of ts index.parts) ∙ omega (arith, at_most));
          best_is = best_was ∙ sym (ap best_in after ∙ best_same before (rank_of ts index.parts) at_most);
        }

  pub best_there : (indexes : List IndexDef) (n : ℕ) (best : Option ℕ) → length indexes ≤ n → best ≡ best_of ts (parts_of (take n indexes)) → IfSome best (λ i. i < length indexes)
  best_there indexes n None all is = tt
  best_there indexes n (Some k) all is =
      let within = best_within (ranks_in (take n indexes)) k (sym is) in
      omega (arith, within, length_ranks (take n indexes), length-take n indexes)
