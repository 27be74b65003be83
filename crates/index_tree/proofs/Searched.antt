-- What a search from a spot answers of the items, and what a walk from it comes to.
--     found_behind, found_before, found_after, found_prior      first_behind, last_before, next and prev
--     walked_up, walked_down      what stands behind a cut, and before it
use Rattle.std.proofs.Common.{◌≡◌, ℕ, suc, ◌+◌, ◌/◌, ◌%◌, Bool, not, cond, nat_lt, List, ◌++◌, length, take, drop, filter, reverse, Option, Some, None, sym, ap, subst, ◌∙◌, arith}
use Rattle.index_tree.specs.Contents.{Finds, one_after, one_before}
use Rattle.index_tree.specs.Parts.{IsParted, first_place, last_place}
use Rattle.index_tree.specs.Chunked.{joined, chunk_at, start, held, IsCutAt}
use Rattle.index_tree.proofs.Cuts.{first_behind, last_place_is, cut_of_parted, front_before, rest_behind}
use Rattle.index_tree.proofs.Joined.{joined_front, joined_back}
use Rattle.index_tree.proofs.Places.{IsSpotOf}

module _ {X : Type 0} (chunks pool : List (List X)) where
  -- what `first_from` answers, and `last_until`
  abbrev pub FindsFrom : (c o : ℕ) → Option ℕ → Type 0
  FindsFrom c o answer = Finds (held chunks pool) (cond (nat_lt (start chunks c + o) (length (joined chunks))) (Some (start chunks c + o)) None) answer

  abbrev pub FindsUntil : (c o : ℕ) → Option ℕ → Type 0
  FindsUntil c o answer = Finds (held chunks pool) (one_before (start chunks c + o)) answer

  module _ (test : X → Bool) (parted : IsParted test (joined chunks)) (c o : ℕ) (cut : IsCutAt test chunks c o) where
    pub found_behind : (answer : Option ℕ) → FindsFrom c o answer → Finds (held chunks pool) (first_place (λ x. not (test x)) (joined chunks)) answer
    found_behind answer finds = rw (first_behind test (joined chunks) parted (start chunks c + o) cut.counted) finds

    pub found_before : (answer : Option ℕ) → FindsUntil c o answer → Finds (held chunks pool) (last_place test (joined chunks)) answer
    found_before answer finds =
        let last : last_place test (joined chunks) ≡ one_before (start chunks c + o) = last_place_is test (joined chunks) _ (cut_of_parted test (joined chunks) parted) ∙ ap one_before (sym cut.counted) in
        rw last finds

    pub walked_up : drop o (chunk_at chunks c) ++ joined (drop (c + 1) chunks) ≡ filter (λ x. not (test x)) (joined chunks)
    walked_up =
        let next : c + 1 ≡ suc c = omega arith in
        rw next (joined_back chunks c o cut.within ∙ sym (rest_behind test (joined chunks) parted (start chunks c + o) cut.counted))

    pub walked_down : reverse (joined (take c chunks) ++ take o (chunk_at chunks c)) ≡ reverse (filter test (joined chunks))
    walked_down = ap (λ (xs : List X). reverse xs) (joined_front chunks c o cut.within ∙ sym (front_before test (joined chunks) parted (start chunks c + o) cut.counted))

  pub found_after : (place before c o : ℕ) → IsSpotOf chunks place before → c ≡ place / 256 → o ≡ place % 256 + 1 → (answer : Option ℕ) → FindsFrom c o answer → Finds (held chunks pool) (one_after (length (joined chunks)) before) answer
  found_after place before c o spot c_is o_is answer finds =
      let counted : start chunks c + o ≡ before + 1 = rw c_is (omega (arith, spot.counted)) in
      subst (λ (k : ℕ). Finds (held chunks pool) (cond (nat_lt k (length (joined chunks))) (Some k) None) answer) counted finds

  pub found_prior : (place before c o : ℕ) → IsSpotOf chunks place before → c ≡ place / 256 → o ≡ place % 256 → (answer : Option ℕ) → FindsUntil c o answer → Finds (held chunks pool) (one_before before) answer
  found_prior place before c o spot c_is o_is answer finds =
      let counted : start chunks c + o ≡ before = rw (c_is, o_is) spot.counted in
      subst (λ (k : ℕ). Finds (held chunks pool) (one_before k) answer) counted finds
