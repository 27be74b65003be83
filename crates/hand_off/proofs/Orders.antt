-- Each step keeps the order.
--     begins      a new queue
--     pushes, pops      an offer and a take
--     forks, merges      a pass more, and one that is taken in
--     learns      what the rule tells of what the queue holds
use Rattle.std.proofs.Common.{◌≡◌, ◌⊎◌, ℕ, zero, suc, ◌+◌, ◌-◌, ◌<◌, ◌≤◌, Bool, true, false, List, [], ◌∷◌, ◌++◌, length, drop, set, refl, sym, ap, subst, ◌∙◌, ⊎_elim, length-append, arith}
use Rattle.std.specs.Prelude.{slice_get, Some, nat_lt, if◌then◌else◌}
use Rattle.std.proofs.lemmas.Bool.{cases_lt}
use Rattle.std.proofs.lemmas.List.{drop-append-le, length-drop}
use mathlib.Core.Option.{some, some-injective, some-ne-none}
use mathlib.Core.List.{IsPrefix}
use lib.ListN.{get_elem?}
use Rattle.atomic_table.proofs.Lists.{at_set}
use Rattle.crossbeam_queue.specs.Fifo.{Pushes, Pops, Forks, Merges, Learns}
use Rattle.known_lists.specs.Lists.{total}
use Rattle.known_lists.proofs.Prefixes.{prefix_all, prefix_none, prefix_snoc, longer_prefix}
use Rattle.known_lists.proofs.Totals.{over, over_end, total_set, total_snoc, total_one}
use Rattle.hand_off.specs.declared.knows.Knows.{Knows}
use Rattle.hand_off.specs.Order.{times, whole, newcomer, IdleIsEmpty, IsQueue, Offers, Takes, Held, together, less_one, one_part}
use Rattle.hand_off.proofs.Times.{times_append, one_time, no_time, all_below}

-- whether a place is below a number, as a number
abbrev below : ℕ → ℕ → ℕ
below k n = if nat_lt k n then 1 else 0

below_is : (k n : ℕ) → k < n → below k n ≡ 1
below_is k n low = at (nat_lt k n) refl
  where
    at : (b : Bool) → nat_lt k n ≡ b → (let m : ℕ = if b then 1 else 0 in m) ≡ 1
    at true e = refl
    at false e = absurd (grind arith)

below_not : (k n : ℕ) → n ≤ k → below k n ≡ 0
below_not k n high = at (nat_lt k n) refl
  where
    at : (b : Bool) → nat_lt k n ≡ b → (let m : ℕ = if b then 1 else 0 in m) ≡ 0
    at true e = absurd (grind arith)
    at false e = refl

below_most : (k n : ℕ) → below k n ≤ 1
below_most k n = at (nat_lt k n)
  where
    at : (b : Bool) → (let m : ℕ = if b then 1 else 0 in m) ≤ 1
    at true = omega arith
    at false = omega arith

-- a place more is out
counted : (out k before after : ℕ) (ps : List ℕ) → after + times k ps ≡ before + times k (ps ++ out ∷ []) → before ≡ below k out → after ≡ below k (suc out)
counted out k before after ps moved was =
    let more = times_append k ps (out ∷ []) in
    ⊎_elim (λ (low : k < out). (let one = below_is k out low in let later = below_is k (suc out) (omega arith) in let no = no_time k out (λ same. (let s = same in omega arith)) in omega arith))
    (λ (high : out ≤ k). ⊎_elim (λ (here : k < suc out). (let none = below_not k out high in let later = below_is k (suc out) here in let same : out ≡ k = omega arith in let one = subst (λ (p : ℕ). times k (p ∷ []) ≡ 1) (sym same) (one_time k) in omega arith))
    (λ (past : suc out ≤ k). (let none = below_not k out high in let later = below_not k (suc out) past in let no = no_time k out (λ same. (let s = same in omega arith)) in omega arith)) (cases_lt k (suc out)))
    (cases_lt k out)

module _ {A : Type 0} where
  front_at : (out : ℕ) (order : List A) (x : A) (items : List A) → x ∷ items ≡ drop out order → (slice_get order out ≡ Some x) × (items ≡ drop (suc out) order) × (out < length order)
  front_at zero [] x items e = absurd (none x items e)
    where
      none : (a : A) (more : List A) → a ∷ more ≡ [] → ⊥
      none a more e = cc
  front_at (suc out) [] x items e = absurd (none x items e)
    where
      none : (a : A) (more : List A) → a ∷ more ≡ [] → ⊥
      none a more e = cc
  front_at zero (o ∷ os) x items e = let both = parts x o items os e in (ap Some (sym both.0), both.1, omega arith)
    where
      parts : (a b : A) (xs ys : List A) → a ∷ xs ≡ b ∷ ys → (a ≡ b) × (xs ≡ ys)
      parts a b xs ys e = (cc, cc)
  front_at (suc out) (o ∷ os) x items e = let more = front_at out os x items e in (more.0, more.1, (let low = more.2 in omega arith))

  abbrev offered_count : Knows A → ℕ
  offered_count v = length v.offered

  abbrev taken_count : Knows A → ℕ
  taken_count v = length v.taken

  abbrev parts_of : Knows A → ℕ
  parts_of v = v.parts

  abbrev taken_times : ℕ → Knows A → ℕ
  taken_times k v = times k v.taken

  at_here : (views : List (Knows A)) (pass : ℕ) (v w : Knows A) → get_elem? views pass ≡ some v → get_elem? (set views pass w) pass ≡ some w
  at_here [] pass v w e = absurd (some-ne-none v (sym e))
  at_here (u ∷ us) zero v w e = refl
  at_here (u ∷ us) (suc pass) v w e = at_here us pass v w e

  abbrev Each : List A → List (Knows A) → Type 0
  Each order views = (pass : ℕ) (v : Knows A) → get_elem? views pass ≡ some v → IsPrefix v.seen order × IdleIsEmpty v

  pub begins : IsQueue {A = A} [] (newcomer whole ∷ [])
  begins = record {
    order = [];
    out = 0;
    most = omega arith;
    holds = refl;
    seen = over_end (λ (pass : ℕ) (v : Knows A). IsPrefix v.seen [] × IdleIsEmpty v) [] (newcomer whole) (prefix_none [], λ none. absurd (omega arith))
        (λ j u e. absurd (some-ne-none u (sym e)));
    once = λ k. sym (below_not k 0 (omega arith));
    offers = refl;
    takes = refl;
    parts = omega arith;
  }

  pub pushes : (n pass : ℕ) (v : Knows A) (x : A) → 0 < v.parts → Pushes IsQueue n pass v x (Offers v x)
  pushes n pass v x some_part items views room q at =
      let w : Knows A = record { parts = v.parts; seen = q.order ++ x ∷ []; offered = v.offered ++ length q.order ∷ []; taken = v.taken } in
      let mine = q.seen pass v at in
      let long = length-append q.order (x ∷ []) in
      let longer_by = length-append v.offered (length q.order ∷ []) in (
        w,
        record {
          order = q.order ++ x ∷ [];
          out = q.out;
          most = (let most = q.most in omega (arith, long));
          holds = ap (λ (xs : List A). xs ++ x ∷ []) q.holds ∙ sym (drop-append-le q.out q.order (x ∷ []) q.most);
          seen = over (λ (j : ℕ) (u : Knows A). IsPrefix u.seen (q.order ++ x ∷ []) × IdleIsEmpty u) views pass w
              (prefix_all (q.order ++ x ∷ []), λ none. absurd (omega arith))
              (λ j u apart e. (prefix_snoc u.seen q.order x (q.seen j u e).0, (q.seen j u e).1));
          once = λ k. (let set_total = total_set (taken_times k) views pass v w at in let was = q.once k in omega arith);
          offers = (let set_total = total_set offered_count views pass v w at in let was = q.offers in omega (arith, long, longer_by));
          takes = (let set_total = total_set taken_count views pass v w at in let was = q.takes in omega arith);
          parts = (let set_total = total_set parts_of views pass v w at in let was = q.parts in omega arith);
        },
        record {
          earlier = q.order;
          grown = mine.0;
          seen = refl;
          offered = refl;
          taken = refl;
          parts = refl;
        },
      )

  pub pops : (pass : ℕ) (v : Knows A) → 0 < v.parts → Pops IsQueue pass v (Takes v)
  pops pass v some_part x items views q at =
      let w : Knows A = record { parts = v.parts; seen = q.order; offered = v.offered; taken = v.taken ++ q.out ∷ [] } in
      let mine = q.seen pass v at in
      let front = front_at q.out q.order x items q.holds in
      let longer_by = length-append v.taken (q.out ∷ []) in
      let each : (k : ℕ) → total (taken_times k) (set views pass w) ≡ below k (suc q.out) = λ k. counted q.out k (total (taken_times k) views) (total (taken_times k) (set views pass w)) v.taken (total_set (taken_times k) views pass v w at) (q.once k) in
      let next : IsQueue items (set views pass w) = record {
        order = q.order;
        out = suc q.out;
        most = front.2;
        holds = front.1;
        seen = over (λ (j : ℕ) (u : Knows A). IsPrefix u.seen q.order × IdleIsEmpty u) views pass w (prefix_all q.order, λ none. absurd (omega arith)) (λ j u apart e. q.seen j u e);
        once = each;
        offers = (let set_total = total_set offered_count views pass v w at in let was = q.offers in omega arith);
        takes = (let set_total = total_set taken_count views pass v w at in let was = q.takes in omega (arith, longer_by));
        parts = (let set_total = total_set parts_of views pass v w at in let was = q.parts in omega arith);
      } in (
        w,
        next,
        record {
          place = q.out;
          grown = mine.0;
          there = front.0;
          behind = all_below q.out v.taken (λ k high. (let one = total_one (taken_times k) views pass v at in let was = q.once k in let none = below_not k q.out high in omega arith));
          taken = refl;
          once = λ k. (let one = total_one (taken_times k) (set views pass w) pass w (at_here views pass v w at) in let most = below_most k (suc q.out) in let is = each k in omega arith);
          offered = refl;
          parts = refl;
        },
      )

  pub forks : (pass : ℕ) (v : Knows A) → 1 < v.parts → Forks IsQueue pass v (less_one v) (one_part v)
  forks pass v two_parts items views q at =
      let mine = q.seen pass v at in
      let changed = set views pass (less_one v) in
      record {
        order = q.order;
        out = q.out;
        most = q.most;
        holds = q.holds;
        seen = over_end (λ (j : ℕ) (u : Knows A). IsPrefix u.seen q.order × IdleIsEmpty u) changed (one_part v) (mine.0, λ none. absurd (omega arith))
            (over (λ (j : ℕ) (u : Knows A). IsPrefix u.seen q.order × IdleIsEmpty u) views pass (less_one v) (mine.0, λ none. absurd (omega arith)) (λ j u apart e. q.seen j u e));
        once = λ k. (let more = total_snoc (taken_times k) changed (one_part v) in let set_total = total_set (taken_times k) views pass v (less_one v) at in let was = q.once k in omega arith);
        offers = (let more = total_snoc offered_count changed (one_part v) in let set_total = total_set offered_count views pass v (less_one v) at in let was = q.offers in omega arith);
        takes = (let more = total_snoc taken_count changed (one_part v) in let set_total = total_set taken_count views pass v (less_one v) at in let was = q.takes in omega arith);
        parts = (let more = total_snoc parts_of changed (one_part v) in let set_total = total_set parts_of views pass v (less_one v) at in let was = q.parts in omega arith);
      }

  pub merges : (pass : ℕ) (v : Knows A) (other : ℕ) (u : Knows A) → 0 < v.parts → Merges IsQueue pass v other u (together v u) (newcomer 0)
  merges pass v other u some_part items views q at apart there =
      let both = together v u in
      let changed = set views pass both in
      let was : get_elem? views other ≡ some u = ⊎_elim (λ x. absurd (apart x.0)) (λ x. x.1) (at_set views pass other both u there) in
      let mine = q.seen pass v at in
      let theirs = q.seen other u was in
      let sums : (f : Knows A → ℕ) → f both ≡ f v + f u → f (newcomer 0) ≡ 0 → total f (set changed other (newcomer 0)) ≡ total f views =
      λ f added none. (let first = total_set f views pass v both at in let second = total_set f changed other u (newcomer 0) there in omega arith) in
      record {
        order = q.order;
        out = q.out;
        most = q.most;
        holds = q.holds;
        seen = over (λ (j : ℕ) (x : Knows A). IsPrefix x.seen q.order × IdleIsEmpty x) changed other (newcomer 0) (prefix_none q.order, λ none. (refl, refl))
            (λ j x away e. over (λ (i : ℕ) (y : Knows A). IsPrefix y.seen q.order × IdleIsEmpty y) views pass both (longer_prefix v.seen u.seen q.order mine.0 theirs.0, λ none. absurd (omega arith)) (λ i y far d. q.seen i y d) j x e);
        once = λ k. sums (taken_times k) (times_append k v.taken u.taken) refl ∙ q.once k;
        offers = sums offered_count (length-append v.offered u.offered) refl ∙ q.offers;
        takes = sums taken_count (length-append v.taken u.taken) refl ∙ q.takes;
        parts = sums parts_of refl refl ∙ q.parts;
      }

  -- others than the one that has all parts have none, and so have offered and taken nothing
  alone : (f : Knows A → ℕ) (views : List (Knows A)) (pass : ℕ) (v : Knows A) → ((j : ℕ) (u : Knows A) → get_elem? views j ≡ some u → u.parts ≡ 0 → f u ≡ 0) → get_elem? views pass ≡ some v → total parts_of views ≡ v.parts → total f views ≡ f v
  alone f [] pass v idle at all = absurd (some-ne-none v (sym at))
  alone f (u ∷ us) zero v idle at all =
      let same : u ≡ v = some-injective u v at in
      let same_parts = ap parts_of same in
      let others = none_of f us (λ j x e. idle (suc j) x e) (omega arith) in
      let here = ap f same in
      omega arith
    where
      none_of : (f : Knows A → ℕ) (xs : List (Knows A)) → ((j : ℕ) (x : Knows A) → get_elem? xs j ≡ some x → x.parts ≡ 0 → f x ≡ 0) → total parts_of xs ≡ 0 → total f xs ≡ 0
      none_of f [] idle none = refl
      none_of f (x ∷ xs) idle none = let first = idle 0 x refl (omega arith) in let rest = none_of f xs (λ j y e. idle (suc j) y e) (omega arith) in omega arith
  alone f (u ∷ us) (suc pass) v idle at all =
      let mine = total_one parts_of us pass v at in
      let first = idle 0 u refl (omega arith) in
      let rest = alone f us pass v (λ j x e. idle (suc j) x e) at (omega arith) in
      omega arith

  pub learns : (pass : ℕ) (v : Knows A) → Learns IsQueue pass v (λ items. Held (length items) v)
  learns pass v items views q at =
      let mine = q.seen pass v at in
      let count : length items ≡ length (drop q.out q.order) = ap (λ (xs : List A). length xs) q.holds in
      let left = length-drop q.out q.order in
      record {
        order = q.order;
        out = q.out;
        grown = mine.0;
        held = (let most = q.most in omega arith);
        alone = λ all.
            (let offers = alone offered_count views pass v (λ j u e none. ap (λ (xs : List ℕ). length xs) ((q.seen j u e).1 none).0) at (q.parts ∙ sym all) in
            let takes = alone taken_count views pass v (λ j u e none. ap (λ (xs : List ℕ). length xs) ((q.seen j u e).1 none).1) at (q.parts ∙ sym all) in
            let offered = q.offers in let taken = q.takes in let most = q.most in omega arith);
      }
