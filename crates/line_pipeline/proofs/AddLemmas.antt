-- Connections that come under a number, and that go.
use Rattle.std.proofs.Common.{◌≡◌, ◌≢◌, ℕ, zero, suc, ◌+◌, ◌<◌, true, false, eqb, List, [], ◌∷◌, ◌++◌, length, drop, Option, Some, None, is_some, IsSome, get_or, set, refl, sym, ap, ◌∙◌, arith, cond}
use Rattle.std.specs.List.{AllByRecursion, count_by}
use Rattle.std.proofs.lemmas.List.Sums.{sum_by-cons}
use Rattle.std.proofs.lemmas.Bool.{ne_eqb, eq-eqb}
use Rattle.request_types.specs.declared.connections.ConnId.{ConnId}
use Rattle.line_pipeline.specs.declared.conns.Conn.{Conn}
use Rattle.line_pipeline.specs.declared.slots.Slot.{Slot}
use Rattle.request_types.specs.Ids.{same_id}
use Rattle.line_pipeline.specs.Table.{without, IsFree, Joins}
use Rattle.line_pipeline.specs.Gathered.{AreFound}
use Rattle.line_pipeline.specs.Slots.{conns_from}
use Rattle.request_types.proofs.Ids.{same_id-refl, id_of_parts}
use Rattle.line_pipeline.proofs.SlotLemmas.{HasSlot, none_is, none_is_some, some_is}

-- as many connections as places that are taken
pub length-conns_from : (n : ℕ) (slots : List (Option Slot)) → length (conns_from n slots) ≡ count_by is_some slots
length-conns_from n [] = refl
length-conns_from n (None ∷ slots) = length-conns_from (n + 1) slots
length-conns_from n (Some slot ∷ slots) =
    let count : count_by is_some (Some slot ∷ slots) ≡ 1 + count_by is_some slots = sum_by-cons (λ (s : Option Slot). cond (is_some s) 1 0) (Some slot) slots in
    let later : length (conns_from (n + 1) slots) ≡ count_by is_some slots = length-conns_from (n + 1) slots in
    omega (arith, count, later)

-- a list of places by its first
abbrev pub consing : ℕ → Option Slot → List (ConnId × Conn) → List (ConnId × Conn)
consing n None cs = cs
consing n (Some slot) cs = (record { number = n; generation = slot.generation }, slot.conn) ∷ cs

by_first : (n : ℕ) (slots : List (Option Slot)) → conns_from n slots ≡ consing n (get_or slots 0 None) (conns_from (n + 1) (drop 1 slots))
by_first n [] = refl
by_first n (None ∷ slots) = refl
by_first n (Some slot ∷ slots) = refl

rest-at : (slots : List (Option Slot)) (k : ℕ) → get_or (drop 1 slots) k None ≡ get_or slots (suc k) None
rest-at [] k = refl
rest-at (slot ∷ slots) k = refl

-- the same in each place
same-from : (n : ℕ) (a b : List (Option Slot)) → ((k : ℕ) → get_or a k None ≡ get_or b k None) → conns_from n a ≡ conns_from n b
same-from n [] [] same = refl
same-from n [] (None ∷ b) same = same-from (n + 1) [] b (λ k. same (suc k))
same-from n [] (Some slot ∷ b) same = absurd (none_is_some (same 0))
same-from n (None ∷ a) [] same = same-from (n + 1) a [] (λ k. same (suc k))
same-from n (Some slot ∷ a) [] same = absurd (none_is_some (sym (same 0)))
same-from n (x ∷ a) (y ∷ b) same =
    by_first n (x ∷ a) ∙ rw (same 0, same-from (n + 1) a b (λ k. same (suc k))) (sym (by_first n (y ∷ b)))

consing-append : (n : ℕ) (slot : Option Slot) (xs ys : List (ConnId × Conn)) → consing n slot (xs ++ ys) ≡ consing n slot xs ++ ys
consing-append n None xs ys = refl
consing-append n (Some slot) xs ys = refl

-- one more behind the first place
joins_behind : (n : ℕ) (old new : List (Option Slot)) (id : ConnId) (conn : Conn) → get_or new 0 None ≡ get_or old 0 None → Joins (conns_from (n + 1) (drop 1 old)) (conns_from (n + 1) (drop 1 new)) id conn → Joins (conns_from n old) (conns_from n new) id conn
joins_behind n old new id conn first later =
    let was : conns_from n old ≡ consing n (get_or old 0 None) (later.before ++ later.after) = by_first n old ∙ ap (consing n (get_or old 0 None)) later.was in
    let same : conns_from n new ≡ consing n (get_or old 0 None) (conns_from (n + 1) (drop 1 new)) = by_first n new ∙ ap (λ (s : Option Slot). consing n s (conns_from (n + 1) (drop 1 new))) first in
    let is : conns_from n new ≡ consing n (get_or old 0 None) (later.before ++ (id, conn) ∷ later.after) = same ∙ ap (consing n (get_or old 0 None)) later.is in
    record {
      before = consing n (get_or old 0 None) later.before;
      after = later.after;
      was = was ∙ consing-append n (get_or old 0 None) later.before later.after;
      is = is ∙ consing-append n (get_or old 0 None) later.before ((id, conn) ∷ later.after);
    }

-- one connection more
pub joins-from : (n k : ℕ) (old new : List (Option Slot)) (id : ConnId) (slot : Slot) → id.number ≡ n + k → id.generation ≡ slot.generation → get_or old k None ≡ None → get_or new k None ≡ Some slot → ((j : ℕ) → j ≢ k → get_or new j None ≡ get_or old j None) → Joins (conns_from n old) (conns_from n new) id slot.conn
joins-from n zero old new id slot number generation free there others =
    let rest : conns_from (n + 1) (drop 1 new) ≡ conns_from (n + 1) (drop 1 old) = same-from (n + 1) (drop 1 new) (drop 1 old) (λ j. rest-at new j ∙ others (suc j) (λ is. omega (arith, is)) ∙ sym (rest-at old j)) in
    let here : ConnId = record { number = n; generation = slot.generation } in
    let id_is : here ≡ id = id_of_parts here id (omega arith) (sym generation) in
    let taken : conns_from n new ≡ (here, slot.conn) ∷ conns_from (n + 1) (drop 1 new) = by_first n new ∙ ap (λ (s : Option Slot). consing n s (conns_from (n + 1) (drop 1 new))) there in
    let first : conns_from n new ≡ (id, slot.conn) ∷ conns_from (n + 1) (drop 1 new) = taken ∙ ap (λ (i : ConnId). (i, slot.conn) ∷ conns_from (n + 1) (drop 1 new)) id_is in
    record {
      before = [];
      after = conns_from (n + 1) (drop 1 old);
      was = by_first n old ∙ ap (λ (s : Option Slot). consing n s (conns_from (n + 1) (drop 1 old))) free;
      is = first ∙ ap (λ (cs : List (ConnId × Conn)). (id, slot.conn) ∷ cs) rest;
    }
joins-from n (suc k) old new id slot number generation free there others =
    joins_behind n old new id slot.conn (others 0 (λ is. omega (arith, is)))
    (joins-from (n + 1) k (drop 1 old) (drop 1 new) id slot (omega arith) generation (rest-at old k ∙ free) (rest-at new k ∙ there) (λ j other. rest-at new j ∙ others (suc j) (λ is. other (omega (arith, is))) ∙ sym (rest-at old j)))

-- no connection has the number of a place that isn't taken
free-behind : (number n : ℕ) (slots : List (Option Slot)) → number < n → IsFree number (conns_from n slots)
free-behind number n [] below = tt
free-behind number n (None ∷ slots) below = free-behind number (n + 1) slots (omega arith)
free-behind number n (Some slot ∷ slots) below =
    (λ same. omega (arith, same), free-behind number (n + 1) slots (omega arith))

pub free-from : (number n k : ℕ) (slots : List (Option Slot)) → number ≡ n + k → get_or slots k None ≡ None → IsFree number (conns_from n slots)
free-from number n k [] is free = tt
free-from number n zero (None ∷ slots) is free = free-behind number (n + 1) slots (omega arith)
free-from number n zero (Some slot ∷ slots) is free = absurd (none_is_some (sym free))
free-from number n (suc k) (None ∷ slots) is free = free-from number (n + 1) k slots (omega arith) free
free-from number n (suc k) (Some slot ∷ slots) is free =
    (λ same. omega (arith, same), free-from number (n + 1) k slots (omega arith) free)

-- a connection goes
without-before : (n : ℕ) (slots : List (Option Slot)) (id : ConnId) → id.number < n → without id (conns_from n slots) ≡ conns_from n slots
without-before n [] id below = refl
without-before n (None ∷ slots) id below = without-before (n + 1) slots id (omega arith)
without-before n (Some slot ∷ slots) id below =
    let apart : eqb n id.number ≡ false = ne_eqb n id.number (omega arith) in
    rw (apart, without-before (n + 1) slots id (omega arith)) refl

pub without-from : (n k : ℕ) (slots : List (Option Slot)) (id : ConnId) (slot : Slot) → id.number ≡ n + k → get_or slots k None ≡ Some slot → slot.generation ≡ id.generation → without id (conns_from n slots) ≡ conns_from n (set slots k None)
without-from n k [] id slot is there same = absurd (none_is slot there)
without-from n zero (None ∷ slots) id slot is there same = absurd (none_is slot there)
without-from n zero (Some first ∷ slots) id slot is there same =
    let here : eqb n id.number ≡ true = eq-eqb n id.number (omega arith) in
    let first_is : first ≡ slot = some_is first slot there in
    let agrees : eqb first.generation id.generation ≡ true = eq-eqb first.generation id.generation (ap (λ (s : Slot). s.generation) first_is ∙ same) in
    rw (here, agrees) (without-before (n + 1) slots id (omega arith))
without-from n (suc k) (None ∷ slots) id slot is there same = without-from (n + 1) k slots id slot (omega arith) there same
without-from n (suc k) (Some first ∷ slots) id slot is there same =
    let apart : eqb n id.number ≡ false = ne_eqb n id.number (omega arith) in
    rw (apart, without-from (n + 1) k slots id slot (omega arith) there same) refl

-- each connection is found under its id
above-from : (m n : ℕ) (slots : List (Option Slot)) → m < n → AllByRecursion (λ c. m < c.0.number) (conns_from n slots)
above-from m n [] below = tt
above-from m n (None ∷ slots) below = above-from m (n + 1) slots (omega arith)
above-from m n (Some slot ∷ slots) below = (below, above-from m (n + 1) slots (omega arith))

found-more : (first : ConnId × Conn) (all cs : List (ConnId × Conn)) → AllByRecursion (λ c. first.0.number < c.0.number) cs → AreFound all cs → AreFound (first ∷ all) cs
found-more first all [] above found = tt
found-more first all (c ∷ cs) above found =
    let apart : eqb first.0.number c.0.number ≡ false = ne_eqb first.0.number c.0.number (omega (arith, above.0)) in
    (rw apart found.0, found-more first all cs above.1 found.1)

pub found-from : (n : ℕ) (slots : List (Option Slot)) → AreFound (conns_from n slots) (conns_from n slots)
found-from n [] = tt
found-from n (None ∷ slots) = found-from (n + 1) slots
found-from n (Some slot ∷ slots) =
    let id : ConnId = record { number = n; generation = slot.generation } in
    let here : same_id id id ≡ true = same_id-refl id in
    (rw here refl, found-more (id, slot.conn) (conns_from (n + 1) slots) (conns_from (n + 1) slots) (above-from n (n + 1) slots (omega arith)) (found-from (n + 1) slots))

pub some_slot : (slots : List (Option Slot)) (id : ConnId) → HasSlot slots id → IsSome (get_or slots id.number None)
some_slot slots id found = rw found.there refl
