-- Where a search by the first items of the chunks comes to stand.
--     chunk_parted      a cut parts each chunk
--     parted_firsts      a cut parts the first items
--     cut_is      the spot in the last of them
use Rattle.std.proofs.Common.{◌≡◌, ℕ, zero, suc, ◌+◌, ◌-◌, ◌<◌, ◌≤◌, Bool, true, false, cond, List, [], ◌∷◌, ◌++◌, length, count_by, sym, refl, ap, subst, ◌∙◌, arith}
use Rattle.std.specs.List.{AllByRecursion}
use Rattle.std.proofs.lemmas.List.Sums.{sum_by-append}
use Rattle.std.proofs.lemmas.Bool.{true≢false}
use Rattle.index_tree.specs.Parts.{IsParted}
use Rattle.index_tree.specs.Chunked.{joined, chunk_at, start, IsShaped, HaveItems, IsCutAt, EachBeginsWith, AreFirsts}
use Rattle.index_tree.proofs.Cuts.{IsCut, Falls, falls_from_parted, parted_from_falls, cut_at_count, count_yes, count_no, count_none}
use Rattle.index_tree.proofs.Elements.{all_front, all_back}
use Rattle.index_tree.proofs.Joined.{start_later}
use Rattle.index_tree.proofs.Shaped.{have_items}

-- whether the first item of a chunk passes
abbrev first_passes : {X : Type 0} → (X → Bool) → List X → Bool
first_passes test [] = false
first_passes test (x ∷ xs) = test x

module _ {X : Type 0} (test : X → Bool) where
  falls_front : (xs ys : List X) → Falls test (xs ++ ys) → Falls test xs
  falls_front [] ys falls = tt
  falls_front (x ∷ xs) ys falls = (λ fails. all_front (λ (y : X). test y ≡ false) xs ys (falls.0 fails), falls_front xs ys falls.1)

  falls_back : (xs ys : List X) → Falls test (xs ++ ys) → Falls test ys
  falls_back [] ys falls = falls
  falls_back (x ∷ xs) ys falls = falls_back xs ys falls.1

  falls_chunk : (chunks : List (List X)) (c : ℕ) → Falls test (joined chunks) → Falls test (chunk_at chunks c)
  falls_chunk [] c falls = tt
  falls_chunk (x ∷ xs) zero falls = falls_front x (joined xs) falls
  falls_chunk (x ∷ xs) (suc c) falls = falls_chunk xs c (falls_back x (joined xs) falls)

  -- a cut parts each chunk
  pub chunk_parted : (chunks : List (List X)) (c : ℕ) → IsParted test (joined chunks) → IsParted test (chunk_at chunks c)
  chunk_parted chunks c parted = parted_from_falls test (chunk_at chunks c) (falls_chunk chunks c (falls_from_parted test (joined chunks) parted))

  -- where none passes no chunk begins with one that does
  none_begins : (chunks : List (List X)) → AllByRecursion (λ y. test y ≡ false) (joined chunks) → AllByRecursion (λ xs. first_passes test xs ≡ false) chunks
  none_begins [] none = tt
  none_begins ([] ∷ rest) none = (refl, none_begins rest none)
  none_begins ((y ∷ ys) ∷ rest) none = (none.0, none_begins rest (all_back (λ (z : X). test z ≡ false) ys (joined rest) none.1))

  falls_begun : (chunks : List (List X)) → HaveItems chunks → Falls test (joined chunks) → Falls (first_passes test) chunks
  falls_begun [] items falls = tt
  falls_begun ([] ∷ rest) items falls = absurd (omega (arith, items.0))
  falls_begun ((y ∷ ys) ∷ rest) items falls =
      (λ fails. none_begins rest (all_back (λ (z : X). test z ≡ false) ys (joined rest) (falls.0 fails)), falls_begun rest items.1 (falls_back (y ∷ ys) (joined rest) falls))

  falls_chunks : (chunks : List (List X)) → IsShaped chunks → Falls test (joined chunks) → Falls (first_passes test) chunks
  falls_chunks [] shaped falls = tt
  falls_chunks (x ∷ []) shaped falls = (λ fails. tt, tt)
  falls_chunks (x ∷ (y ∷ rest)) shaped falls = falls_begun (x ∷ (y ∷ rest)) (have_items (x ∷ (y ∷ rest)) shaped (omega arith)) falls

  falls_firsts : (firsts : List X) (chunks : List (List X)) → HaveItems chunks → length firsts ≡ length chunks → EachBeginsWith firsts chunks → Falls (first_passes test) chunks → Falls test firsts
  falls_firsts [] chunks items number begin falls = tt
  falls_firsts (y ∷ ys) [] items number begin falls = absurd (omega arith)
  falls_firsts (y ∷ ys) ([] ∷ rest) items number begin falls = absurd (omega (arith, items.0))
  falls_firsts (y ∷ ys) ((x ∷ xs) ∷ rest) items number begin falls =
      (λ fails. fail_firsts ys rest items.1 (omega arith) begin.1 (falls.0 (ap test (sym begin.0) ∙ fails)), falls_firsts ys rest items.1 (omega arith) begin.1 falls.1)
    where
      fail_firsts : (firsts : List X) (chunks : List (List X)) → HaveItems chunks → length firsts ≡ length chunks → EachBeginsWith firsts chunks → AllByRecursion (λ xs. first_passes test xs ≡ false) chunks → AllByRecursion (λ y. test y ≡ false) firsts
      fail_firsts [] chunks items number begin none = tt
      fail_firsts (y ∷ ys) [] items number begin none = absurd (omega arith)
      fail_firsts (y ∷ ys) ([] ∷ rest) items number begin none = absurd (omega (arith, items.0))
      fail_firsts (y ∷ ys) ((x ∷ xs) ∷ rest) items number begin none = (ap test begin.0 ∙ none.0, fail_firsts ys rest items.1 (omega arith) begin.1 none.1)

  -- so it parts the first items
  pub parted_firsts : (firsts : List X) (chunks : List (List X)) → IsShaped chunks → AreFirsts firsts chunks → IsParted test (joined chunks) → IsParted test firsts
  parted_firsts [] chunks shaped are parted = refl
  parted_firsts (f ∷ firsts) [] shaped are parted = absurd (omega (arith, are.number))
  parted_firsts (f ∷ []) (x ∷ []) shaped are parted = parted_from_falls test (f ∷ []) (λ fails. tt, tt)
  parted_firsts (f ∷ (g ∷ firsts)) (x ∷ []) shaped are parted = absurd (omega (arith, are.number))
  parted_firsts (f ∷ firsts) (x ∷ (y ∷ rest)) shaped are parted =
      let falls = falls_chunks (x ∷ (y ∷ rest)) shaped (falls_from_parted test (joined (x ∷ (y ∷ rest))) parted) in
      parted_from_falls test (f ∷ firsts) (falls_firsts (f ∷ firsts) (x ∷ (y ∷ rest)) (have_items (x ∷ (y ∷ rest)) shaped (omega arith)) are.number are.begin falls)

  count_each : (firsts : List X) (chunks : List (List X)) → HaveItems chunks → length firsts ≡ length chunks → EachBeginsWith firsts chunks → count_by test firsts ≡ count_by (first_passes test) chunks
  count_each [] [] items number begin = refl
  count_each [] (x ∷ rest) items number begin = absurd (omega arith)
  count_each (y ∷ ys) [] items number begin = absurd (omega arith)
  count_each (y ∷ ys) ([] ∷ rest) items number begin = absurd (omega (arith, items.0))
  count_each (y ∷ ys) ((x ∷ xs) ∷ rest) items number begin = by_test (count_each ys rest items.1 (omega arith) begin.1) (test x) refl
    where
      by_test : count_by test ys ≡ count_by (first_passes test) rest → (b : Bool) → test x ≡ b → count_by test (y ∷ ys) ≡ count_by (first_passes test) ((x ∷ xs) ∷ rest)
      by_test later true passes = omega (arith, count_yes test y ys (ap test begin.0 ∙ passes), count_yes (first_passes test) (x ∷ xs) rest passes, later)
      by_test later false fails = omega (arith, count_no test y ys (ap test begin.0 ∙ fails), count_no (first_passes test) (x ∷ xs) rest fails, later)

  count_both : (xs ys : List X) → count_by test (xs ++ ys) ≡ count_by test xs + count_by test ys
  count_both xs ys = sum_by-append (λ (y : X). cond (test y) 1 0) xs ys

  -- where one passes behind, all in front do
  all_in_front : (xs ys : List X) → Falls test (xs ++ ys) → 0 < count_by test ys → count_by test xs ≡ length xs
  all_in_front [] ys falls some = refl
  all_in_front (x ∷ xs) ys falls some = by_test (all_in_front xs ys falls.1 some) (test x) refl
    where
      by_test : count_by test xs ≡ length xs → (b : Bool) → test x ≡ b → count_by test (x ∷ xs) ≡ length (x ∷ xs)
      by_test rest true passes = count_yes test x xs passes ∙ ap suc rest
      by_test rest false fails =
          let none = count_none test ys (all_back (λ (y : X). test y ≡ false) xs ys (falls.0 fails)) in
          absurd (omega arith)

  -- a chunk that begins with one that passes has one
  begun_has : (xs : List X) → first_passes test xs ≡ true → 0 < count_by test xs
  begun_has [] passes = absurd (true≢false (sym passes))
  begun_has (x ∷ xs) passes = omega (arith, count_yes test x xs passes)

  some_begun : (chunks : List (List X)) → 0 < count_by (first_passes test) chunks → 0 < count_by test (joined chunks)
  some_begun [] some = absurd (omega arith)
  some_begun (x ∷ rest) some = by_test (some_begun rest) (first_passes test x) refl
    where
      by_test : (0 < count_by (first_passes test) rest → 0 < count_by test (joined rest)) → (b : Bool) → first_passes test x ≡ b → 0 < count_by test (x ++ joined rest)
      by_test later true passes = omega (arith, count_both x (joined rest), begun_has x passes)
      by_test later false fails =
          let more = later (omega (arith, count_no (first_passes test) x rest fails, some)) in
          omega (arith, count_both x (joined rest))

  -- where none begins so none passes
  none_begun : (chunks : List (List X)) → HaveItems chunks → Falls test (joined chunks) → count_by (first_passes test) chunks ≡ 0 → count_by test (joined chunks) ≡ 0
  none_begun [] items falls none = refl
  none_begun ([] ∷ rest) items falls none = absurd (omega (arith, items.0))
  none_begun ((y ∷ ys) ∷ rest) items falls none = by_test (test y) refl
    where
      by_test : (b : Bool) → test y ≡ b → count_by test (joined ((y ∷ ys) ∷ rest)) ≡ 0
      by_test true passes = absurd (omega (arith, count_yes (first_passes test) (y ∷ ys) rest passes, none))
      by_test false fails = count_none test (joined ((y ∷ ys) ∷ rest)) (fails, falls.0 fails)

  counted_begun : (chunks : List (List X)) → HaveItems chunks → Falls test (joined chunks) → (c : ℕ) → count_by (first_passes test) chunks ≡ suc c → start chunks c + count_by test (chunk_at chunks c) ≡ count_by test (joined chunks)
  counted_begun [] items falls c is = absurd (omega arith)
  counted_begun ([] ∷ rest) items falls c is = absurd (omega (arith, items.0))
  counted_begun ((y ∷ ys) ∷ rest) items falls c is = by_test (counted_begun rest items.1 (falls_back (y ∷ ys) (joined rest) falls)) c is (test y) refl
    where
      later : Falls test (joined rest)
      later = falls_back (y ∷ ys) (joined rest) falls

      by_test : ((k : ℕ) → count_by (first_passes test) rest ≡ suc k → start rest k + count_by test (chunk_at rest k) ≡ count_by test (joined rest)) → (k : ℕ) → count_by (first_passes test) ((y ∷ ys) ∷ rest) ≡ suc k → (b : Bool) → test y ≡ b → start ((y ∷ ys) ∷ rest) k + count_by test (chunk_at ((y ∷ ys) ∷ rest) k) ≡ count_by test ((y ∷ ys) ++ joined rest)
      by_test again zero is true passes =
          let none = none_begun rest items.1 later (omega (arith, count_yes (first_passes test) (y ∷ ys) rest passes)) in
          omega (arith, count_both (y ∷ ys) (joined rest))
      by_test again (suc k) is true passes =
          let behind : count_by (first_passes test) rest ≡ suc k = omega (arith, count_yes (first_passes test) (y ∷ ys) rest passes) in
          let some = some_begun rest (omega arith) in
          let whole = all_in_front (y ∷ ys) (joined rest) falls some in
          omega (arith, start_later (y ∷ ys) rest k, again k behind, count_both (y ∷ ys) (joined rest))
      by_test again k is false fails =
          let none = count_none (first_passes test) rest (none_begins rest (all_back (λ (z : X). test z ≡ false) ys (joined rest) (falls.0 fails))) in
          absurd (omega (arith, count_no (first_passes test) (y ∷ ys) rest fails))

  count_bound : (xs : List X) → count_by test xs ≤ length xs
  count_bound [] = omega arith
  count_bound (x ∷ xs) = by_test (count_bound xs) (test x) refl
    where
      by_test : count_by test xs ≤ length xs → (b : Bool) → test x ≡ b → count_by test (x ∷ xs) ≤ suc (length xs)
      by_test rest true passes = omega (arith, count_yes test x xs passes)
      by_test rest false fails = omega (arith, count_no test x xs fails)

  begun_bound : (chunks : List (List X)) → count_by (first_passes test) chunks ≤ length chunks
  begun_bound [] = omega arith
  begun_bound (x ∷ rest) = by_test (begun_bound rest) (first_passes test x) refl
    where
      by_test : count_by (first_passes test) rest ≤ length rest → (b : Bool) → first_passes test x ≡ b → count_by (first_passes test) (x ∷ rest) ≤ suc (length rest)
      by_test later true passes = omega (arith, count_yes (first_passes test) x rest passes)
      by_test later false fails = omega (arith, count_no (first_passes test) x rest fails)

  -- as many first items pass as chunks that begin so, but for the item beside an only chunk that is empty
  count_firsts : (firsts : List X) (chunks : List (List X)) → IsShaped chunks → AreFirsts firsts chunks → count_by test firsts - 1 ≡ count_by (first_passes test) chunks - 1
  count_firsts firsts [] shaped are = omega (arith, are.number, count_bound firsts)
  count_firsts firsts (x ∷ []) shaped are = omega (arith, are.number, count_bound firsts, begun_bound (x ∷ []))
  count_firsts firsts (x ∷ (y ∷ rest)) shaped are = ap (λ (n : ℕ). n - 1) (count_each firsts (x ∷ (y ∷ rest)) (have_items (x ∷ (y ∷ rest)) shaped (omega arith)) are.number are.begin)

  last_begins : (chunks : List (List X)) (c : ℕ) → IsCut (first_passes test) chunks (suc c) → first_passes test (chunk_at chunks c) ≡ true
  last_begins [] c is_cut = absurd (omega (arith, is_cut))
  last_begins (x ∷ rest) zero is_cut = is_cut.0
  last_begins (x ∷ rest) (suc c) is_cut = last_begins rest c is_cut.1

  counted_there : (chunks : List (List X)) → IsShaped chunks → Falls test (joined chunks) → (n c : ℕ) → n ≡ count_by (first_passes test) chunks → c ≡ n - 1 → c < length chunks → start chunks c + count_by test (chunk_at chunks c) ≡ count_by test (joined chunks)
  counted_there [] shaped falls n c is there inside = absurd (omega arith)
  counted_there (x ∷ []) shaped falls n zero is there inside = omega (arith, count_both x [])
  counted_there (x ∷ []) shaped falls n (suc c) is there inside = absurd (omega arith)
  counted_there (x ∷ (y ∷ rest)) shaped falls zero c is there inside =
      let none = none_begun (x ∷ (y ∷ rest)) (have_items (x ∷ (y ∷ rest)) shaped (omega arith)) falls (sym is) in
      let first : c ≡ 0 = omega arith in
      rw first (omega (arith, count_both x (joined (y ∷ rest))))
  counted_there (x ∷ (y ∷ rest)) shaped falls (suc n) c is there inside =
      let here : c ≡ n = omega arith in
      rw here (counted_begun (x ∷ (y ∷ rest)) (have_items (x ∷ (y ∷ rest)) shaped (omega arith)) falls n (sym is))

  -- no item passes where the last chunk that begins so has none that does, and that is the first chunk
  first_there : (chunks : List (List X)) (n c : ℕ) → IsCut (first_passes test) chunks n → c ≡ n - 1 → count_by test (chunk_at chunks c) ≡ 0 → c ≡ 0
  first_there chunks zero c is_cut there none = omega arith
  first_there chunks (suc n) c is_cut there none =
      let here : c ≡ n = omega arith in
      let has = begun_has (chunk_at chunks n) (last_begins chunks n is_cut) in
      let none_there : count_by test (chunk_at chunks n) ≡ 0 = subst (λ (k : ℕ). count_by test (chunk_at chunks k) ≡ 0) here none in
      absurd (omega arith)

  -- the spot of a cut
  pub cut_is : (chunks : List (List X)) (firsts : List X) → IsShaped chunks → AreFirsts firsts chunks → IsParted test (joined chunks) → (c offset : ℕ) (it : List X) → c ≡ count_by test firsts - 1 → c < length chunks → it ≡ chunk_at chunks c → offset ≡ count_by test it → IsCutAt test chunks c offset
  cut_is chunks firsts shaped are parted c offset it is_there inside it_is counted =
      let there : c ≡ count_by (first_passes test) chunks - 1 = is_there ∙ count_firsts firsts chunks shaped are in
      let falls = falls_from_parted test (joined chunks) parted in
      let count : offset ≡ count_by test (chunk_at chunks c) = counted ∙ ap (count_by test) it_is in
      let cut = cut_at_count (first_passes test) chunks (falls_chunks chunks shaped falls) in
      record {
        counted = ap (λ (k : ℕ). start chunks c + k) count ∙ counted_there chunks shaped falls _ c refl there inside;
        inside = λ _. inside;
        reached = λ _. inside;
        within = omega (arith, count_bound (chunk_at chunks c));
        first = λ none. first_there chunks _ c cut there (sym count ∙ none);
      }
