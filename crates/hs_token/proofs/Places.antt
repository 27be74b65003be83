-- The first bad place that is computed from the left is the first of the bad places.
use Rattle.std.proofs.Common.{◌≡◌, ℕ, zero, suc, ◌+◌, ◌<◌, Bool, true, false, List, [], ◌∷◌, Some, None, length, get_or, drop, refl, sym, ap, ◌∙◌, subst, arith, inl, inr, add-one}
use Rattle.std.proofs.lemmas.List.{drop_more}
use Rattle.hs_token.specs.Reading.{is_bad, is_bad_at, IsFirstBad, next_byte, first_bad_from, first_bad}
use Rattle.hs_token.proofs.Cases.{chosen}

pub next_is : (bytes : List ℕ) → next_byte bytes ≡ get_or bytes 0 9
next_is [] = refl
next_is (b ∷ bs) = refl

pub next-drop : (bytes : List ℕ) (i : ℕ) → next_byte (drop i bytes) ≡ get_or bytes i 9
next-drop [] zero = refl
next-drop [] (suc i) = refl
next-drop (b ∷ bs) zero = refl
next-drop (b ∷ bs) (suc i) = next-drop bs i

-- whether the byte at this place is bad, of bytes behind a byte
abbrev bad_in : ℕ → List ℕ → ℕ → Bool
bad_in before bytes k = is_bad (get_or (before ∷ bytes) k 9) (get_or bytes k 9) (get_or bytes (suc k) 9)

at_is : (line : List ℕ) (k : ℕ) → is_bad_at line k ≡ bad_in 9 line k
at_is line k = rw add-one refl

record Found (place before : ℕ) (bytes : List ℕ) (found : ℕ) : Type 0 where
  index : ℕ
  place_is : found ≡ place + index
  bad : bad_in before bytes index ≡ true
  first : (j : ℕ) → j < index → bad_in before bytes j ≡ false

pub some_is : (m n : ℕ) → Some m ≡ Some n → m ≡ n
some_is m n e = cc

below_suc : (P : ℕ → Type 0) (k : ℕ) → P 0 → ((j : ℕ) → j < k → P (suc j)) → (j : ℕ) → j < suc k → P j
below_suc P k first more zero lt = first
below_suc P k first more (suc j) lt = more j (omega arith)

-- the head of what is not bad
pub none_head : (place before b : ℕ) (bs : List ℕ) → first_bad_from place before (b ∷ bs) ≡ None → (is_bad before b (next_byte bs) ≡ false) × (first_bad_from (place + 1) b bs ≡ None)
none_head place before b bs e =
    elim (chosen (is_bad before b (next_byte bs)) (Some place) (first_bad_from (place + 1) b bs) None e) [
      | inl bad ↦ absurd (let h = bad.1 in cc)
      | inr good ↦ good
    ]

found_in : (place before : ℕ) (bytes : List ℕ) (found : ℕ) → first_bad_from place before bytes ≡ Some found → Found place before bytes found
found_in place before [] found e = absurd cc
found_in place before (b ∷ bs) found e =
    elim (chosen (is_bad before b (next_byte bs)) (Some place) (first_bad_from (place + 1) b bs) (Some found) e) [
      | inl bad ↦ record {
        index = 0;
        place_is = let h = some_is place found bad.1 in omega arith;
        bad = subst (λ (n : ℕ). is_bad before b n ≡ true) (next_is bs) bad.0;
        first = λ j lt. absurd (omega arith);
      }
      | inr good ↦
          let rest = found_in (place + 1) b bs found good.1 in
          record {
            index = suc rest.index;
            place_is = let h = rest.place_is in omega arith;
            bad = rest.bad;
            first = below_suc (λ j. bad_in before (b ∷ bs) j ≡ false) rest.index (subst (λ (n : ℕ). is_bad before b n ≡ false) (next_is bs) good.0) rest.first;
          }
    ]

in_found : (place before : ℕ) (bytes : List ℕ) (k : ℕ) → bad_in before bytes k ≡ true → ((j : ℕ) → j < k → bad_in before bytes j ≡ false) → first_bad_from place before bytes ≡ Some (place + k)
in_found place before [] k bad first = absurd (let h : false ≡ true = bad in cc)
in_found place before (b ∷ bs) zero bad first =
    let here : is_bad before b (next_byte bs) ≡ true = subst (λ (n : ℕ). is_bad before b n ≡ true) (sym (next_is bs)) bad in
    let same : place ≡ place + 0 = omega arith in
    rw here (ap (λ (n : ℕ). Some n) same)
in_found place before (b ∷ bs) (suc k) bad first =
    let here : is_bad before b (next_byte bs) ≡ false = subst (λ (n : ℕ). is_bad before b n ≡ false) (sym (next_is bs)) (first 0 (omega arith)) in
    let same : place + 1 + k ≡ place + suc k = omega arith in
    rw here (in_found (place + 1) b bs k bad (λ j lt. first (suc j) (omega arith)) ∙ ap (λ (n : ℕ). Some n) same)

pub first_bad_is : (line : List ℕ) (place : ℕ) → first_bad line ≡ Some place → IsFirstBad line place
first_bad_is line place e =
    let found = found_in 0 9 line place e in
    let same : found.index ≡ place = omega (arith, found.place_is) in
    record {
      bad = subst (λ (k : ℕ). is_bad_at line k ≡ true) same (at_is line found.index ∙ found.bad);
      first = λ k lt. at_is line k ∙ found.first k (omega arith);
    }

pub is_first_bad : (line : List ℕ) (place : ℕ) → IsFirstBad line place → first_bad line ≡ Some place
is_first_bad line place is =
    let same : 0 + place ≡ place = omega arith in
    in_found 0 9 line place (sym (at_is line place) ∙ is.bad) (λ j lt. sym (at_is line j) ∙ is.first j lt) ∙ ap (λ (n : ℕ). Some n) same

-- ---- as the code goes over a line

pub stops : (line : List ℕ) (place before : ℕ) → place < length line → is_bad before (get_or line place 0) (get_or line (place + 1) 9) ≡ true → first_bad_from place before (drop place line) ≡ Some place
stops line place before lt e =
    let here : is_bad before (get_or line place 0) (next_byte (drop (place + 1) line)) ≡ true = subst (λ (n : ℕ). is_bad before (get_or line place 0) n ≡ true) (sym (next-drop line (place + 1))) e in
    rw (drop_more line place 0 lt, here) refl

pub goes_on : (line : List ℕ) (place before : ℕ) → place < length line → is_bad before (get_or line place 0) (get_or line (place + 1) 9) ≡ false → first_bad_from place before (drop place line) ≡ first_bad_from (place + 1) (get_or line place 0) (drop (place + 1) line)
goes_on line place before lt e =
    let here : is_bad before (get_or line place 0) (next_byte (drop (place + 1) line)) ≡ false = subst (λ (n : ℕ). is_bad before (get_or line place 0) n ≡ false) (sym (next-drop line (place + 1))) e in
    rw (drop_more line place 0 lt, here) refl
