-- What stands between the tabs of a line.
use Rattle.std.proofs.Common.{◌≡◌, ℕ, zero, suc, ◌+◌, ◌-◌, ◌<◌, ◌≤◌, Bool, true, false, cond, not, ◌&&◌, ◌||◌, eqb, ltb, List, [], ◌∷◌, ◌++◌, length, take, drop, get_or, None, refl, sym, ap, subst, ◌∙◌, arith, inl, inr, ◌⊎◌, length-drop}
use Rattle.std.proofs.lemmas.Bool.{cases_Bool, eqb-true, eqb-false, ltb-false, and_parts, and_cases, not-false, false_from_ne_true, ne_eqb}
use Rattle.std.proofs.lemmas.List.{drop_more, take_rest, drop-drop}
use Rattle.std.specs.List.{AllByRecursion}
use Rattle.memchr.specs.Find.{Passes, is_byte, Nowhere, NoneBefore}
use Rattle.hs_token.specs.Reading.{is_second, is_bad, next_byte, first_bad_from, onto_first, fields_of}
use Rattle.hs_token.specs.Steps.{EndsPiece, has_escape}
use Rattle.hs_token.proofs.Cases.{chosen}
use Rattle.hs_token.proofs.Places.{none_head}
use Rattle.hs_token.proofs.Texts.{IsByteList, IsGood, IsPiece, IsField}

-- the pieces with their tabs again
abbrev pub joined : List (List ℕ) → List ℕ
joined [] = []
joined (f ∷ []) = f
joined (f ∷ g ∷ gs) = f ++ 9 ∷ joined (g ∷ gs)

-- the first piece and the others
pub record HasPieces (bytes : List ℕ) : Type 0 where
  pub first : List ℕ
  pub others : List (List ℕ)
  pub is : fields_of bytes ≡ first ∷ others
  pub next : next_byte first ≡ next_byte bytes

pub pieces : (bytes : List ℕ) → HasPieces bytes
pieces [] = record { first = []; others = []; is = refl; next = refl }
pieces (b ∷ bs) =
    elim (cases_Bool (eqb b 9)) [
      | inl tab ↦ record { first = []; others = fields_of bs; is = rw tab refl; next = sym (eqb-true b 9 tab) }
      | inr byte ↦ let rest = pieces bs in record { first = b ∷ rest.first; others = rest.others; is = rw (byte, rest.is) refl; next = refl }
    ]

joined-onto : (b : ℕ) (fs : List (List ℕ)) → joined (onto_first b fs) ≡ b ∷ joined fs
joined-onto b [] = refl
joined-onto b (f ∷ []) = refl
joined-onto b (f ∷ g ∷ gs) = refl

pub joined_fields : (bytes : List ℕ) → joined (fields_of bytes) ≡ bytes
joined_fields [] = refl
joined_fields (b ∷ bs) =
    elim (cases_Bool (eqb b 9)) [
      | inl tab ↦
          let rest = pieces bs in
          let whole : joined (rest.first ∷ rest.others) ≡ bs = ap joined (sym rest.is) ∙ joined_fields bs in
          rw (tab, rest.is, whole, eqb-true b 9 tab) refl
      | inr byte ↦ rw (byte, joined-onto, joined_fields bs) refl
    ]

onto_fit : (b : ℕ) (fs : List (List ℕ)) → b < 256 → AllByRecursion IsByteList fs → AllByRecursion IsByteList (onto_first b fs)
onto_fit b [] lt fits = ((lt, tt), tt)
onto_fit b (f ∷ fs) lt fits = ((lt, fits.0), fits.1)

pub fields_fit : (bytes : List ℕ) → IsByteList bytes → AllByRecursion IsByteList (fields_of bytes)
fields_fit [] fits = (tt, tt)
fields_fit (b ∷ bs) fits =
    elim (cases_Bool (eqb b 9)) [
      | inl tab ↦ rw tab (tt, fields_fit bs fits.1)
      | inr byte ↦ rw byte (onto_fit b (fields_of bs) fits.0 (fields_fit bs fits.1))
    ]

-- ---- how many pieces there are

one_more : (b : ℕ) (bs : List ℕ) → eqb b 9 ≡ false → length (fields_of (b ∷ bs)) ≡ length (fields_of bs)
one_more b bs byte = let is = (pieces bs).is in rw (byte, is) refl

-- a byte more is a piece more if it is a tab
abbrev pub tabs_of : ℕ → ℕ
tabs_of b = cond (eqb b 9) 1 0

length-fields : (b : ℕ) (bs : List ℕ) → length (fields_of (b ∷ bs)) ≡ tabs_of b + length (fields_of bs)
length-fields b bs =
    elim (cases_Bool (eqb b 9)) [
      | inl tab ↦ rw tab (omega arith)
      | inr byte ↦ let none : tabs_of b ≡ 0 = rw byte refl in omega (arith, one_more b bs byte, none)
    ]

pub fields_some : (bytes : List ℕ) → 1 ≤ length (fields_of bytes)
fields_some bytes = let is = (pieces bytes).is in rw is (omega arith)

pub fields_le : (bytes : List ℕ) → length (fields_of bytes) ≤ length bytes + 1
fields_le [] = omega arith
fields_le (b ∷ bs) =
    elim (cases_Bool (eqb b 9)) [
      | inl tab ↦ rw tab (omega (arith, fields_le bs))
      | inr byte ↦ omega (arith, one_more b bs byte, fields_le bs)
    ]

-- the count of them, as the code goes over a line
pub counts_on : (line : List ℕ) (place tokens whole : ℕ) → place < length line → tokens + length (fields_of (drop place line)) ≡ whole → tokens + tabs_of (get_or line place 0) + length (fields_of (drop (place + 1) line)) ≡ whole
counts_on line place tokens whole lt e =
    let more = ap (λ (bs : List ℕ). length (fields_of bs)) (drop_more line place 0 lt) in
    omega (arith, e, more, length-fields (get_or line place 0) (drop (place + 1) line))

or_assoc : (x y z : Bool) → (x || (y || z)) ≡ ((x || y) || z)
or_assoc true y z = refl
or_assoc false y z = refl

pub escapes_on : (line : List ℕ) (place : ℕ) (flag whole : Bool) → place < length line → (flag || has_escape (drop place line)) ≡ whole → ((flag || eqb (get_or line place 0) 1) || has_escape (drop (place + 1) line)) ≡ whole
escapes_on line place flag whole lt e =
    let more = ap (λ (bs : List ℕ). flag || has_escape bs) (drop_more line place 0 lt) in
    sym (or_assoc flag (eqb (get_or line place 0) 1) (has_escape (drop (place + 1) line))) ∙ (sym more ∙ e)

-- a byte that stands for itself is neither a tab nor an escape
pub no_tabs : (b : ℕ) → 16 ≤ b → tabs_of b ≡ 0
no_tabs b le = rw (ne_eqb b 9 (λ e. omega arith)) refl

pub same_flag : (flag : Bool) (b : ℕ) → 16 ≤ b → (flag || eqb b 1) ≡ flag
same_flag true b le = refl
same_flag false b le = ne_eqb b 1 (λ e. omega arith)

-- ---- a line without a bad byte has good pieces

-- the first piece may be a 0x00 alone where a token begins with it
abbrev IsFront : ℕ → List ℕ → Type 0
IsFront before field = IsGood field ⊎ ((before ≡ 9) × (field ≡ 0 ∷ []))

record AreGood (before : ℕ) (bytes : List ℕ) : Type 0 where
  has : HasPieces bytes
  front : IsFront before has.first
  rest : AllByRecursion IsPiece has.others

front_piece : (before : ℕ) (field : List ℕ) → IsFront before field → IsPiece field
front_piece before field (inl good) = inl good
front_piece before field (inr null) = inr null.1

-- behind another byte the front is a good text
front_good : (before : ℕ) (field : List ℕ) → eqb before 9 ≡ false → IsFront before field → IsGood field
front_good before field other (inl good) = good
front_good before field other (inr null) = absurd (eqb-false before 9 other null.0)

empty_front : (field : List ℕ) → IsGood field → next_byte field ≡ 9 → field ≡ []
empty_front [] good e = refl
empty_front (b ∷ bs) good e = absurd (elim good.0 [ inl high ↦ omega arith | inr pair ↦ omega (arith, pair.0) ])

low_byte : (b : ℕ) → (ltb b 16 && not (eqb b 9)) ≡ false → eqb b 9 ≡ false → 16 ≤ b
low_byte b e other =
    elim (and_cases (ltb b 16) (not (eqb b 9)) e) [
      | inl high ↦ ltb-false b 16 high
      | inr tab ↦ absurd (let h : true ≡ false = sym (not-false (eqb b 9) tab) ∙ other in cc)
    ]

more_front : (before b : ℕ) (field : List ℕ) → eqb b 9 ≡ false → IsGood field → is_bad before b (next_byte field) ≡ false → IsFront before (b ∷ field)
more_front before b field other good e =
    elim (chosen (eqb b 1) (not (is_second (next_byte field))) (cond (eqb b 0) (not (eqb before 9 && eqb (next_byte field) 9)) (ltb b 16 && not (eqb b 9))) false e) [
      | inl pair ↦ inl (inr (eqb-true b 1 pair.0, not-false (is_second (next_byte field)) pair.1), good)
      | inr rest ↦
          elim (chosen (eqb b 0) (not (eqb before 9 && eqb (next_byte field) 9)) (ltb b 16 && not (eqb b 9)) false rest.1) [
            | inl null ↦
                let both = and_parts (eqb before 9) (eqb (next_byte field) 9) (not-false (eqb before 9 && eqb (next_byte field) 9) null.1) in
                let alone : field ≡ [] = empty_front field good (eqb-true (next_byte field) 9 both.1) in
                inr (eqb-true before 9 both.0, ap (λ (x : ℕ). x ∷ field) (eqb-true b 0 null.0) ∙ ap (λ (f : List ℕ). 0 ∷ f) alone)
            | inr plain ↦ inl (inl (low_byte b plain.1 other), good)
          ]
    ]

are_good : (place before : ℕ) (bytes : List ℕ) → first_bad_from place before bytes ≡ None → AreGood before bytes
are_good place before [] e = record { has = record { first = []; others = []; is = refl; next = refl }; front = inl tt; rest = tt }
are_good place before (b ∷ bs) e =
    let head = none_head place before b bs e in
    let rest = are_good (place + 1) b bs head.1 in
    elim (cases_Bool (eqb b 9)) [
      | inl tab ↦ record {
        has = record { first = []; others = rest.has.first ∷ rest.has.others; is = rw (tab, rest.has.is) refl; next = sym (eqb-true b 9 tab) };
        front = inl tt;
        rest = (front_piece b rest.has.first rest.front, rest.rest);
      }
      | inr byte ↦
          let good = front_good b rest.has.first byte rest.front in
          let fine : is_bad before b (next_byte rest.has.first) ≡ false = subst (λ (n : ℕ). is_bad before b n ≡ false) (sym rest.has.next) head.0 in
          record {
            has = record { first = b ∷ rest.has.first; others = rest.has.others; is = rw (byte, rest.has.is) refl; next = refl };
            front = more_front before b rest.has.first byte good fine;
            rest = rest.rest;
          }
    ]

pub pieces_good : (line : List ℕ) → first_bad_from 0 9 line ≡ None → AllByRecursion IsPiece (fields_of line)
pieces_good line e =
    let all = are_good 0 9 line e in
    subst (AllByRecursion IsPiece) (sym all.has.is) (front_piece 9 all.has.first all.front, all.rest)

-- ---- the pieces of what is spelled

pub fields_one : (s : List ℕ) → IsField s → fields_of s ≡ s ∷ []
fields_one [] field = refl
fields_one (b ∷ s) field = rw (field.0.0, fields_one s field.1) refl

pub fields_more : (s rest : List ℕ) → IsField s → fields_of (s ++ 9 ∷ rest) ≡ s ∷ fields_of rest
fields_more [] rest field = refl
fields_more (b ∷ s) rest field = rw (field.0.0, fields_more s rest field.1) refl

-- ---- as the code cuts the line

fields_tab : (bytes : List ℕ) (i : ℕ) → i < length bytes → ((k : ℕ) → k < i → ¬ Passes (is_byte 9) bytes k) → Passes (is_byte 9) bytes i → fields_of bytes ≡ take i bytes ∷ fields_of (drop (suc i) bytes)
fields_tab [] i lt before here = absurd (omega arith)
fields_tab (b ∷ bs) zero lt before here = rw here refl
fields_tab (b ∷ bs) (suc i) lt before here =
    let other : eqb b 9 ≡ false = false_from_ne_true (eqb b 9) (before 0 (omega arith)) in
    rw (other, fields_tab bs i (omega arith) (λ k h. before (suc k) (omega arith)) here) refl

-- with no tab there is one piece
pub fields_none : (bytes : List ℕ) → ((k : ℕ) → k < length bytes → ¬ Passes (is_byte 9) bytes k) → fields_of bytes ≡ bytes ∷ []
fields_none [] none = refl
fields_none (b ∷ bs) none =
    let other : eqb b 9 ≡ false = false_from_ne_true (eqb b 9) (none 0 (omega arith)) in
    rw (other, fields_none bs (λ k h. none (suc k) (omega arith))) refl

-- the bytes from a place on
pub next_none : (bytes : List ℕ) (start : ℕ) → Nowhere (Passes (is_byte 9) (take (length bytes - start) (drop start bytes))) 0 (length (take (length bytes - start) (drop start bytes))) → fields_of (drop start bytes) ≡ drop start bytes ∷ []
next_none bytes start none =
    let rest = take (length bytes - start) (drop start bytes) in
    subst (λ (r : List ℕ). fields_of r ≡ r ∷ []) (take_rest bytes start) (fields_none rest (λ k lt. none k (omega arith) lt))

pub next_some : (bytes : List ℕ) (start len : ℕ) → start ≤ length bytes → NoneBefore (Passes (is_byte 9) (take (length bytes - start) (drop start bytes))) 0 (length (take (length bytes - start) (drop start bytes))) len → Passes (is_byte 9) (take (length bytes - start) (drop start bytes)) len → EndsPiece bytes start (start + len)
next_some bytes start len le found here =
    let same : take (length bytes - start) (drop start bytes) ≡ drop start bytes = take_rest bytes start in
    let high : len < length bytes - start = omega (arith, found.high, ap length same, length-drop start bytes) in
    let cut : fields_of (drop start bytes) ≡ take len (drop start bytes) ∷ fields_of (drop (suc len) (drop start bytes)) =
    subst (λ (r : List ℕ). fields_of r ≡ take len r ∷ fields_of (drop (suc len) r)) same
    (fields_tab (take (length bytes - start) (drop start bytes)) len found.high (λ k h. found.before k (omega arith) h) here) in
    let size : start + len - start ≡ len = omega arith in
    let place : start + suc len ≡ start + len + 1 = omega arith in
    record {
      order = omega arith;
      within = omega arith;
      pieces = cut ∙ rw (size, drop-drop (suc len) start bytes, place) refl;
    }
