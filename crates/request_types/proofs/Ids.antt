-- Ids, and lists of them.
use Rattle.std.proofs.Common.{◌≡◌, ◌⊎◌, inl, inr, ℕ, Bool, true, false, not, eqb, ◌&&◌, List, [], ◌∷◌, refl, sym, ap, subst, ◌∙◌, ⊎_elim}
use Rattle.std.specs.List.{filter}
use Rattle.std.proofs.lemmas.Bool.{cases_Bool, eqb-true, eq-eqb, and_parts, and_from, and_right, both_ways}
use Rattle.request_types.specs.declared.connections.ConnId.{ConnId}
use Rattle.request_types.specs.Ids.{same_id, is_listed, are_once}

-- equal ids are the same, and only these
pub same_id-refl : (id : ConnId) → same_id id id ≡ true
same_id-refl id = and_from (eqb id.number id.number) (eqb id.generation id.generation) (eq-eqb id.number id.number refl) (eq-eqb id.generation id.generation refl)

abbrev id_of : ℕ → ℕ → ConnId
id_of number generation = record { number = number; generation = generation }

pub id_of_parts : (a b : ConnId) → a.number ≡ b.number → a.generation ≡ b.generation → a ≡ b
id_of_parts a b e f = ap (λ (n : ℕ). id_of n a.generation) e ∙ ap (id_of b.number) f

pub same_id-is : (a b : ConnId) → same_id a b ≡ true → a ≡ b
same_id-is a b is =
    let p = and_parts (eqb a.number b.number) (eqb a.generation b.generation) is in
    id_of_parts a b (eqb-true a.number b.number p.0) (eqb-true a.generation b.generation p.1)

pub same_id-cases : (a b : ConnId) → (a ≡ b) ⊎ (same_id a b ≡ false)
same_id-cases a b = ⊎_elim (λ is. inl (same_id-is a b is)) (λ other. inr other) (cases_Bool (same_id a b))

pub same_id-other : (a b : ConnId) → same_id a b ≡ false → same_id b a ≡ false
same_id-other a b other =
    ⊎_elim
    (λ same. absurd (both_ways (same_id a b) other (subst (λ (x : ConnId). same_id a x ≡ true) (sym same) (same_id-refl a))))
    (λ different. different)
    (same_id-cases b a)

-- an id that isn't listed is none that is
pub not_listed-other : (ids : List ConnId) (id other : ConnId) → is_listed ids id ≡ false → is_listed ids other ≡ true → same_id other id ≡ false
not_listed-other ids id other none is =
    ⊎_elim
    (λ same. absurd (both_ways (is_listed ids id) none (subst (λ (x : ConnId). is_listed ids x ≡ true) same is)))
    (λ different. different)
    (same_id-cases other id)

-- the parts of a list in which no id is twice
pub once-head : (id : ConnId) (ids : List ConnId) → are_once (id ∷ ids) ≡ true → is_listed ids id ≡ false
once-head id ids once = ⊎_elim (λ is. absurd (both_ways (are_once (id ∷ ids)) (rw is refl) once)) (λ none. none) (cases_Bool (is_listed ids id))

pub once-tail : (id : ConnId) (ids : List ConnId) → are_once (id ∷ ids) ≡ true → are_once ids ≡ true
once-tail id ids once = (and_parts (not (is_listed ids id)) (are_once ids) once).1

-- those of the ids that pass a test
module _ (test : ConnId → Bool) where
  by_first : (first : ConnId) (ids : List ConnId) (id : ConnId) → first ≡ id → is_listed (filter test ids) id ≡ (is_listed ids id && test id) → is_listed (filter test (first ∷ ids)) id ≡ (is_listed (first ∷ ids) id && test id)
  by_first first ids id same later =
      ⊎_elim
      (λ passes.
      let here : same_id id first ≡ true = subst (λ (x : ConnId). same_id id x ≡ true) (sym same) (same_id-refl id) in
      let does : test id ≡ true = subst (λ (x : ConnId). test x ≡ true) same passes in
      rw (passes, here, does) refl)
      (λ fails.
      let fails_too : test id ≡ false = subst (λ (x : ConnId). test x ≡ false) same fails in
      rw fails (later ∙ and_right (is_listed ids id) (test id) fails_too ∙ sym (and_right (is_listed (first ∷ ids) id) (test id) fails_too)))
      (cases_Bool (test first))

  by_other : (first : ConnId) (ids : List ConnId) (id : ConnId) → same_id id first ≡ false → is_listed (filter test ids) id ≡ (is_listed ids id && test id) → is_listed (filter test (first ∷ ids)) id ≡ (is_listed (first ∷ ids) id && test id)
  by_other first ids id different later =
      ⊎_elim
      (λ passes. rw passes (rw different later))
      (λ fails. rw fails (rw different later))
      (cases_Bool (test first))

  pub listed-filter : (ids : List ConnId) (id : ConnId) → is_listed (filter test ids) id ≡ (is_listed ids id && test id)
  listed-filter [] id = refl
  listed-filter (first ∷ ids) id =
      ⊎_elim
      (λ same. by_first first ids id (sym same) (listed-filter ids id))
      (λ different. by_other first ids id different (listed-filter ids id))
      (same_id-cases id first)

  pub once-filter : (ids : List ConnId) → are_once ids ≡ true → are_once (filter test ids) ≡ true
  once-filter [] once = refl
  once-filter (id ∷ ids) once =
      ⊎_elim
      (λ passes.
      let none : is_listed (filter test ids) id ≡ false = listed-filter ids id ∙ rw (once-head id ids once) refl in
      rw passes (rw none (once-filter ids (once-tail id ids once))))
      (λ fails. rw fails (once-filter ids (once-tail id ids once)))
      (cases_Bool (test id))
