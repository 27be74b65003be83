-- The ids of numbers.
use Rattle.std.proofs.Common.{◌≡◌, ℕ, Bool, true, false, eqb, not, ◌&&◌, List, [], ◌∷◌, ◌++◌, Option, Some, None, refl, sym, subst, ◌∙◌, ⊎_elim}
use Rattle.std.specs.Prelude.{option_to_list, nat_eq}
use Rattle.std.specs.List.{list_any}
use Rattle.std.proofs.lemmas.Bool.{cases_Bool, or_parts, both_ways, eqb-true, eq-eqb}
use Rattle.request_types.specs.declared.connections.ConnId.{ConnId}
use Rattle.row_types.specs.Valid.{are_distinct}
use Rattle.request_types.specs.Ids.{same_id, is_listed, are_once}
use Rattle.request_types.proofs.Ids.{same_id-refl, same_id-other, once-head, once-tail}
use Rattle.replay_turns.specs.declared.entries.Entry.{Entry}
use Rattle.replay_turns.specs.Entries.{id_at, ids_at, ids_of}
use Rattle.replay_turns.proofs.Lookups.{Missing}
use Rattle.replay_turns.proofs.Places.{apart}

pub some_id : (a b : ConnId) → Some a ≡ Some b → a ≡ b
some_id a b is = cc

pub none_id : (a : ConnId) → ◌≡◌ {A = Option ConnId} None (Some a) → ⊥
none_id a is = cc

pub id_here : (number : ℕ) (e : Entry) (es : List Entry) → eqb e.number number ≡ true → id_at number (e ∷ es) ≡ Some e.id
id_here number e es is = rw is refl

pub id_more : (number : ℕ) (e : Entry) (es : List Entry) → eqb e.number number ≡ false → id_at number (e ∷ es) ≡ id_at number es
id_more number e es is = rw is refl

pub missing_id : (number : ℕ) (es : List Entry) → id_at number es ≡ None → Missing number es
missing_id number [] is = tt
missing_id number (e ∷ es) is =
    ⊎_elim
    (λ here. absurd (none_id e.id (sym is ∙ id_here number e es here)))
    (λ other. (other, missing_id number es (sym (id_more number e es other) ∙ is)))
    (cases_Bool (eqb e.number number))

pub id_listed : (number : ℕ) (es : List Entry) (id : ConnId) → id_at number es ≡ Some id → is_listed (ids_of es) id ≡ true
id_listed number [] id is = absurd (none_id id is)
id_listed number (e ∷ es) id is =
    ⊎_elim
    (λ here.
    let same : e.id ≡ id = some_id e.id id (sym (id_here number e es here) ∙ is) in
    let first : same_id id e.id ≡ true = subst (λ (x : ConnId). same_id x e.id ≡ true) same (same_id-refl e.id) in
    rw first refl)
    (λ other.
    let later = id_listed number es id (sym (id_more number e es other) ∙ is) in
    ⊎_elim (λ first. rw first refl) (λ another. rw another later) (cases_Bool (same_id id e.id)))
    (cases_Bool (eqb e.number number))

-- two numbers, two ids
differ : (a b : ℕ) (es : List Entry) (i j : ConnId) → are_once (ids_of es) ≡ true → id_at a es ≡ Some i → id_at b es ≡ Some j → eqb a b ≡ false → same_id i j ≡ false
differ a b [] i j once first second different = absurd (none_id i first)
differ a b (e ∷ es) i j once first second different =
    ⊎_elim
    (λ a_here.
    ⊎_elim
    (λ b_here. absurd (both_ways (eqb a b) different (eq-eqb a b (sym (eqb-true e.number a a_here) ∙ eqb-true e.number b b_here))))
    (λ b_other.
    let i_is : e.id ≡ i = some_id e.id i (sym (id_here a e es a_here) ∙ first) in
    let j_in = id_listed b es j (sym (id_more b e es b_other) ∙ second) in
    subst (λ (x : ConnId). same_id x j ≡ false) i_is (apart (ids_of es) j e.id j_in (once-head e.id (ids_of es) once)))
    (cases_Bool (eqb e.number b)))
    (λ a_other.
    ⊎_elim
    (λ b_here.
    let j_is : e.id ≡ j = some_id e.id j (sym (id_here b e es b_here) ∙ second) in
    let i_in = id_listed a es i (sym (id_more a e es a_other) ∙ first) in
    same_id-other j i (subst (λ (x : ConnId). same_id x i ≡ false) j_is (apart (ids_of es) i e.id i_in (once-head e.id (ids_of es) once))))
    (λ b_other. differ a b es i j (once-tail e.id (ids_of es) once) (sym (id_more a e es a_other) ∙ first) (sym (id_more b e es b_other) ∙ second) different)
    (cases_Bool (eqb e.number b)))
    (cases_Bool (eqb e.number a))

not_next : (number next : ℕ) (numbers : List ℕ) (es : List Entry) (id : ConnId) → are_once (ids_of es) ≡ true → id_at number es ≡ Some id → eqb next number ≡ false → is_listed (ids_at es numbers) id ≡ false → (o : Option ConnId) → id_at next es ≡ o → is_listed (option_to_list o ++ ids_at es numbers) id ≡ false
not_next number next numbers es id once is different later None at = later
not_next number next numbers es id once is different later (Some other) at =
    let apart_too : same_id id other ≡ false = same_id-other other id (differ next number es other id once at is different) in
    rw apart_too later

not_listed : (number : ℕ) (numbers : List ℕ) (es : List Entry) (id : ConnId) → are_once (ids_of es) ≡ true → id_at number es ≡ Some id → list_any (λ y. nat_eq y number) numbers ≡ false → is_listed (ids_at es numbers) id ≡ false
not_listed number [] es id once is none = refl
not_listed number (next ∷ numbers) es id once is none =
    let parts = or_parts (nat_eq next number) (list_any (λ y. nat_eq y number) numbers) none in
    not_next number next numbers es id once is parts.0 (not_listed number numbers es id once is parts.1) (id_at next es) refl

once_with_id : (number : ℕ) (numbers : List ℕ) (es : List Entry) (o : Option ConnId) → are_once (ids_of es) ≡ true → id_at number es ≡ o → list_any (λ y. nat_eq y number) numbers ≡ false → are_once (ids_at es numbers) ≡ true → are_once (option_to_list o ++ ids_at es numbers) ≡ true
once_with_id number numbers es None once is none later = later
once_with_id number numbers es (Some id) once is none later = rw (not_listed number numbers es id once is none) later

pub distinct_parts : (b c : Bool) → (not b && c) ≡ true → (b ≡ false) × (c ≡ true)
distinct_parts true c is = cc
distinct_parts false c is = (refl, is)

pub ids_once : (numbers : List ℕ) (es : List Entry) → are_once (ids_of es) ≡ true → are_distinct nat_eq numbers ≡ true → are_once (ids_at es numbers) ≡ true
ids_once [] es once distinct = refl
ids_once (number ∷ numbers) es once distinct =
    let parts = distinct_parts (list_any (λ y. nat_eq y number) numbers) (are_distinct nat_eq numbers) distinct in
    once_with_id number numbers es (id_at number es) once refl parts.0 (ids_once numbers es once parts.1)
