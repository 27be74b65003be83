-- Ids that were gone through, one after another.
use Rattle.std.proofs.Common.{◌≡◌, ℕ, zero, suc, ◌+◌, ◌<◌, Bool, true, false, ◌||◌, List, [], ◌∷◌, ◌++◌, length, take, get_or, refl, sym, ap, ◌∙◌, ⊎_elim, arith, add-one, take-suc}
use Rattle.std.proofs.lemmas.Bool.{cases_Bool}
use Rattle.request_types.specs.declared.connections.ConnId.{ConnId}
use Rattle.request_types.specs.Ids.{same_id, is_listed, are_once}
use Rattle.request_types.proofs.Ids.{same_id-refl, not_listed-other, once-head, once-tail}

or_assoc : (a b c : Bool) → ((a || b) || c) ≡ (a || (b || c))
or_assoc true b c = refl
or_assoc false b c = refl

or_false : (b : Bool) → (b || false) ≡ b
or_false true = refl
or_false false = refl

pub listed-one : (id x : ConnId) → is_listed (id ∷ []) x ≡ same_id x id
listed-one id x = or_false (same_id x id)

pub listed-behind : (ids : List ConnId) (id x : ConnId) → is_listed (ids ++ id ∷ []) x ≡ (is_listed ids x || same_id x id)
listed-behind [] id x = or_false (same_id x id)
listed-behind (first ∷ ids) id x =
    ap (λ (b : Bool). same_id x first || b) (listed-behind ids id x) ∙ sym (or_assoc (same_id x first) (is_listed ids x) (same_id x id))

listed-at : (ids : List ConnId) (i : ℕ) (d : ConnId) → i < length ids → is_listed ids (get_or ids i d) ≡ true
listed-at [] i d below = absurd (omega (arith, below))
listed-at (id ∷ ids) zero d below = rw (same_id-refl id) refl
listed-at (id ∷ ids) (suc i) d below =
    ⊎_elim
    (λ same. rw same refl)
    (λ other. rw other (listed-at ids i d (omega (arith, below))))
    (cases_Bool (same_id (get_or ids i d) id))

-- the next is none of those before
pub not-before : (ids : List ConnId) (i : ℕ) (d : ConnId) → i < length ids → are_once ids ≡ true → is_listed (take i ids) (get_or ids i d) ≡ false
not-before [] i d below once = absurd (omega (arith, below))
not-before (id ∷ ids) zero d below once = refl
not-before (id ∷ ids) (suc i) d below once =
    let here = listed-at ids i d (omega (arith, below)) in
    let apart : same_id (get_or ids i d) id ≡ false = not_listed-other ids id (get_or ids i d) (once-head id ids once) here in
    rw apart (not-before ids i d (omega (arith, below)) (once-tail id ids once))

pub take-next : (ids : List ConnId) (i : ℕ) (d : ConnId) → i < length ids → take (i + 1) ids ≡ take i ids ++ get_or ids i d ∷ []
take-next ids i d below = rw add-one (take-suc ids i d below)
