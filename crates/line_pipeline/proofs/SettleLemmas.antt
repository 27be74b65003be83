-- Parts that join the outputs of their connections.
use Rattle.std.proofs.Common.{◌≡◌, suc, Bool, true, false, ◌||◌, List, [], ◌∷◌, length, drop, arith, Option, Some, None, refl, sym, ap, subst, ◌∙◌, ⊎_elim}
use Rattle.std.specs.Prelude.{IfSome, IsSomeAnd}
use Rattle.std.specs.List.{AllByRecursion, list_all}
use Rattle.std.proofs.lemmas.Bool.{cases_Bool, or_parts, and_parts, both_ways}
use Rattle.request_types.specs.declared.connections.ConnId.{ConnId}
use Rattle.request_types.specs.declared.batches.Part.{Part}
use Rattle.line_pipeline.specs.declared.conns.Conn.{Conn}
use Rattle.line_pipeline.specs.Conn.{answered, has_place}
use Rattle.request_types.specs.Ids.{same_id, is_listed}
use Rattle.line_pipeline.specs.Table.{changed}
use Rattle.line_pipeline.specs.Settled.{told, all_told, answered_by, HasPlace}
use Rattle.request_types.proofs.Ids.{same_id-is, same_id-other}
use Rattle.line_pipeline.proofs.TableLemmas.{both, conn_at-changed}

-- no part is its own
told-none : (parts : List Part) (c : ConnId × Conn) → is_listed (answered_by parts) c.0 ≡ false → told parts c ≡ c.1
told-none [] c none = refl
told-none (part ∷ parts) c none =
    let apart = or_parts (same_id c.0 part.conn) (is_listed (answered_by parts) c.0) none in
    rw apart.0 (told-none parts c apart.1)

-- one part and then the others
pub all_told-one : (part : Part) (parts : List Part) → is_listed (answered_by parts) part.conn ≡ false → (cs : List (ConnId × Conn)) → all_told parts (changed part.conn (answered part.text) cs) ≡ all_told (part ∷ parts) cs
all_told-one part parts none cs =
    both _ _ _
    (λ c.
    ⊎_elim
    (λ is.
    let apart : is_listed (answered_by parts) c.0 ≡ false = subst (λ (x : ConnId). is_listed (answered_by parts) x ≡ false) (sym (same_id-is c.0 part.conn is)) none in
    rw is (ap (λ (conn : Conn). (c.0, conn)) (told-none parts (c.0, answered part.text c.1) apart)))
    (λ other. rw other refl)
    (cases_Bool (same_id c.0 part.conn)))
    cs

pub all_told-none : (cs : List (ConnId × Conn)) → all_told [] cs ≡ cs
all_told-none [] = refl
all_told-none (c ∷ cs) = ap (λ (t : List (ConnId × Conn)). c ∷ t) (all_told-none cs)

-- the places of others are as they were
pub places-changed : (f : Conn → Conn) (id : ConnId) (cs : List (ConnId × Conn)) (ids : List ConnId) → is_listed ids id ≡ false → AllByRecursion (HasPlace cs) ids → AllByRecursion (HasPlace (changed id f cs)) ids
places-changed f id cs [] none places = tt
places-changed f id cs (first ∷ ids) none places =
    let apart = or_parts (same_id id first) (is_listed ids id) none in (
      subst (λ (held : Option Conn). IsSomeAnd held (λ conn. has_place conn ≡ true)) (sym (conn_at-changed f id first cs (same_id-other id first apart.0))) places.0,
      places-changed f id cs ids apart.1 places.1,
    )

-- each of the batch's connections has a place
place-listed : (cs : List (ConnId × Conn)) (asked : List ConnId) (id : ConnId) → AllByRecursion (HasPlace cs) asked → is_listed asked id ≡ true → HasPlace cs id
place-listed cs [] id places is = absurd (both_ways false refl is)
place-listed cs (first ∷ asked) id places is =
    ⊎_elim
    (λ same. subst (HasPlace cs) (sym (same_id-is id first same)) places.0)
    (λ other. place-listed cs asked id places.1 (sym (ap (λ (t : Bool). t || is_listed asked id) other) ∙ is))
    (cases_Bool (same_id id first))

pub places-listed : (cs : List (ConnId × Conn)) (asked ids : List ConnId) → AllByRecursion (HasPlace cs) asked → list_all (is_listed asked) ids ≡ true → AllByRecursion (HasPlace cs) ids
places-listed cs asked [] places is = tt
places-listed cs asked (id ∷ ids) places is =
    let parts = and_parts (is_listed asked id) (list_all (is_listed asked) ids) is in
    (place-listed cs asked id places parts.0, places-listed cs asked ids places parts.1)

pub may_answer : (held : Option Conn) → IsSomeAnd held (λ conn. has_place conn ≡ true) → IfSome held (λ conn. has_place conn ≡ true)
may_answer None place = absurd place
may_answer (Some conn) place = place

pub no_first : (parts : List Part) → parts ≡ drop 1 parts → parts ≡ []
no_first [] is = refl
no_first (part ∷ parts) is = let size : suc (length parts) ≡ length parts = ap length is in absurd (omega (arith, size))
