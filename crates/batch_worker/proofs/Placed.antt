-- Connections beside their links, of which one was changed, and then another.
use Rattle.std.proofs.Common.{◌≡◌, ◌≢◌, ℕ, zero, suc, ◌+◌, ◌<◌, ◌≤◌, Bool, true, false, ◌||◌, List, [], ◌∷◌, ◌++◌, length, take, get_or, set, Option, Some, None, is_some, option_map, refl, sym, ap, subst, ◌∙◌, ⊎_elim, arith, length-set, get_or-set_same, get_or-set_other, take_all}
use Rattle.std.specs.Prelude.{nat_lt}
use Rattle.std.proofs.lemmas.Bool.{cases_Bool, or_parts, both_ways, ltb-true, ltb-false}
use Rattle.std.proofs.lemmas.List.{get_or_past}
use Rattle.request_types.specs.declared.connections.ConnId.{ConnId}
use Rattle.request_types.specs.Ids.{same_id, is_listed, are_once}
use Rattle.request_types.proofs.Ids.{same_id-is, not_listed-other}
use Rattle.hs_outside.specs.Links.{Peer}
use Rattle.line_pipeline.specs.declared.conns.Conn.{Conn}
use Rattle.line_pipeline.specs.Table.{Table, conn_at, is_held}
use Rattle.line_pipeline.proofs.TableLemmas.{kept}
use Rattle.batch_worker.specs.Linked.{LinkTable, Linked, link_at, beside, linked_at, Went, Each, AreLinked}
use Rattle.batch_worker.specs.Steps.{with, Keeps}
use Rattle.batch_worker.proofs.Lookups.{held-is}
use Rattle.batch_worker.proofs.Lists.{listed-one, listed-behind, not-before, take-next}

abbrev pub table_of : {L : Type 0} → Table → List (Option L) → LinkTable L
table_of table links = record { table = table; links = links }

-- ---- nobody went over

pub each-none : {L : Type 0} (peer : L → Peer) (R : Linked → Linked → Type 0) (t : LinkTable L) → Each peer R [] t t
each-none peer R t = record {
  listed = λ id listed held. absurd (both_ways false refl listed);
  conns = λ id other. refl;
  links = λ id other held. refl;
  held = λ id. refl;
  rest = refl;
}

not_held : {L : Type 0} (peer : L → Peer) (t : LinkTable L) (id : ConnId) → is_held t.table.conns id ≡ false → linked_at peer t id ≡ None
not_held peer t id none = by (conn_at t.table.conns id) none
  where
    by : (o : Option Conn) → is_some o ≡ false → beside o (option_map peer (link_at t.links id)) ≡ None
    by None is = refl
    by (Some conn) is = absurd (both_ways true is refl)

pub each-absent : {L : Type 0} (peer : L → Peer) (R : Linked → Linked → Type 0) (t : LinkTable L) (id : ConnId) → is_held t.table.conns id ≡ false → Each peer R (id ∷ []) t t
each-absent peer R t id none = record {
  listed = λ x listed held.
      let same : x ≡ id = same_id-is x id (sym (listed-one id x) ∙ listed) in
      absurd (both_ways (is_held t.table.conns id) none (sym (ap (is_held t.table.conns) same) ∙ held));
  conns = λ x other. refl;
  links = λ x other held. refl;
  held = λ x. refl;
  rest = refl;
}

-- ---- one went over

-- a place with a link is one of the places
place-below : {L : Type 0} (links : List (Option L)) (i : ℕ) (link : L) → get_or links i None ≡ Some link → i < length links
place-below {L} links i link is =
    ⊎_elim (λ below. ltb-true i (length links) below) (λ past. absurd (none_some (sym (get_or_past links i None (ltb-false i (length links) past)) ∙ is))) (cases_Bool (nat_lt i (length links)))
  where
    none_some : ◌≡◌ {A = Option L} None (Some link) → ⊥
    none_some is = cc

linked-is : {L : Type 0} (peer : L → Peer) (table : Table) (links : List (Option L)) (id : ConnId) (link : L) → is_held table.conns id ≡ true → link_at links id ≡ Some link → linked_at peer (table_of table links) id ≡ Some (with peer table id link)
linked-is {L} peer table links id link held there =
    ap (λ (o : Option Conn). beside o (option_map peer (link_at links id))) (held-is (conn_at table.conns id) held)
    ∙ ap (λ (o : Option L). beside (Some (with peer table id link).conn) (option_map peer o)) there

went-some : (R : Linked → Linked → Type 0) (o p : Option Linked) (l m : Linked) → o ≡ Some l → p ≡ Some m → R l m → Went R o p
went-some R o p l m old new goes =
    subst (λ (x : Option Linked). Went R x p) (sym old) (subst (λ (x : Option Linked). Went R (Some l) x) (sym new) goes)

module _ {L : Type 0} (peer : L → Peer) (t u : Table) (links : List (Option L)) (id : ConnId) (link next : L) (keeps : Keeps id t u) (held : is_held t.conns id ≡ true) (there : link_at links id ≡ Some link) (are : AreLinked t links) where
  next_there : link_at (set links id.number (Some next)) id ≡ Some next
  next_there = get_or-set_same links id.number (Some next) None (place-below links id.number link there)

  number_apart : (x : ConnId) → is_held t.conns x ≡ true → same_id x id ≡ false → x.number ≢ id.number
  number_apart x held_x other same = both_ways (same_id x id) other (are.apart x id held_x held same)

  held_same : (x : ConnId) → is_held u.conns x ≡ is_held t.conns x
  held_same x =
      ⊎_elim
      (λ same.
      let is : x ≡ id = same_id-is x id same in
      ap (is_held u.conns) is ∙ keeps.held held ∙ sym (ap (is_held t.conns) is ∙ held))
      (λ other. ap (λ (o : Option Conn). is_some o) (keeps.others x other))
      (cases_Bool (same_id x id))

  pub each-one : (R : Linked → Linked → Type 0) → R (with peer t id link) (with peer u id next) → Each peer R (id ∷ []) (table_of t links) (table_of u (set links id.number (Some next)))
  each-one R goes = record {
    listed = λ x listed held_x.
        let same : id ≡ x = sym (same_id-is x id (sym (listed-one id x) ∙ listed)) in
        subst (λ (y : ConnId). Went R (linked_at peer (table_of t links) y) (linked_at peer (table_of u (set links id.number (Some next))) y)) same
        (went-some R _ _ _ _ (linked-is peer t links id link held there) (linked-is peer u (set links id.number (Some next)) id next (keeps.held held) next_there) goes);
    conns = λ x other. keeps.others x (sym (listed-one id x) ∙ other);
    links = λ x other held_x. get_or-set_other links id.number x.number (Some next) None (number_apart x held_x (sym (listed-one id x) ∙ other));
    held = held_same;
    rest = keeps.rest;
  }

  next_each : (x : ConnId) → is_held u.conns x ≡ true → is_some (link_at (set links id.number (Some next)) x) ≡ true
  next_each x held_x =
      ⊎_elim
      (λ same. ap (λ (y : ConnId). is_some (link_at (set links id.number (Some next)) y)) (same_id-is x id same) ∙ ap (λ (o : Option L). is_some o) next_there)
      (λ other.
      let was = sym (held_same x) ∙ held_x in
      ap (λ (o : Option L). is_some o) (get_or-set_other links id.number x.number (Some next) None (number_apart x was other)) ∙ are.each x was)
      (cases_Bool (same_id x id))

  pub are-one : AreLinked u (set links id.number (Some next))
  are-one = record {
    places = length-set links id.number (Some next) ∙ are.places ∙ sym (ap (λ (x : Table). x.places) keeps.rest);
    each = next_each;
    apart = λ a b held_a held_b. are.apart a b (sym (held_same a) ∙ held_a) (sym (held_same b) ∙ held_b);
  }

-- the same connections are held
pub are-still : {L : Type 0} (t u : Table) (links : List (Option L)) → u.places ≡ t.places → ((x : ConnId) → is_held u.conns x ≡ is_held t.conns x) → AreLinked t links → AreLinked u links
are-still t u links places held are = record {
  places = are.places ∙ sym places;
  each = λ x held_x. are.each x (sym (held x) ∙ held_x);
  apart = λ a b held_a held_b. are.apart a b (sym (held a) ∙ held_a) (sym (held b) ∙ held_b);
}

-- ---- one more went over

module _ {L : Type 0} (peer : L → Peer) (R : Linked → Linked → Type 0) (ids : List ConnId) (a b c : LinkTable L) where
  -- what a step leaves alone
  stays : (ids : List ConnId) (t u : LinkTable L) → Each peer R ids t u → (x : ConnId) → is_listed ids x ≡ false → linked_at peer u x ≡ linked_at peer t x
  stays ids t u each x other =
      ⊎_elim
      (λ held.
      ap (λ (o : Option Conn). beside o (option_map peer (link_at u.links x))) (each.conns x other)
      ∙ ap (λ (o : Option L). beside (conn_at t.table.conns x) (option_map peer o)) (each.links x other held))
      (λ none. not_held peer u x (each.held x ∙ none) ∙ sym (not_held peer t x none))
      (cases_Bool (is_held t.table.conns x))

  pub each-then : (id : ConnId) → Each peer R ids a b → Each peer R (id ∷ []) b c → is_listed ids id ≡ false → Each peer R (ids ++ id ∷ []) a c
  each-then id first second apart = record {
    listed = λ x listed held.
        ⊎_elim
        (λ before.
        let other : same_id x id ≡ false = not_listed-other ids id x apart before in
        subst (Went R (linked_at peer a x)) (sym (stays (id ∷ []) b c second x (listed-one id x ∙ other))) (first.listed x before held))
        (λ not_before.
        let here : same_id x id ≡ true = or_right (is_listed ids x) (same_id x id) not_before (sym (listed-behind ids id x) ∙ listed) in
        subst (λ (o : Option Linked). Went R o (linked_at peer c x)) (stays ids a b first x not_before) (second.listed x (listed-one id x ∙ here) (first.held x ∙ held)))
        (cases_Bool (is_listed ids x));
    conns = λ x other.
        let parts = or_parts (is_listed ids x) (same_id x id) (sym (listed-behind ids id x) ∙ other) in
        second.conns x (listed-one id x ∙ parts.1) ∙ first.conns x parts.0;
    links = λ x other held.
        let parts = or_parts (is_listed ids x) (same_id x id) (sym (listed-behind ids id x) ∙ other) in
        second.links x (listed-one id x ∙ parts.1) (first.held x ∙ held) ∙ first.links x parts.0 held;
    held = λ x. second.held x ∙ first.held x;
    rest = kept a.table b.table c.table _ first.rest second.rest;
  }
    where
      or_right : (p q : Bool) → p ≡ false → (p || q) ≡ true → q ≡ true
      or_right true q is or = absurd (both_ways true is refl)
      or_right false q is or = or

-- along a list
pub each-next : {L : Type 0} (peer : L → Peer) (R : Linked → Linked → Type 0) (ids : List ConnId) (i : ℕ) (d : ConnId) (a b c : LinkTable L) → i < length ids → are_once ids ≡ true → Each peer R (take i ids) a b → Each peer R (get_or ids i d ∷ []) b c → Each peer R (take (i + 1) ids) a c
each-next peer R ids i d a b c below once first second =
    subst (λ (some : List ConnId). Each peer R some a c) (sym (take-next ids i d below))
    (each-then peer R (take i ids) a b c (get_or ids i d) first second (not-before ids i d below once))

pub each-all : {L : Type 0} (peer : L → Peer) (R : Linked → Linked → Type 0) (ids : List ConnId) (i : ℕ) (a b : LinkTable L) → length ids ≤ i → Each peer R (take i ids) a b → Each peer R ids a b
each-all peer R ids i a b past each = subst (λ (some : List ConnId). Each peer R some a b) (take_all i ids past) each

-- ---- the link of a connection that is held

pub link-there : {L : Type 0} (o : Option L) → is_some o ≡ true → (link : L) × (o ≡ Some link)
link-there None is = absurd (both_ways false refl is)
link-there (Some link) is = (link, refl)

pub number-below : {L : Type 0} (t : Table) (links : List (Option L)) (id : ConnId) → AreLinked t links → is_held t.conns id ≡ true → id.number < length links
number-below t links id are held =
    let there = link-there (link_at links id) (are.each id held) in
    place-below links id.number there.0 there.1

-- a place is read alike, whatever stands for none
pub same-default : {X : Type 0} (xs : List X) (i : ℕ) (d e : X) → i < length xs → get_or xs i d ≡ get_or xs i e
same-default [] i d e below = absurd (omega (arith, below))
same-default (x ∷ xs) zero d e below = refl
same-default (x ∷ xs) (suc i) d e below = same-default xs i d e (omega (arith, below))

-- the link that was found at the place of a connection
pub link-found : {L : Type 0} (t : Table) (links : List (Option L)) (id : ConnId) (place : Option L) (link : L) → AreLinked t links → is_held t.conns id ≡ true → place ≡ get_or links id.number place → place ≡ Some link → link_at links id ≡ Some link
link-found t links id place link are held read is =
    same-default links id.number None place (number-below t links id are held) ∙ sym read ∙ is
