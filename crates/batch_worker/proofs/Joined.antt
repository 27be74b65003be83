-- One more connection with its link, and one that goes.
use Rattle.std.proofs.Common.{◌≡◌, ◌≢◌, ℕ, ◌<◌, true, false, List, [], ◌∷◌, ◌++◌, set, Option, Some, None, is_some, refl, sym, ap, subst, ◌∙◌, ⊎_elim, arith, length-set, get_or-set_same, get_or-set_other}
use Rattle.std.specs.Prelude.{if◌then◌else◌}
use Rattle.std.proofs.lemmas.Bool.{cases_Bool, both_ways}
use Rattle.request_types.specs.declared.connections.ConnId.{ConnId}
use Rattle.request_types.specs.Ids.{same_id}
use Rattle.request_types.proofs.Ids.{same_id-refl, same_id-is, same_id-other}
use Rattle.line_pipeline.specs.declared.conns.Conn.{Conn}
use Rattle.line_pipeline.specs.Table.{Table, conn_at, is_held, without, IsFree, Joins}
use Rattle.batch_worker.specs.Linked.{link_at, KeepsLinks, AreLinked}

module _ (id : ConnId) (conn : Conn) (after : List (ConnId × Conn)) where
  other_in : (before : List (ConnId × Conn)) (x : ConnId) → same_id x id ≡ false → conn_at (before ++ (id, conn) ∷ after) x ≡ conn_at (before ++ after) x
  other_in [] x different = let apart : same_id id x ≡ false = same_id-other x id different in rw apart refl
  other_in (c ∷ before) x different = ap (λ (o : Option Conn). if same_id c.0 x then Some c.1 else o) (other_in before x different)

pub joined-others : (old new : List (ConnId × Conn)) (id : ConnId) (conn : Conn) → Joins old new id conn → (x : ConnId) → same_id x id ≡ false → conn_at new x ≡ conn_at old x
joined-others old new id conn joins x different =
    ap (λ (cs : List (ConnId × Conn)). conn_at cs x) joins.is ∙ other_in id conn joins.after joins.before x different ∙ ap (λ (cs : List (ConnId × Conn)). conn_at cs x) (sym joins.was)

-- a connection that is held has no number that is free
pub held-apart : (number : ℕ) (cs : List (ConnId × Conn)) (x : ConnId) → IsFree number cs → is_held cs x ≡ true → x.number ≢ number
held-apart number [] x free held = absurd (both_ways false refl held)
held-apart number (c ∷ cs) x free held =
    ⊎_elim
    (λ same. λ is. free.0 (ap (λ (y : ConnId). y.number) (same_id-is c.0 x same) ∙ is))
    (λ other. held-apart number cs x free.1 (sym (later other) ∙ held))
    (cases_Bool (same_id c.0 x))
  where
    later : same_id c.0 x ≡ false → is_held (c ∷ cs) x ≡ is_held cs x
    later other = rw other refl

pub joined-kept : {L : Type 0} (cs : List (ConnId × Conn)) (links : List (Option L)) (id : ConnId) (link : L) → IsFree id.number cs → KeepsLinks cs links (set links id.number (Some link))
joined-kept cs links id link free x held = get_or-set_other links id.number x.number (Some link) None (held-apart id.number cs x free held)

pub joined-linked : {L : Type 0} (t u : Table) (links : List (Option L)) (id : ConnId) (conn : Conn) (link : L) → Joins t.conns u.conns id conn → u.places ≡ t.places → id.number < t.places → IsFree id.number t.conns → AreLinked t links → AreLinked u (set links id.number (Some link))
joined-linked {L} t u links id conn link joins places below free are =
    let others = joined-others t.conns u.conns id conn joins in
    let was : (x : ConnId) → same_id x id ≡ false → is_held u.conns x ≡ true → is_held t.conns x ≡ true = λ x other held. sym (ap (λ (o : Option Conn). is_some o) (others x other)) ∙ held in
    let there : link_at (set links id.number (Some link)) id ≡ Some link = get_or-set_same links id.number (Some link) None (omega (arith, below, are.places)) in
    record {
      places = length-set links id.number (Some link) ∙ are.places ∙ sym places;
      each = λ x held.
          ⊎_elim
          (λ same. ap (λ (y : ConnId). is_some (link_at (set links id.number (Some link)) y)) (same_id-is x id same) ∙ ap (λ (o : Option L). is_some o) there)
          (λ other. ap (λ (o : Option L). is_some o) (joined-kept t.conns links id link free x (was x other held)) ∙ are.each x (was x other held))
          (cases_Bool (same_id x id));
      apart = λ a b held_a held_b same.
          ⊎_elim
          (λ a_is.
          ⊎_elim
          (λ b_is. subst (λ (y : ConnId). same_id a y ≡ true) (same_id-is a id a_is ∙ sym (same_id-is b id b_is)) (same_id-refl a))
          (λ b_other. absurd (held-apart id.number t.conns b free (was b b_other held_b) (sym same ∙ ap (λ (y : ConnId). y.number) (same_id-is a id a_is))))
          (cases_Bool (same_id b id)))
          (λ a_other.
          ⊎_elim
          (λ b_is. absurd (held-apart id.number t.conns a free (was a a_other held_a) (same ∙ ap (λ (y : ConnId). y.number) (same_id-is b id b_is))))
          (λ b_other. are.apart a b (was a a_other held_a) (was b b_other held_b) same)
          (cases_Bool (same_id b id)))
          (cases_Bool (same_id a id));
    }

-- ---- one goes

without-others : (id : ConnId) (cs : List (ConnId × Conn)) (x : ConnId) → same_id x id ≡ false → conn_at (without id cs) x ≡ conn_at cs x
without-others id [] x different = refl
without-others id (c ∷ cs) x different =
    ⊎_elim
    (λ same.
    let here : same_id c.0 x ≡ false = subst (λ (y : ConnId). same_id y x ≡ false) (sym (same_id-is c.0 id same)) (same_id-other x id different) in
    rw same (rw here (without-others id cs x different)))
    (λ kept. rw kept (ap (λ (o : Option Conn). if same_id c.0 x then Some c.1 else o) (without-others id cs x different)))
    (cases_Bool (same_id c.0 id))

without-own : (id : ConnId) (cs : List (ConnId × Conn)) → is_held (without id cs) id ≡ false
without-own id [] = refl
without-own id (c ∷ cs) =
    ⊎_elim
    (λ same. rw same (without-own id cs))
    (λ kept. rw kept (rw kept (without-own id cs)))
    (cases_Bool (same_id c.0 id))

-- one that is held afterwards is another, and was held before
still-held : (id : ConnId) (cs : List (ConnId × Conn)) (x : ConnId) → is_held (without id cs) x ≡ true → (same_id x id ≡ false) × (is_held cs x ≡ true)
still-held id cs x held =
    ⊎_elim
    (λ same. absurd (both_ways (is_held (without id cs) id) (without-own id cs) (subst (λ (y : ConnId). is_held (without id cs) y ≡ true) (same_id-is x id same) held)))
    (λ other. (other, sym (ap (λ (o : Option Conn). is_some o) (without-others id cs x other)) ∙ held))
    (cases_Bool (same_id x id))

module _ {L : Type 0} (t : Table) (links : List (Option L)) (id : ConnId) (next : Option L) (held_id : is_held t.conns id ≡ true) (are : AreLinked t links) where
  number_apart : (x : ConnId) → is_held t.conns x ≡ true → same_id x id ≡ false → x.number ≢ id.number
  number_apart x held other same = both_ways (same_id x id) other (are.apart x id held held_id same)

  -- the links of the others stay
  pub set-others : (x : ConnId) → is_held t.conns x ≡ true → same_id x id ≡ false → link_at (set links id.number next) x ≡ link_at links x
  set-others x held other = get_or-set_other links id.number x.number next None (number_apart x held other)

  pub gone-kept : KeepsLinks (without id t.conns) links (set links id.number next)
  gone-kept x held = let was = still-held id t.conns x held in set-others x was.1 was.0

  pub gone-linked : (u : Table) → u.conns ≡ without id t.conns → u.places ≡ t.places → AreLinked u (set links id.number next)
  gone-linked u is places =
      let was : (x : ConnId) → is_held u.conns x ≡ true → (same_id x id ≡ false) × (is_held t.conns x ≡ true) = λ x held. still-held id t.conns x (ap (λ (cs : List (ConnId × Conn)). is_held cs x) (sym is) ∙ held) in
      record {
        places = length-set links id.number next ∙ are.places ∙ sym places;
        each = λ x held. ap (λ (o : Option L). is_some o) (set-others x (was x held).1 (was x held).0) ∙ are.each x (was x held).1;
        apart = λ a b held_a held_b. are.apart a b (was a held_a).1 (was b held_b).1;
      }
