use Rattle.std.proofs.Common.{◌≡◌, ◌∙◌, ◌≤◌, ◌<◌, ◌⊎◌, List, ℕ, Option, length, inl, refl, sym, ap, subst, ⊎_elim, arith, is_some, Result, Ok, Err}
use Rattle.std.specs.List.{count_by}
use Rattle.request_types.specs.declared.connections.ConnId.{ConnId}
use Rattle.line_pipeline.specs.declared.conns.Conn.{Conn}
use Rattle.line_pipeline.specs.declared.conns.Conn.TheVariants as conns
use Rattle.line_pipeline.specs.declared.slots.Slot.{Slot}
use Rattle.line_pipeline.specs.declared.reasons.AddFault.{AddFault}
use Rattle.line_pipeline.specs.declared.reasons.AddFault.TheVariants as faults
use Rattle.line_pipeline.specs.Conn.{secret_of}
use Rattle.line_pipeline.specs.Live.{Live, fresh}
use Rattle.open_index.specs.Fits.{HandleFits}
use Rattle.line_pipeline.specs.Fitting.{ConnFits}
use Rattle.line_pipeline.proofs.Fitting.{joined_fit}
use Rattle.std.proofs.lemmas.List.Elements.{All-nil}
use Rattle.line_pipeline.specs.Slots.{conns_from}
use Rattle.line_pipeline.specs.Table.{Table, conn_at, IsFree, Joins}
use Rattle.line_pipeline.proofs.SlotLemmas.{zero_more, at_missing}
use Rattle.line_pipeline.proofs.AddLemmas.{joins-from, free-from, length-conns_from}
use Rattle.line_pipeline.proofs.tables.ConnTable.add.Goals as goal

-- as many are held as places are taken
held_is : (t : Table) (slots : List (Option Slot)) (len : ℕ) → len ≡ count_by is_some slots → conns_from 0 slots ≡ t.conns → length t.conns ≡ len
held_is t slots len counted is = sym (ap (λ (cs : List (ConnId × Conn)). length cs) is) ∙ length-conns_from 0 slots ∙ sym counted

not_full : (held added : ℕ) → held < 256 → (added ≡ 18446744073709551615 → ⊥) → (256 ≤ held) ⊎ (added ≡ 18446744073709551615) → ⊥
not_full held added few more full = ⊎_elim (λ many. omega (arith, few, many)) (λ last. more last) full

not_memory : faults.Full ≡ faults.NoMemory → ⊥
not_memory is = cc

not_ok : (id : ConnId) → ◌≡◌ {A = Result ConnId AddFault} (Ok id) (Err faults.Full) → ⊥
not_ok id is = cc

pub returns-then-len-ge-MAX_CONNS-clause-full : goal.returns-then-len-ge-MAX_CONNS-clause-full
returns-then-len-ge-MAX_CONNS-clause-full c =
    let held = held_is c.args.self.now c.self.inside.slots.slots c.len.result c.len.ensures (ap (λ (t : Table). t.conns) c.self.view_is) in
    (λ is. inl (omega (arith, held, c.if-len-ge-MAX_CONNS.true)), λ full. refl)

pub returns-in_err-secret-clause-full : goal.returns-in_err-secret-clause-full
returns-in_err-secret-clause-full c =
    let held = held_is c.args.self.now c.self.inside.slots.slots c.len.result c.len.ensures (ap (λ (t : Table). t.conns) c.self.view_is) in
    let more = λ (last : c.args.self.now.added ≡ 18446744073709551615). c.if-self.false (ap (λ (t : Table). t.added) c.self.view_is ∙ last) in (
      λ is. absurd (not_memory (rw is at c.from_residual.ensures.1)),
      λ full. absurd (not_full (length c.args.self.now.conns) c.args.self.now.added (omega (arith, held, c.if-len-ge-MAX_CONNS.false)) more full),
    )

pub returns-in_err-new-clause-full : goal.returns-in_err-new-clause-full
returns-in_err-new-clause-full c =
    let held = held_is c.args.self.now c.self.inside.slots.slots c.len.result c.len.ensures (ap (λ (t : Table). t.conns) c.self.view_is) in
    let more = λ (last : c.args.self.now.added ≡ 18446744073709551615). c.if-self.false (ap (λ (t : Table). t.added) c.self.view_is ∙ last) in (
      λ is. absurd (not_memory (rw is at c.from_residual-in_err-new.ensures.1)),
      λ full. absurd (not_full (length c.args.self.now.conns) c.args.self.now.added (omega (arith, held, c.if-len-ge-MAX_CONNS.false)) more full),
    )

pub returns-clause-full : goal.returns-clause-full
returns-clause-full c =
    let held = held_is c.args.self.now c.self.inside.slots.slots c.len.result c.len.ensures (ap (λ (t : Table). t.conns) c.self.view_is) in
    let more = λ (last : c.args.self.now.added ≡ 18446744073709551615). c.if-self.false (ap (λ (t : Table). t.added) c.self.view_is ∙ last) in (
      λ is. absurd (not_ok _ is),
      λ full. absurd (not_full (length c.args.self.now.conns) c.args.self.now.added (omega (arith, held, c.if-len-ge-MAX_CONNS.false)) more full),
    )

pub returns-clause-joins : goal.returns-clause-joins
returns-clause-joins c =
    let o = c.self.inside in
    let u = c.insert_reserved-number.ensures.updates in
    let new = c.insert_reserved-number.new.self.slots in
    let id : ConnId = record { number = c.insert_reserved-number.result; generation = o.added } in
    let slot : Slot = record { generation = o.added; conn = conns.Live c.in_ok-new.field-0 } in
    let conn_is : conns.Live c.in_ok-new.field-0 ≡ conns.Live (fresh (secret_of c.args.self.now.secrets c.args.port) c.args.port) =
    ap conns.Live (c.in_ok-new.ensures
    ∙ ap (λ (s : Option (List ℕ)). fresh s c.args.port) (c.in_ok-secret.ensures ∙ ap (λ (t : Table). secret_of t.secrets c.args.port) c.self.view_is)) in
    let joins : Joins (conns_from 0 o.slots.slots) (conns_from 0 new) id (conns.Live c.in_ok-new.field-0) =
    joins-from 0 id.number o.slots.slots new id slot (sym (zero_more id.number)) refl c.insert_reserved-number.ensures.was_vacant u.changed u.others in
    subst (λ (t : Table). Joins t.conns (conns_from 0 new) id (conns.Live (fresh (secret_of c.args.self.now.secrets c.args.port) c.args.port))) c.self.view_is
    (subst (λ (conn : Conn). Joins (conns_from 0 o.slots.slots) (conns_from 0 new) id conn) conn_is joins)

pub returns-clause-number : goal.returns-clause-number
returns-clause-number c =
    let key = c.insert_reserved-number.ensures.key_in_range in
    let capacity = c.insert_reserved-number.ensures.capacity in
    omega (arith, key, capacity, ap (λ (t : Table). t.places) c.self.view_is)

pub returns-clause-free : goal.returns-clause-free
returns-clause-free c =
    let number = c.insert_reserved-number.result in
    subst (λ (t : Table). IsFree number t.conns) c.self.view_is
    (free-from number 0 number c.self.inside.slots.slots (sym (zero_more number)) c.insert_reserved-number.ensures.was_vacant)

pub returns-clause-unheld : goal.returns-clause-unheld
returns-clause-unheld c =
    let o = c.self.inside in
    let id : ConnId = record { number = c.insert_reserved-number.result; generation = o.added } in
    ap (λ (held : Option Conn). is_some held)
    (sym (ap (λ (t : Table). conn_at t.conns id) c.self.view_is) ∙ at_missing o.slots.slots id c.insert_reserved-number.ensures.was_vacant)

pub invariant_of-self : goal.invariant_of-self
invariant_of-self c =
    let o = c.self.inside in
    let u = c.insert_reserved-number.ensures.updates in
    let new = c.insert_reserved-number.new.self.slots in
    let id : ConnId = record { number = c.insert_reserved-number.result; generation = o.added } in
    let slot : Slot = record { generation = o.added; conn = conns.Live c.in_ok-new.field-0 } in
    let joins : Joins (conns_from 0 o.slots.slots) (conns_from 0 new) id (conns.Live c.in_ok-new.field-0) =
    joins-from 0 id.number o.slots.slots new id slot (sym (zero_more id.number)) refl c.insert_reserved-number.ensures.was_vacant u.changed u.others in
    let comes : ConnFits o.schema (conns.Live c.in_ok-new.field-0) = subst (λ (l : Live). ConnFits o.schema (conns.Live l)) (sym c.in_ok-new.ensures) (All-nil (HandleFits o.schema)) in
    let capacity = c.insert_reserved-number.ensures.capacity in
    (c.self.invariant.0, joined_fit o.schema _ _ id _ joins comes c.self.invariant.1, omega (arith, capacity, c.self.invariant.2), omega (arith, capacity, c.self.invariant.3))
