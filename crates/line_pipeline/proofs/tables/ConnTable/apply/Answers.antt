use Rattle.std.proofs.Common.{◌≡◌, ◌∙◌, List, Option, Some, sym, ap, subst}
use Rattle.request_types.specs.declared.connections.ConnId.{ConnId}
use Rattle.line_pipeline.specs.declared.conns.Conn.{Conn}
use Rattle.line_pipeline.specs.Conn.{applied, MayChange}
use Rattle.line_pipeline.specs.Table.{Table, conn_at}
use Rattle.line_pipeline.specs.Fitting.{ConnFits}
use Rattle.line_pipeline.proofs.Fitting.{slot_fit, set_fit, applied_fit}
use Rattle.line_pipeline.proofs.SlotLemmas.{at_found, changed_found, changed_missing, changed_stale}
use Rattle.line_pipeline.proofs.tables.ConnTable.apply.Goals as goal

pub apply-requires : goal.apply-requires
apply-requires c =
    let slots = c.self.inside.slots.slots in
    let slot = c.in-Some.slot.now in
    let held : conn_at c.args.self.now.conns c.args.id ≡ Some slot.conn =
    sym (ap (λ (t : Table). conn_at t.conns c.args.id) c.self.view_is) ∙ at_found slots c.args.id slot (sym c.in-Some.ensures.value) c.if-slot-id.false in
    subst (λ (o : Option Conn). MayChange c.args.change o) held c.requires

pub returns-in_default : goal.returns-in_default
returns-in_default c =
    let o = c.self.inside in
    rw (← c.self.view_is)
    (ap (λ (cs : List (ConnId × Conn)). record { schema = o.schema; secrets = o.secrets; added = o.added; places = o.slots.capacity; conns = cs })
    (changed_missing o.slots.slots c.args.id (applied c.args.change) (sym c.in_default.ensures.value)))

pub returns-then-slot-id : goal.returns-then-slot-id
returns-then-slot-id c =
    let o = c.self.inside in
    rw (← c.self.view_is)
    (ap (λ (cs : List (ConnId × Conn)). record { schema = o.schema; secrets = o.secrets; added = o.added; places = o.slots.capacity; conns = cs })
    (changed_stale o.slots.slots c.args.id (applied c.args.change) c.in-Some.slot.now (sym c.in-Some.ensures.value) c.if-slot-id.true))

pub returns : goal.returns
returns c =
    let o = c.self.inside in
    rw (← c.self.view_is)
    (ap (λ (cs : List (ConnId × Conn)). record { schema = o.schema; secrets = o.secrets; added = o.added; places = o.slots.capacity; conns = cs })
    (changed_found o.slots.slots c.args.id (applied c.args.change) c.in-Some.slot.now c.apply.new.self (sym c.in-Some.ensures.value) c.if-slot-id.false c.apply.ensures))

pub invariant_of-self-2 : goal.invariant_of-self-2
invariant_of-self-2 c =
    let o = c.self.inside in
    let slot = c.in-Some.slot.now in
    let was = slot_fit o.schema 0 c.args.id.number o.slots.slots slot (sym c.in-Some.ensures.value) c.self.invariant.1 in
    let fits = subst (ConnFits o.schema) (sym c.apply.ensures) (applied_fit o.schema c.args.change slot.conn was) in
    (c.self.invariant.0, set_fit o.schema 0 c.args.id.number o.slots.slots _ fits c.self.invariant.1, c.self.invariant.2, c.self.invariant.3)
