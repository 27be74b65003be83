use Rattle.std.proofs.Common.{◌≡◌, ◌++◌, ◌∙◌, List, None, OnOk, sym, ap, subst}
use Rattle.std.proofs.lemmas.List.{append-nil}
use Rattle.request_types.specs.declared.connections.ConnId.{ConnId}
use Rattle.request_types.specs.declared.batches.Item.{Item}
use Rattle.line_pipeline.specs.declared.conns.Conn.{Conn}
use Rattle.line_pipeline.specs.declared.reasons.Reason.TheVariants as reasons
use Rattle.line_pipeline.specs.Conn.{took, closed}
use Rattle.line_pipeline.specs.Slots.{conns_from}
use Rattle.line_pipeline.specs.Table.{Table, conn_at, changed}
use Rattle.line_pipeline.specs.Gathered.{items_at}
use Rattle.line_pipeline.proofs.Fitting.{slot_fit, set_fit}
use Rattle.line_pipeline.proofs.SlotLemmas.{at_found, at_missing, at_stale, changed_found, changed_missing, changed_stale, changed_anyway}
use Rattle.line_pipeline.proofs.GatherLemmas.{items_at-found, items_at-missing, on_ok}
use Rattle.line_pipeline.proofs.tables.ConnTable.take_one.Goals as goal

pub returns-in_default-clause-items : goal.returns-in_default-clause-items
returns-in_default-clause-items c =
    let t = c.args.self.now in
    let missing : conn_at t.conns c.args.id ≡ None =
    sym (ap (λ (t : Table). conn_at t.conns c.args.id) c.self.view_is) ∙ at_missing c.self.inside.slots.slots c.args.id (sym c.in_default.ensures.value) in
    rw (items_at-missing t.schema t.conns c.args.id missing) (sym (append-nil c.args.items.now))

pub returns-in_default-clause-took : goal.returns-in_default-clause-took
returns-in_default-clause-took c =
    let o = c.self.inside in
    rw (← c.self.view_is)
    (ap (λ (cs : List (ConnId × Conn)). record { schema = o.schema; secrets = o.secrets; added = o.added; places = o.slots.capacity; conns = cs })
    (changed_missing o.slots.slots c.args.id (took o.schema) (sym c.in_default.ensures.value)))

pub returns-then-slot-id-clause-items : goal.returns-then-slot-id-clause-items
returns-then-slot-id-clause-items c =
    let t = c.args.self.now in
    let missing : conn_at t.conns c.args.id ≡ None =
    sym (ap (λ (t : Table). conn_at t.conns c.args.id) c.self.view_is) ∙ at_stale c.self.inside.slots.slots c.args.id c.in-Some.slot.now (sym c.in-Some.ensures.value) c.if-slot-id.true in
    rw (items_at-missing t.schema t.conns c.args.id missing) (sym (append-nil c.args.items.now))

pub returns-then-slot-id-clause-took : goal.returns-then-slot-id-clause-took
returns-then-slot-id-clause-took c =
    let o = c.self.inside in
    rw (← c.self.view_is)
    (ap (λ (cs : List (ConnId × Conn)). record { schema = o.schema; secrets = o.secrets; added = o.added; places = o.slots.capacity; conns = cs })
    (changed_stale o.slots.slots c.args.id (took o.schema) c.in-Some.slot.now (sym c.in-Some.ensures.value) c.if-slot-id.true))

pub returns-clause-items : goal.returns-clause-items
returns-clause-items c =
    let o = c.self.inside in
    let slot = c.in-Some.slot.now in
    let found = at_found o.slots.slots c.args.id slot (sym c.in-Some.ensures.value) c.if-slot-id.false in
    subst (λ (t : Table). OnOk c.take.result (c.take.new.items ≡ c.args.items.now ++ items_at t.schema t.conns c.args.id)) c.self.view_is
    (subst (λ (more : List Item). OnOk c.take.result (c.take.new.items ≡ c.args.items.now ++ more))
    (sym (items_at-found o.schema (conns_from 0 o.slots.slots) c.args.id slot.conn found)) c.take.ensures.items)

pub returns-clause-took : goal.returns-clause-took
returns-clause-took c =
    on_ok c.take.result
    (λ is.
    let o = c.self.inside in
    rw (← c.self.view_is)
    (ap (λ (cs : List (ConnId × Conn)). record { schema = o.schema; secrets = o.secrets; added = o.added; places = o.slots.capacity; conns = cs })
    (changed_found o.slots.slots c.args.id (took o.schema) c.in-Some.slot.now c.take.new.self (sym c.in-Some.ensures.value) c.if-slot-id.false is)))
    c.take.ensures.took

pub returns-clause-others : goal.returns-clause-others
returns-clause-others c =
    let o = c.self.inside in
    changed_anyway o.slots.slots c.args.id (closed reasons.BatchMemory) c.in-Some.slot.now c.take.new.self (sym c.in-Some.ensures.value) c.if-slot-id.false (c.take.ensures.closes reasons.BatchMemory)
    ∙ ap (λ (t : Table). changed c.args.id (closed reasons.BatchMemory) t.conns) c.self.view_is

pub invariant_of-self-2 : goal.invariant_of-self-2
invariant_of-self-2 c =
    let o = c.self.inside in
    let slot = c.in-Some.slot.now in
    let was = slot_fit o.schema 0 c.args.id.number o.slots.slots slot (sym c.in-Some.ensures.value) c.self.invariant.1 in
    let fits = c.take.ensures.fits c.self.invariant.0 was in
    (c.self.invariant.0, set_fit o.schema 0 c.args.id.number o.slots.slots _ fits c.self.invariant.1, c.self.invariant.2, c.self.invariant.3)
