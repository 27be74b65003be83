use Rattle.std.proofs.Common.{◌∙◌, sym, ap}
use Rattle.line_pipeline.specs.Table.{Table, conn_at}
use Rattle.line_pipeline.proofs.SlotLemmas.{at_found, at_missing, at_stale}
use Rattle.line_pipeline.proofs.tables.ConnTable.conn.Goals as goal

pub returns-in_err-slot : goal.returns-in_err-slot
returns-in_err-slot c =
    rw c.from_residual.ensures
    (sym (at_missing c.self.inside.slots.slots c.args.id (sym c.in_err-slot.ensures)) ∙ ap (λ (t : Table). conn_at t.conns c.args.id) c.self.view_is)

pub returns-then-slot-id : goal.returns-then-slot-id
returns-then-slot-id c =
    sym (at_stale c.self.inside.slots.slots c.args.id c.in_ok-slot.slot.now (sym c.in_ok-slot.ensures) c.if-slot-id.true)
    ∙ ap (λ (t : Table). conn_at t.conns c.args.id) c.self.view_is

pub returns : goal.returns
returns c =
    sym (at_found c.self.inside.slots.slots c.args.id c.in_ok-slot.slot.now (sym c.in_ok-slot.ensures) c.if-slot-id.false)
    ∙ ap (λ (t : Table). conn_at t.conns c.args.id) c.self.view_is
