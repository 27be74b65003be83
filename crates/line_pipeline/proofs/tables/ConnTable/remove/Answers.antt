use Rattle.std.proofs.Common.{◌≡◌, ◌∙◌, ℕ, List, Option, true, sym, ap, subst, arith}
use Rattle.request_types.specs.declared.connections.ConnId.{ConnId}
use Rattle.line_pipeline.specs.declared.conns.Conn.{Conn}
use Rattle.line_pipeline.specs.declared.slots.Slot.{Slot}
use Rattle.line_pipeline.specs.Fitting.{ConnsFit}
use Rattle.line_pipeline.proofs.Fitting.{unset_fit}
use Rattle.line_pipeline.specs.Slots.{conns_from}
use Rattle.line_pipeline.specs.Table.{Table, is_held, without}
use Rattle.line_pipeline.proofs.TableLemmas.{table_of}
use Rattle.line_pipeline.proofs.SlotLemmas.{slot_held, zero_more}
use Rattle.line_pipeline.proofs.AddLemmas.{without-from, some_slot}
use Rattle.line_pipeline.proofs.tables.ConnTable.remove.Goals as goal

pub remove-requires : goal.remove-requires
remove-requires c =
    let slots = c.self.inside.slots.slots in
    let held : is_held (conns_from 0 slots) c.args.conn ≡ true = ap (λ (t : Table). is_held t.conns c.args.conn) c.self.view_is ∙ c.requires in
    some_slot slots c.args.conn (slot_held slots c.args.conn held)

pub returns : goal.returns
returns c =
    let o = c.self.inside in
    let slots = o.slots.slots in
    let held : is_held (conns_from 0 slots) c.args.conn ≡ true = ap (λ (t : Table). is_held t.conns c.args.conn) c.self.view_is ∙ c.requires in
    let found = slot_held slots c.args.conn held in
    rw (← c.self.view_is)
    (ap (table_of o.schema o.secrets o.added c.remove.new.self.capacity)
    (ap (conns_from 0) c.remove.ensures.slots ∙ sym (without-from 0 c.args.conn.number slots c.args.conn found.slot (sym (zero_more c.args.conn.number)) found.there found.same))
    ∙ ap (λ (n : ℕ). table_of o.schema o.secrets o.added n (without c.args.conn (conns_from 0 slots))) c.remove.ensures.capacity)

pub invariant_of-self : goal.invariant_of-self
invariant_of-self c =
    let o = c.self.inside in
    let fits = subst (λ (slots : List (Option Slot)). ConnsFit o.schema (conns_from 0 slots)) (sym c.remove.ensures.slots) (unset_fit o.schema 0 c.args.conn.number o.slots.slots c.self.invariant.1) in
    let capacity = c.remove.ensures.capacity in
    (c.self.invariant.0, fits, omega (arith, capacity, c.self.invariant.2), omega (arith, capacity, c.self.invariant.3))
