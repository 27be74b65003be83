use Rattle.std.proofs.Common.{◌∙◌, Option, Some, length, sym, ap, arith, option_map}
use Rattle.request_types.specs.declared.ports.Port.{Port}
use Rattle.replay_turns.specs.declared.entries.Entry.{Entry}
use Rattle.replay_turns.specs.Linked.{Linked, linked_at}
use Rattle.replay_turns.specs.Connected.{Connected}
use Rattle.replay_turns.specs.Entries.{place_from}
use Rattle.replay_turns.proofs.Lookups.{found, missing, below, linked_at-found, linked_at-missing}
use Rattle.replay_turns.proofs.connections.Connections.port_of.Goals as goal

pub index-requires : goal.index-requires
index-requires c =
    let place = found c.args.number c.self.inside.entries.items c.in-Some.at (ap (place_from 0 c.args.number) (sym c.deref.ensures.value) ∙ sym c.in-Some.ensures) in
    omega (arith, below c.args.number c.self.inside.entries.items c.in-Some.at place, c.deref.ensures.len, ap length c.deref.ensures.value)

abbrev port_in : Option Linked → Option Port
port_in o = option_map (λ (l : Linked). l.port) o

pub returns-in-Some : goal.returns-in-Some
returns-in-Some c =
    let t = c.self.inside.links in
    let es = c.self.inside.entries.items in
    let place = found c.args.number es c.in-Some.at (ap (place_from 0 c.args.number) (sym c.deref.ensures.value) ∙ sym c.in-Some.ensures) in
    ap (λ (e : Entry). Some e.port) c.index.ensures
    ∙ ap port_in (sym (linked_at-found t.table.conns t.links c.args.number es c.in-Some.at c.index.result.now place))
    ∙ ap (λ (v : Connected). port_in (linked_at c.args.number v.conns)) c.self.view_is

pub returns-in-None : goal.returns-in-None
returns-in-None c =
    let t = c.self.inside.links in
    let es = c.self.inside.entries.items in
    let none = missing c.args.number es (ap (place_from 0 c.args.number) (sym c.deref.ensures.value) ∙ sym c.in-None.ensures) in
    ap port_in (sym (linked_at-missing t.table.conns t.links c.args.number es none)) ∙ ap (λ (v : Connected). port_in (linked_at c.args.number v.conns)) c.self.view_is
