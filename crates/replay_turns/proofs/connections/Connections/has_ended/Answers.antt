use Rattle.std.proofs.Common.{◌∙◌, length, sym, ap, arith}
use Rattle.hs_outside.specs.MemoryLink.{LinkInMemory}
use Rattle.replay_turns.specs.declared.entries.Entry.{Entry}
use Rattle.replay_turns.specs.Linked.{has_ended}
use Rattle.replay_turns.specs.Connected.{Connected}
use Rattle.replay_turns.specs.Entries.{link_of, place_from}
use Rattle.replay_turns.proofs.Lookups.{found, missing, below, link-is, has_ended-found, has_ended-missing}
use Rattle.replay_turns.proofs.Places.{held-found}
use Rattle.replay_turns.proofs.connections.Connections.has_ended.Goals as goal

pub index-requires : goal.index-requires
index-requires c =
    let place = found c.args.number c.self.inside.entries.items c.in-Some.at (ap (place_from 0 c.args.number) (sym c.deref.ensures.value) ∙ sym c.in-Some.ensures) in
    omega (arith, below c.args.number c.self.inside.entries.items c.in-Some.at place, c.deref.ensures.len, ap length c.deref.ensures.value)

pub link-requires : goal.link-requires
link-requires c =
    let t = c.self.inside.links in
    let es = c.self.inside.entries.items in
    let place = found c.args.number es c.in-Some.at (ap (place_from 0 c.args.number) (sym c.deref.ensures.value) ∙ sym c.in-Some.ensures) in
    held-found t.table.conns es c.in-Some.at c.index.result.now (below c.args.number es c.in-Some.at place) c.index.ensures c.self.invariant

pub returns-in-Some : goal.returns-in-Some
returns-in-Some c =
    let t = c.self.inside.links in
    let es = c.self.inside.entries.items in
    let e = c.index.result.now in
    let place = found c.args.number es c.in-Some.at (ap (place_from 0 c.args.number) (sym c.deref.ensures.value) ∙ sym c.in-Some.ensures) in
    c.peer_ended.ensures
    ∙ ap (λ (l : LinkInMemory). l.peer_ended) (sym (link-is t.links e.id c.link.result.now c.link.ensures))
    ∙ ap (λ (f : Entry). (link_of t.links f.id).peer_ended) c.index.ensures
    ∙ sym (has_ended-found t.table.conns t.links c.args.number es c.in-Some.at e place)
    ∙ ap (λ (v : Connected). has_ended c.args.number v.conns) c.self.view_is

pub returns-in-None : goal.returns-in-None
returns-in-None c =
    let t = c.self.inside.links in
    let es = c.self.inside.entries.items in
    let none = missing c.args.number es (ap (place_from 0 c.args.number) (sym c.deref.ensures.value) ∙ sym c.in-None.ensures) in
    sym (has_ended-missing t.table.conns t.links c.args.number es none) ∙ ap (λ (v : Connected). has_ended c.args.number v.conns) c.self.view_is
