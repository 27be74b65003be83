use Rattle.std.proofs.Common.{◌∙◌, length, sym, ap, arith}
use Rattle.hs_outside.specs.MemoryLink.{LinkInMemory}
use Rattle.replay_turns.specs.declared.entries.Entry.{Entry}
use Rattle.replay_turns.specs.Linked.{linked_at}
use Rattle.replay_turns.specs.Told.{sent_so_far}
use Rattle.replay_turns.specs.Connected.{Connected}
use Rattle.replay_turns.specs.Entries.{link_of, place_from}
use Rattle.replay_turns.proofs.Lookups.{found, missing, below, link-is, linked_at-found, linked_at-missing}
use Rattle.replay_turns.proofs.Places.{held-found}
use Rattle.replay_turns.proofs.connections.Connections.count_of.Goals as goal

pub index-requires : goal.index-requires
index-requires c =
    let place = found c.args.number c.self.inside.entries.items c.in-Some.at (ap (place_from 0 c.args.number) (sym c.deref.ensures.value) ∙ sym c.in-Some.ensures) in
    omega (arith, below c.args.number c.self.inside.entries.items c.in-Some.at place, c.deref.ensures.len, ap length c.deref.ensures.value)

pub link-requires : goal.link-requires
link-requires c =
    let t = c.self.inside.links in
    let es = c.self.inside.entries.items in
    let place = found c.args.number es c.in-Some.at (ap (place_from 0 c.args.number) (sym c.deref.ensures.value) ∙ sym c.in-Some.ensures) in
    held-found t.table.conns es c.in-Some.at c.index.result.now (below c.args.number es c.in-Some.at place) c.index.ensures c.self.invariant

pub returns-in-Some : goal.returns-in-Some
returns-in-Some c =
    let t = c.self.inside.links in
    let es = c.self.inside.entries.items in
    let e = c.index.result.now in
    let place = found c.args.number es c.in-Some.at (ap (place_from 0 c.args.number) (sym c.deref.ensures.value) ∙ sym c.in-Some.ensures) in
    ap length (c.sent.ensures ∙ ap (λ (l : LinkInMemory). l.sent) (sym (link-is t.links e.id c.link.result.now c.link.ensures)))
    ∙ ap (λ (f : Entry). length (link_of t.links f.id).sent) c.index.ensures
    ∙ ap sent_so_far (sym (linked_at-found t.table.conns t.links c.args.number es c.in-Some.at e place))
    ∙ ap (λ (v : Connected). sent_so_far (linked_at c.args.number v.conns)) c.self.view_is

pub returns-in-None : goal.returns-in-None
returns-in-None c =
    let t = c.self.inside.links in
    let es = c.self.inside.entries.items in
    let none = missing c.args.number es (ap (place_from 0 c.args.number) (sym c.deref.ensures.value) ∙ sym c.in-None.ensures) in
    ap sent_so_far (sym (linked_at-missing t.table.conns t.links c.args.number es none)) ∙ ap (λ (v : Connected). sent_so_far (linked_at c.args.number v.conns)) c.self.view_is
