use Rattle.std.proofs.Common.{◌∙◌, ◌++◌, ℕ, List, Option, Some, length, drop, refl, sym, ap, arith}
use Rattle.std.specs.Prelude.{codes}
use Rattle.std.proofs.lemmas.List.{append-nil}
use Rattle.hs_outside.specs.MemoryLink.{LinkInMemory}
use Rattle.line_pipeline.specs.Conn.{state_of}
use Rattle.line_pipeline.specs.Gathered.{conn_of}
use Rattle.line_pipeline.proofs.GatherLemmas.{on_ok}
use Rattle.replay_turns.specs.declared.entries.Entry.{Entry}
use Rattle.replay_turns.specs.Linked.{Linked, linked_at}
use Rattle.replay_turns.specs.Told.{told, line_of}
use Rattle.replay_turns.specs.Connected.{Connected}
use Rattle.replay_turns.specs.Entries.{linked, place_from}
use Rattle.replay_turns.proofs.Lookups.{found, missing, below, found-number, found-is, link-is, linked_at-found, linked_at-missing}
use Rattle.replay_turns.proofs.Places.{held-found, closed-is, lives-is}
use Rattle.replay_turns.proofs.ToldLines.{behind-is, told-closed, told-live}
use Rattle.replay_turns.proofs.connections.Connections.tell.Goals as goal

pub returns-in_default : goal.returns-in_default
returns-in_default c =
    let t = c.self.inside.links in
    let es = c.self.inside.entries.items in
    let none = missing c.args.number es (ap (place_from 0 c.args.number) (sym c.deref.ensures.value) ∙ sym c.in_default.ensures) in
    let nobody = ap (λ (v : Connected). linked_at c.args.number v.conns) (sym c.self.view_is) ∙ linked_at-missing t.table.conns t.links c.args.number es none in
    sym (append-nil c.args.text.now.items) ∙ ap (λ (o : Option Linked). c.args.text.now.items ++ told c.args.count o) (sym nobody)

pub index-requires : goal.index-requires
index-requires c =
    let place = found c.args.number c.self.inside.entries.items c.in-Some.at (ap (place_from 0 c.args.number) (sym c.deref.ensures.value) ∙ sym c.in-Some.ensures) in
    omega (arith, below c.args.number c.self.inside.entries.items c.in-Some.at place, c.deref.ensures.len, ap length c.deref.ensures.value)

pub link-requires : goal.link-requires
link-requires c =
    let t = c.self.inside.links in
    let es = c.self.inside.entries.items in
    let place = found c.args.number es c.in-Some.at (ap (place_from 0 c.args.number) (sym c.deref.ensures.value) ∙ sym c.in-Some.ensures) in
    held-found t.table.conns es c.in-Some.at c.index.result.now (below c.args.number es c.in-Some.at place) c.index.ensures c.self.invariant

pub state-requires : goal.state-requires
state-requires c =
    let t = c.self.inside.links in
    let es = c.self.inside.entries.items in
    let place = found c.args.number es c.in-Some.at (ap (place_from 0 c.args.number) (sym c.deref.ensures.value) ∙ sym c.in-Some.ensures) in
    held-found t.table.conns es c.in-Some.at c.index.result.now (below c.args.number es c.in-Some.at place) c.index.ensures c.self.invariant

pub returns-in-Live : goal.returns-in-Live
returns-in-Live c =
    let t = c.self.inside.links in
    let es = c.self.inside.entries.items in
    let e = c.index.result.now in
    let place = found c.args.number es c.in-Some.at (ap (place_from 0 c.args.number) (sym c.deref.ensures.value) ∙ sym c.in-Some.ensures) in
    let at = ap (λ (v : Connected). linked_at c.args.number v.conns) (sym c.self.view_is) ∙ linked_at-found t.table.conns t.links c.args.number es c.in-Some.at e place ∙ ap (λ (f : Entry). Some (linked t.table.conns t.links f)) (sym c.index.ensures) in
    let live = lives-is (conn_of t.table.conns e.id) c.state.result (found-is state_of _ _ c.state.ensures) c.in-Live.is in
    let sent = c.sent-sent.ensures ∙ ap (λ (l : LinkInMemory). l.sent) (sym (link-is t.links e.id c.link.result.now c.link.ensures)) in
    told-live c.args.text.now.items c.push_line.new.text.items c.args.count c.args.number (linked t.table.conns t.links e) _ _ live.0 at
    (ap (λ (f : Entry). f.number) c.index.ensures ∙ found-number c.args.number es c.in-Some.at e place)
    (behind-is c.args.count c.min.result c.sent-sent.result.now _ c.min.ensures refl ∙ ap (drop c.args.count) sent)
    live.1 c.in_ok-push_line.ensures

pub returns-in-Closed : goal.returns-in-Closed
returns-in-Closed c =
    let t = c.self.inside.links in
    let es = c.self.inside.entries.items in
    let e = c.index.result.now in
    let place = found c.args.number es c.in-Some.at (ap (place_from 0 c.args.number) (sym c.deref.ensures.value) ∙ sym c.in-Some.ensures) in
    let at = ap (λ (v : Connected). linked_at c.args.number v.conns) (sym c.self.view_is) ∙ linked_at-found t.table.conns t.links c.args.number es c.in-Some.at e place ∙ ap (λ (f : Entry). Some (linked t.table.conns t.links f)) (sym c.index.ensures) in
    let over = closed-is (conn_of t.table.conns e.id) c.state.result c.in-Closed.reason (found-is state_of _ _ c.state.ensures) c.in-Closed.is in
    let sent = c.sent-sent.ensures ∙ ap (λ (l : LinkInMemory). l.sent) (sym (link-is t.links e.id c.link.result.now c.link.ensures)) in
    on_ok c.push_line-in-Closed.result
    (λ second.
    told-closed c.args.text.now.items c.push_line.new.text.items c.push_line-in-Closed.new.text.items c.args.count c.args.number (linked t.table.conns t.links e) _ _ c.in-Closed.reason at
    (ap (λ (f : Entry). f.number) c.index.ensures ∙ found-number c.args.number es c.in-Some.at e place)
    (behind-is c.args.count c.min.result c.sent-sent.result.now _ c.min.ensures refl ∙ ap (drop c.args.count) sent)
    over c.in_ok-push_line.ensures (second ∙ ap (λ (w : List ℕ). c.push_line.new.text.items ++ line_of (codes "closed") c.args.number w) c.reason_word.ensures))
    c.push_line-in-Closed.ensures
