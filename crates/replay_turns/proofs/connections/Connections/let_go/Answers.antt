use Rattle.std.proofs.Common.{◌∙◌, List, length, refl, sym, ap, subst, arith}
use Rattle.request_types.specs.declared.connections.ConnId.{ConnId}
use Rattle.line_pipeline.specs.declared.conns.Conn.{Conn}
use Rattle.line_pipeline.specs.Conn.{state_of}
use Rattle.line_pipeline.specs.Gathered.{conn_of}
use Rattle.line_pipeline.specs.Table.{Table, without}
use Rattle.replay_turns.specs.declared.entries.Entry.{Entry}
use Rattle.replay_turns.specs.Told.{left_by}
use Rattle.replay_turns.specs.Entries.{place_from, all_linked, AreEntries}
use Rattle.replay_turns.proofs.Lookups.{found, missing, below, found-is, left_by-missing}
use Rattle.replay_turns.proofs.Places.{held-found, held_of, are-gone, same-gone, gone_at, stays_at, view_on, closed-is, live-is}
use Rattle.replay_turns.proofs.connections.Connections.let_go.Goals as goal

pub returns-in_default : goal.returns-in_default
returns-in_default c =
    let t = c.self.inside.links in
    let es = c.self.inside.entries.items in
    let none = missing c.args.number es (ap (place_from 0 c.args.number) (sym c.deref.ensures.value) ∙ sym c.in_default.ensures) in
    sym c.self.view_is ∙ view_on t.table t.table (all_linked t.table.conns t.links es) (all_linked t.table.conns t.links es) c.args.self.now (left_by c.args.number) refl (sym (left_by-missing t.table.conns t.links c.args.number es none)) c.self.view_is

pub index-requires : goal.index-requires
index-requires c =
    let place = found c.args.number c.self.inside.entries.items c.in-Some.at (ap (place_from 0 c.args.number) (sym c.deref.ensures.value) ∙ sym c.in-Some.ensures) in
    omega (arith, below c.args.number c.self.inside.entries.items c.in-Some.at place, c.deref.ensures.len, ap length c.deref.ensures.value)

pub state-requires : goal.state-requires
state-requires c =
    let t = c.self.inside.links in
    let es = c.self.inside.entries.items in
    let place = found c.args.number es c.in-Some.at (ap (place_from 0 c.args.number) (sym c.deref.ensures.value) ∙ sym c.in-Some.ensures) in
    held-found t.table.conns es c.in-Some.at c.index.result.now (below c.args.number es c.in-Some.at place) c.index.ensures c.self.invariant

pub remove-requires-in-Closed : goal.remove-requires-in-Closed
remove-requires-in-Closed c =
    let place = found c.args.number c.self.inside.entries.items c.in-Some.at (ap (place_from 0 c.args.number) (sym c.deref.ensures.value) ∙ sym c.in-Some.ensures) in
    omega (arith, below c.args.number c.self.inside.entries.items c.in-Some.at place, c.deref.ensures.len, ap length c.deref.ensures.value)

pub invariant_of-self : goal.invariant_of-self
invariant_of-self c =
    let t = c.self.inside.links in
    let u = c.remove.new.self in
    let es = c.self.inside.entries.items in
    let e = c.index.result.now in
    let place = found c.args.number es c.in-Some.at (ap (place_from 0 c.args.number) (sym c.deref.ensures.value) ∙ sym c.in-Some.ensures) in
    let gone = ap (λ (k : Table). k.conns) c.remove.ensures.gone ∙ ap (λ (f : Entry). without f.id t.table.conns) c.index.ensures in
    subst (λ (xs : List Entry). AreEntries u.table.conns xs) (sym c.remove-in-Closed.ensures.items)
    (are-gone t.table.conns u.table.conns e es c.in-Some.at (below c.args.number es c.in-Some.at place) gone c.self.invariant)

pub returns-in-Closed : goal.returns-in-Closed
returns-in-Closed c =
    let t = c.self.inside.links in
    let u = c.remove.new.self in
    let es = c.self.inside.entries.items in
    let e = c.index.result.now in
    let place = found c.args.number es c.in-Some.at (ap (place_from 0 c.args.number) (sym c.deref.ensures.value) ∙ sym c.in-Some.ensures) in
    let over = closed-is (conn_of t.table.conns e.id) c.state.result _ (found-is state_of _ _ c.state.ensures) c.in-Closed.is in
    let same = same-gone e.id t.table.conns u.table.conns t.links u.links (ap (λ (k : Table). k.conns) c.remove.ensures.gone) c.remove.ensures.others in
    view_on t.table u.table (all_linked t.table.conns t.links es) (all_linked u.table.conns u.links c.remove-in-Closed.new.self.items) c.args.self.now (left_by c.args.number)
    (c.remove.ensures.gone ∙ ap (λ (cs : List (ConnId × Conn)). record t.table { conns = cs }) (sym (ap (λ (k : Table). k.conns) c.remove.ensures.gone)))
    (ap (all_linked u.table.conns u.links) c.remove-in-Closed.ensures.items
    ∙ gone_at e.id t.table.conns t.links u.table.conns u.links same c.args.number es c.in-Some.at e _ place c.self.invariant.once (held_of t.table.conns es c.self.invariant) (ap (λ (f : Entry). f.id) (sym c.index.ensures)) over)
    c.self.view_is

pub returns-in_default-state : goal.returns-in_default-state
returns-in_default-state c =
    let t = c.self.inside.links in
    let es = c.self.inside.entries.items in
    let e = c.index.result.now in
    let place = found c.args.number es c.in-Some.at (ap (place_from 0 c.args.number) (sym c.deref.ensures.value) ∙ sym c.in-Some.ensures) in
    let live = live-is (conn_of t.table.conns e.id) c.state.result (found-is state_of _ _ c.state.ensures) c.in_default-state.not-Closed in
    sym c.self.view_is
    ∙ view_on t.table t.table (all_linked t.table.conns t.links es) (all_linked t.table.conns t.links es) c.args.self.now (left_by c.args.number) refl
    (stays_at t.table.conns t.links c.args.number es c.in-Some.at e live.0 place (ap (λ (f : Entry). conn_of t.table.conns f.id) (sym c.index.ensures) ∙ live.1))
    c.self.view_is
