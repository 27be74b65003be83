use Rattle.std.proofs.Common.{◌≡◌, ◌∙◌, ℕ, ◌++◌, List, length, get_or, refl, sym, ap, arith}
use Rattle.request_types.specs.declared.connections.ConnId.{ConnId}
use Rattle.hs_outside.specs.MemoryLink.{LinkInMemory}
use Rattle.line_pipeline.specs.Gathered.{conn_of}
use Rattle.line_pipeline.specs.Table.{Table, is_held}
use Rattle.replay_turns.specs.declared.entries.Entry.{Entry}
use Rattle.line_pipeline.proofs.GatherLemmas.{on_ok}
use Rattle.replay_turns.specs.Linked.{on, peer_sent}
use Rattle.replay_turns.specs.Connected.{Connected}
use Rattle.replay_turns.specs.Entries.{link_of, all_linked, place_from}
use Rattle.replay_turns.proofs.Lookups.{found, missing, below, link-is, on-missing}
use Rattle.replay_turns.proofs.Places.{held-found, held_of, replaced-same, replaced-are, rest-same, linked-now, on_at, view_on}
use Rattle.replay_turns.proofs.connections.Connections.peer_bytes.Goals as goal

pub returns-in_default-clause-sent : goal.returns-in_default-clause-sent
returns-in_default-clause-sent c =
    let t = c.self.inside.links in
    let es = c.self.inside.entries.items in
    let none = missing c.args.number es (ap (place_from 0 c.args.number) (sym c.deref.ensures.value) ∙ sym c.in_default.ensures) in
    sym c.self.view_is
    ∙ view_on t.table t.table (all_linked t.table.conns t.links es) (all_linked t.table.conns t.links es) c.args.self.now (on c.args.number (peer_sent c.args.piece.now)) refl
    (sym (on-missing t.table.conns t.links c.args.number (peer_sent c.args.piece.now) es none))
    c.self.view_is

pub index-requires : goal.index-requires
index-requires c =
    let place = found c.args.number c.self.inside.entries.items c.in-Some.at (ap (place_from 0 c.args.number) (sym c.deref.ensures.value) ∙ sym c.in-Some.ensures) in
    omega (arith, below c.args.number c.self.inside.entries.items c.in-Some.at place, c.deref.ensures.len, ap length c.deref.ensures.value)

pub replace_link-link-requires : goal.replace_link-link-requires
replace_link-link-requires c =
    let t = c.self.inside.links in
    let es = c.self.inside.entries.items in
    let place = found c.args.number es c.in-Some.at (ap (place_from 0 c.args.number) (sym c.deref.ensures.value) ∙ sym c.in-Some.ensures) in
    held-found t.table.conns es c.in-Some.at c.index.result.now (below c.args.number es c.in-Some.at place) c.index.ensures c.self.invariant

pub replace_link-requires : goal.replace_link-requires
replace_link-requires c =
    let t = c.self.inside.links in
    let es = c.self.inside.entries.items in
    let place = found c.args.number es c.in-Some.at (ap (place_from 0 c.args.number) (sym c.deref.ensures.value) ∙ sym c.in-Some.ensures) in
    ap (λ (k : Table). is_held k.conns c.index.result.now.id) c.replace_link-link.ensures.table
    ∙ held-found t.table.conns es c.in-Some.at c.index.result.now (below c.args.number es c.in-Some.at place) c.index.ensures c.self.invariant

pub invariant_of-self : goal.invariant_of-self
invariant_of-self c =
    replaced-are c.self.inside.links c.replace_link-link.new.self c.replace_link.new.self c.index.result.now.id c.replace_link-link.ensures.table c.replace_link-link.ensures.others c.replace_link.ensures.table c.replace_link.ensures.others c.self.inside.entries.items c.self.invariant

-- the link with this piece behind what its peer had sent
abbrev with_piece : List ℕ → LinkInMemory → LinkInMemory
with_piece piece link = record link { left = link.left ++ piece }

pub returns-clause-sent : goal.returns-clause-sent
returns-clause-sent c =
    let t = c.self.inside.links in
    let u = c.replace_link.new.self in
    let es = c.self.inside.entries.items in
    let e = c.index.result.now in
    let place = found c.args.number es c.in-Some.at (ap (place_from 0 c.args.number) (sym c.deref.ensures.value) ∙ sym c.in-Some.ensures) in
    let same = replaced-same t c.replace_link-link.new.self u e.id c.replace_link-link.ensures.table c.replace_link-link.ensures.others c.replace_link.ensures.table c.replace_link.ensures.others in
    let tables = c.replace_link.ensures.table ∙ c.replace_link-link.ensures.table in
    let f = get_or es c.in-Some.at e in
    let own : f.id ≡ e.id = ap (λ (g : Entry). g.id) (sym c.index.ensures) in
    on_ok c.peer_bytes-taken.result
    (λ took.
    let link = link-is u.links e.id c.peer_bytes-taken.new.self c.replace_link.ensures.is ∙ took ∙ ap (with_piece c.args.piece.now) (sym (link-is t.links e.id c.replace_link-link.result c.replace_link-link.ensures.was)) in
    let goes = linked-now u.table.conns u.links f (conn_of t.table.conns f.id) (with_piece c.args.piece.now (link_of t.links f.id))
    (ap (λ (k : Table). conn_of k.conns f.id) tables)
    (ap (link_of u.links) own ∙ link ∙ ap (λ (x : ConnId). with_piece c.args.piece.now (link_of t.links x)) (sym own)) in
    view_on t.table u.table (all_linked t.table.conns t.links es) (all_linked u.table.conns u.links es) c.args.self.now (on c.args.number (peer_sent c.args.piece.now)) (rest-same t.table u.table tables)
    (on_at e.id t.table.conns t.links u.table.conns u.links same c.args.number (peer_sent c.args.piece.now) es c.in-Some.at e place c.self.invariant.once (held_of t.table.conns es c.self.invariant) own goes)
    c.self.view_is)
    c.peer_bytes-taken.ensures.ok

pub returns-clause-schema : goal.returns-clause-schema
returns-clause-schema c = ap (λ (k : Table). k.schema) (c.replace_link.ensures.table ∙ c.replace_link-link.ensures.table) ∙ ap (λ (v : Connected). v.schema) c.self.view_is
