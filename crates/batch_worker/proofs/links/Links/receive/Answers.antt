use Rattle.std.proofs.Common.{◌∙◌, [], ◌∷◌, Some, set, sym, subst}
use Rattle.batch_worker.specs.Linked.{LinkTable, Each}
use Rattle.batch_worker.specs.Receiving.{Receives}
use Rattle.batch_worker.proofs.Placed.{table_of, each-one, link-found}
use Rattle.batch_worker.proofs.links.Links.receive.Goals as goal

pub returns-in-Some : goal.returns-in-Some
returns-in-Some g c =
    let old = c.self.inside in
    let held = sym c.has.ensures ∙ c.if-not-has.false in
    let there = link-found old.table old.links.items c.args.id c.index_mut-place.result.now c.in-Some.link c.self.invariant.0 held c.index_mut-place.ensures.value c.in-Some.is in
    subst (λ (t : LinkTable g.row.L.Denot). Each g.L.Link.peer Receives (c.args.id ∷ []) t (table_of c.receive.new.table (set old.links.items c.args.id.number (Some c.receive.new.link)))) c.self.view_is
    (each-one g.L.Link.peer old.table c.receive.new.table old.links.items c.args.id c.in-Some.link c.receive.new.link c.receive.ensures.keeps held there c.self.invariant.0 Receives c.receive.ensures.receives)
