use Rattle.std.proofs.Common.{◌∙◌, [], ◌∷◌, Some, set, sym, subst}
use Rattle.batch_worker.specs.Linked.{LinkTable, Each}
use Rattle.batch_worker.specs.Sending.{Passes}
use Rattle.batch_worker.proofs.Placed.{table_of, each-one, are-one, link-found}
use Rattle.batch_worker.proofs.links.Links.pass.Goals as goal

pub returns-in-Some : goal.returns-in-Some
returns-in-Some g c =
    let old = c.self.inside in
    let held = sym c.has.ensures ∙ c.if-not-has.false in
    let there = link-found old.table old.links.items c.args.id c.index_mut-place.result.now c.in-Some.link c.self.invariant.0 held c.index_mut-place.ensures.value c.in-Some.is in
    subst (λ (t : LinkTable g.row.L.Denot). Each g.L.Link.peer Passes (c.args.id ∷ []) t (table_of c.pass.new.table (set old.links.items c.args.id.number (Some c.pass.new.link)))) c.self.view_is
    (each-one g.L.Link.peer old.table c.pass.new.table old.links.items c.args.id c.in-Some.link c.pass.new.link c.pass.ensures.keeps held there c.self.invariant.0 Passes c.pass.ensures.passes)

pub invariant_of-self : goal.invariant_of-self
invariant_of-self g c =
    let old = c.self.inside in
    let held = sym c.has.ensures ∙ c.if-not-has.false in
    let there = link-found old.table old.links.items c.args.id c.index_mut-place.result.now c.in-Some.link c.self.invariant.0 held c.index_mut-place.ensures.value c.in-Some.is in (
      are-one g.L.Link.peer old.table c.pass.new.table old.links.items c.args.id c.in-Some.link c.pass.new.link c.pass.ensures.keeps held there c.self.invariant.0,
      c.self.invariant.1,
    )
