use Rattle.std.proofs.Common.{◌≡◌, ◌∙◌, true, ap, sym, subst}
use Rattle.line_pipeline.specs.Table.{Table, is_held}
use Rattle.batch_worker.specs.Linked.{LinkTable, link_at}
use Rattle.batch_worker.proofs.Joined.{gone-kept, gone-linked}
use Rattle.batch_worker.proofs.links.Links.remove.Goals as goal

pub invariant_of-self : goal.invariant_of-self
invariant_of-self g c =
    let old = c.self.inside in
    let held = subst (λ (t : LinkTable g.row.L.Denot). is_held t.table.conns c.args.conn ≡ true) (sym c.self.view_is) c.requires in (
      gone-linked old.table old.links.items c.args.conn c.replace.new.dest held c.self.invariant.0 c.remove.new.self
          (ap (λ (t : Table). t.conns) c.remove.ensures) (ap (λ (t : Table). t.places) c.remove.ensures),
      c.self.invariant.1,
    )

pub returns-clause-others : goal.returns-clause-others
returns-clause-others g c x held_x =
    let old = c.self.inside in
    let held = subst (λ (t : LinkTable g.row.L.Denot). is_held t.table.conns c.args.conn ≡ true) (sym c.self.view_is) c.requires in
    gone-kept old.table old.links.items c.args.conn c.replace.new.dest held c.self.invariant.0 x
    (subst (λ (t : Table). is_held t.conns x ≡ true) c.remove.ensures held_x)
    ∙ ap (λ (t : LinkTable g.row.L.Denot). link_at t.links x) c.self.view_is
