use Rattle.std.proofs.Common.{◌≡◌, ◌++◌, ◌∙◌, List, refl, ap, sym, subst}
use Rattle.std.specs.List.{filter, AllByRecursion}
use Rattle.request_types.specs.declared.connections.ConnId.{ConnId}
use Rattle.request_types.specs.declared.batches.Item.{Item}
use Rattle.line_pipeline.specs.declared.conns.Conn.{Conn}
use Rattle.line_pipeline.specs.declared.reasons.Reason.TheVariants as reasons
use Rattle.line_pipeline.specs.Conn.{took, closed, refused}
use Rattle.line_pipeline.specs.Table.{Table, all_changed}
use Rattle.line_pipeline.specs.Gathered.{batch_of, is_asking}
use Rattle.line_pipeline.specs.Settled.{HasPlace}
use Rattle.request_types.specs.Batches.{conns_of}
use Rattle.request_types.proofs.Ids.{once-filter}
use Rattle.request_types.specs.Fits.{ItemFits}
use Rattle.request_types.specs.Batches.{StandTogether}
use Rattle.line_pipeline.proofs.Fitting.{batch_fit}
use Rattle.line_pipeline.proofs.Runs.{together}
use Rattle.line_pipeline.proofs.TableLemmas.{kept_as}
use Rattle.line_pipeline.proofs.GatherLemmas.{batch_of-asking, all_changed-asking, took-none, refused-asking, refused-none}
use Rattle.line_pipeline.proofs.PlaceLemmas.{batch_placed}
use Rattle.line_pipeline.proofs.tables.ConnTable.gather.Goals as goal

pub take_each-requires : goal.take_each-requires
take_each-requires c =
    rw (c.as_slice.ensures.value, c.in-Ok.ensures.asking) (once-filter (is_asking c.args.self.now.conns) c.args.ready.now c.requires)

pub returns-in-Ok-take_each-clause-items : goal.returns-in-Ok-take_each-clause-items
returns-in-Ok-take_each-clause-items c =
    let t = c.args.self.now in
    let ids : c.as_slice.result.now ≡ filter (is_asking t.conns) c.args.ready.now = c.as_slice.ensures.value ∙ c.in-Ok.ensures.asking in
    c.in-Ok-take_each.ensures.items
    ∙ ap (λ (items : List Item). items ++ batch_of t.schema t.conns c.as_slice.result.now) c.new-items.ensures
    ∙ ap (batch_of t.schema t.conns) ids
    ∙ batch_of-asking t.schema t.conns c.args.ready.now

pub returns-in-Ok-take_each-clause-took : goal.returns-in-Ok-take_each-clause-took
returns-in-Ok-take_each-clause-took c =
    let t = c.args.self.now in
    let ids : c.as_slice.result.now ≡ filter (is_asking t.conns) c.args.ready.now = c.as_slice.ensures.value ∙ c.in-Ok.ensures.asking in
    kept_as t t c.take_each.new.self _ _ refl c.in-Ok-take_each.ensures.took
    (ap (λ (r : List ConnId). all_changed r (took t.schema) t.conns) ids
    ∙ all_changed-asking (took t.schema) (took t.schema) (λ conn is. refl) (took-none t.schema) t.conns c.args.ready.now t.conns c.in-Ok.ensures.found)

pub returns-in-Ok-take_each-clause-places : goal.returns-in-Ok-take_each-clause-places
returns-in-Ok-take_each-clause-places c =
    let t = c.args.self.now in
    let items = returns-in-Ok-take_each-clause-items c in
    let conns = ap (λ (table : Table). table.conns) (returns-in-Ok-take_each-clause-took c) in
    subst (λ (cs : List (ConnId × Conn)). AllByRecursion (HasPlace cs) (conns_of c.take_each.new.items)) (sym conns)
    (subst (λ (its : List Item). AllByRecursion (HasPlace (all_changed c.args.ready.now (took t.schema) t.conns)) (conns_of its)) (sym items)
    (batch_placed t.schema t.conns c.args.ready.now))

pub returns-clause-refused : goal.returns-clause-refused
returns-clause-refused c =
    let t = c.args.self.now in
    let taken = c.take_each.new.self in
    let ids : c.as_slice.result.now ≡ filter (is_asking t.conns) c.args.ready.now = c.as_slice.ensures.value ∙ c.in-Ok.ensures.asking in
    let again : c.as_slice-in-Err-take_each.result.now ≡ c.as_slice.result.now = c.as_slice-in-Err-take_each.ensures.value ∙ sym c.as_slice.ensures.value in
    kept_as t taken c.close_each.new.self _ _ c.in-Err-take_each.ensures.rest c.close_each.ensures
    (ap (λ (r : List ConnId). all_changed r (closed reasons.BatchMemory) taken.conns) again
    ∙ c.in-Err-take_each.ensures.others
    ∙ ap (λ (r : List ConnId). all_changed r (closed reasons.BatchMemory) t.conns) ids
    ∙ all_changed-asking (closed reasons.BatchMemory) refused refused-asking refused-none t.conns c.args.ready.now t.conns c.in-Ok.ensures.found)

pub returns-in-Ok-take_each-clause-fits : goal.returns-in-Ok-take_each-clause-fits
returns-in-Ok-take_each-clause-fits c =
    let t = c.args.self.now in
    subst (AllByRecursion (ItemFits t.schema)) (sym (returns-in-Ok-take_each-clause-items c))
    (batch_fit t.schema c.in-Ok.ensures.valid t.conns c.args.ready.now c.in-Ok.ensures.fits)

pub returns-in-Ok-take_each-clause-together : goal.returns-in-Ok-take_each-clause-together
returns-in-Ok-take_each-clause-together c =
    let t = c.args.self.now in
    subst StandTogether (sym (returns-in-Ok-take_each-clause-items c)) (together t.schema t.conns c.args.ready.now c.requires)
