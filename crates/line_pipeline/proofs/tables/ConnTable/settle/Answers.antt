use Rattle.std.proofs.Common.{◌≡◌, ◌∙◌, List, sym, ap, subst}
use Rattle.std.specs.List.{AllByRecursion}
use Rattle.request_types.specs.declared.batches.Part.{Part}
use Rattle.line_pipeline.specs.Settled.{asked_by, answered_by, parts_of, HasPlace}
use Rattle.line_pipeline.proofs.SettleLemmas.{places-listed}
use Rattle.line_pipeline.proofs.tables.ConnTable.settle.Goals as goal

pub answer_each-requires-clause-places : goal.answer_each-requires-clause-places
answer_each-requires-clause-places c =
    let parts : c.into_vec.result.items ≡ parts_of c.args.outcome = c.into_vec.ensures ∙ sym (ap parts_of c.in-Done.is) in
    subst (λ (ps : List Part). AllByRecursion (HasPlace c.args.self.now.conns) (answered_by ps)) (sym parts)
    (places-listed c.args.self.now.conns (asked_by c.args.batch.now) (answered_by (parts_of c.args.outcome)) c.requires.places c.requires.asked)
