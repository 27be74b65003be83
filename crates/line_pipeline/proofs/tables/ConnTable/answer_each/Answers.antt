use Rattle.std.proofs.Common.{◌≡◌, ◌∷◌, ◌∙◌, List, true, false, sym, ap, subst}
use Rattle.std.specs.List.{AllByRecursion}
use Rattle.request_types.specs.declared.connections.ConnId.{ConnId}
use Rattle.request_types.specs.declared.batches.Part.{Part}
use Rattle.line_pipeline.specs.declared.conns.Conn.{Conn}
use Rattle.line_pipeline.specs.Conn.{answered}
use Rattle.request_types.specs.Ids.{is_listed, are_once}
use Rattle.line_pipeline.specs.Table.{Table, changed}
use Rattle.line_pipeline.specs.Settled.{all_told, answered_by, HasPlace}
use Rattle.request_types.proofs.Ids.{once-head, once-tail}
use Rattle.line_pipeline.proofs.TableLemmas.{kept, kept_is}
use Rattle.line_pipeline.proofs.SettleLemmas.{all_told-one, all_told-none, places-changed, no_first}
use Rattle.line_pipeline.proofs.tables.ConnTable.answer_each.Goals as goal

pub loop-part-preserved : goal.loop-part-preserved
loop-part-preserved c =
    let i = c.loop-part.invariant in
    let now = c.loop-part.self in
    let part = c.in-Some.part in
    let rest = c.pop_front.new.self.items in
    let items : c.loop-part.parts.items ≡ part ∷ rest = c.in-Some.ensures.items in
    let once : are_once (answered_by (part ∷ rest)) ≡ true = sym (ap (λ (ps : List Part). are_once (answered_by ps)) items) ∙ i.3 in
    let places = subst (λ (ps : List Part). AllByRecursion (HasPlace now.conns) (answered_by ps)) items i.2 in
    let apart : is_listed (answered_by rest) part.conn ≡ false = once-head part.conn (answered_by rest) once in
    let conns : c.apply.new.self.conns ≡ changed part.conn (answered part.text) now.conns = ap (λ (t : Table). t.conns) c.apply.ensures in (
      kept c.args.self.now now c.apply.new.self _ i.0 c.apply.ensures,
      ap (all_told rest) conns ∙ all_told-one part rest apart now.conns ∙ ap (λ (ps : List Part). all_told ps now.conns) (sym items) ∙ i.1,
      subst (λ (cs : List (ConnId × Conn)). AllByRecursion (HasPlace cs) (answered_by rest)) (sym conns) (places-changed (answered part.text) part.conn now.conns (answered_by rest) apart places.1),
      once-tail part.conn (answered_by rest) once,
    )

pub returns : goal.returns
returns c =
    let i = c.loop-part.invariant in
    let now = c.loop-part.self in
    let none = no_first c.loop-part.parts.items (c.in_default.ensures.items ∙ c.in_default.ensures.rest) in
    kept_is c.args.self.now now _ i.0
    (sym (all_told-none now.conns) ∙ ap (λ (ps : List Part). all_told ps now.conns) (sym none) ∙ i.1 ∙ ap (λ (ps : List Part). all_told ps c.args.self.now.conns) c.from_vec-parts.ensures.items)
