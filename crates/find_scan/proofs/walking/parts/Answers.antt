use Rattle.std.proofs.Common.{◌≡◌, List, get_or, subst, ap, ◌∙◌}
use Rattle.row_types.specs.declared.indexes.IndexDef.{IndexDef}
use Rattle.row_types.specs.declared.tables.TableDef.{TableDef}
use Rattle.row_types.specs.declared.tables.Schema.{Schema}
use Rattle.find_scan.proofs.Fitting.{def_there, parts_there}
use Rattle.find_scan.proofs.walking.parts.Goals as goal

pub returns-clause-parts : goal.returns-clause-parts
returns-clause-parts c =
    let state = c.args.tables.now in
    let spec = c.args.spec.now in
    let table = c.index-as_slice-spec.result in
    let index = c.index-as_slice-spec-2.result in
    let tables = c.as_slice.ensures ∙ ap (λ (s : Schema). s.tables) c.schema.ensures.schema in
    let table_is = def_there state spec c.requires table (subst (λ (ts : List TableDef). table ≡ get_or ts spec.table table) tables c.index-as_slice-spec.is) in
    let indexes = c.as_slice-2.ensures ∙ ap (λ (t : TableDef). t.indexes) table_is in
    c.as_slice-3.ensures ∙ parts_there state spec c.requires index (subst (λ (is : List IndexDef). index ≡ get_or is spec.index index) indexes c.index-as_slice-spec-2.is)
