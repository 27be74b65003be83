use Rattle.std.proofs.Common.{◌∙◌, [], ◌++◌, List, sym, ap, Option}
use Rattle.row_types.specs.declared.values.Value.{Value}
use Rattle.request_types.specs.declared.finds.InSpec.{InSpec}
use Rattle.find_scan.specs.Select.{found, keys_of, matching}
use Rattle.find_scan.specs.Gathering.{gives}
use Rattle.find_scan.proofs.Gathered.{on_ok}
use Rattle.find_scan.proofs.selecting.scan_all.Goals as goal

pub returns-in-None : goal.returns-in-None
returns-in-None c =
    let state = c.args.tables.now in
    let spec = c.args.spec.now in
    let before = c.args.selection.now in
    on_ok c.scan.result (λ scanned. scanned []
    ∙ ap (λ (key : List Value). gives spec.filters before (matching state spec key ++ [])) c.as_slice.ensures
    ∙ ap (λ (within : Option InSpec). gives spec.filters before (found state spec (keys_of spec.key within))) (sym c.in-None.is)) c.scan.ensures
